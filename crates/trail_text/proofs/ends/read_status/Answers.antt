use Rattle.std.proofs.Common.{sym, ap, ◌∙◌, ◌≡◌}
use Rattle.trail_text.proofs.Words.{in_8, read_8, status_line, status_read, texts, word_at, words_in}
use Rattle.trail_text.proofs.Back.{none, status_back}
use Rattle.trail_text.proofs.ends.read_status.Goals as goal

pub returns-then-not-branch-clause-bad : goal.returns-then-not-branch-clause-bad
returns-then-not-branch-clause-bad c =
    let words = rw c.in_ok-words.was at c.words_in.ensures in
    let read : texts c.as_slice.result.now ≡ words_in c.args.line.now = rw c.as_slice.ensures.value words in
    let told = rw c.in_ok-is_status.was at c.is_status.ensures in
    λ bad. none in_8 status_line (λ l. status_read (words_in l)) status_back c.args.line.now c.number_in_8-status.result
    (c.number_in_8-status.ensures ∙ ap read_8 (c.word_at.ensures ∙ ap (λ ws. word_at ws 1) read)) (sym told ∙ c.if-not-branch.true)
