use Rattle.std.proofs.Common.{sym, ap, ◌∙◌, ◌≡◌}
use Rattle.trail_text.proofs.Words.{opening_fits, opening_line, opening_read, texts, words_in}
use Rattle.trail_text.proofs.Back.{none, opening_back}
use Rattle.trail_text.proofs.ends.read_opening.Goals as goal

pub returns-then-not-branch-clause-bad : goal.returns-then-not-branch-clause-bad
returns-then-not-branch-clause-bad c =
    let words = rw c.in_ok-words.was at c.words_in.ensures in
    let read : texts c.as_slice.result.now ≡ words_in c.args.line.now = rw c.as_slice.ensures.value words in
    let told = rw c.in_ok-is_opening.was at c.is_opening.ensures in
    λ bad. none opening_fits opening_line (λ l. opening_read (words_in l)) opening_back c.args.line.now c.opening_in-opening.result (c.opening_in-opening.ensures ∙ ap opening_read read)
    (sym told ∙ c.if-not-branch.true)
