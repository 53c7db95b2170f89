use Rattle.std.proofs.Common.{sym, ap, ◌∙◌, ◌≡◌}
use Rattle.trail_text.proofs.Words.{event_line, event_read, fits, texts, words_in}
use Rattle.trail_text.proofs.Back.{its_line, line_back, none}
use Rattle.trail_text.proofs.read.read_event.Goals as goal

pub returns-then-not-branch-clause-bad : goal.returns-then-not-branch-clause-bad
returns-then-not-branch-clause-bad c =
    let words = rw c.in_ok-words.was at c.words_in.ensures in
    let event = rw c.in_ok-event.was at c.event_in.ensures in
    let told = rw c.in_ok-is_line_of.was at c.is_line_of.ensures in
    let read : texts c.as_slice.result.now ≡ words_in c.args.line.now = rw c.as_slice.ensures.value words in
    λ bad. none fits event_line (λ l. event_read (words_in l)) line_back c.args.line.now c.in_ok-event.event (event ∙ ap event_read read) (sym told ∙ c.if-not-branch.true)

pub returns-clause-fits : goal.returns-clause-fits
returns-clause-fits c = (its_line c.args.line.now (event_line c.in_ok-event.event) (sym (rw c.in_ok-is_line_of.was at c.is_line_of.ensures) ∙ c.if-not-branch.false)).0

pub returns-clause-line : goal.returns-clause-line
returns-clause-line c = (its_line c.args.line.now (event_line c.in_ok-event.event) (sym (rw c.in_ok-is_line_of.was at c.is_line_of.ensures) ∙ c.if-not-branch.false)).1
