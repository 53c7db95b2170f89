use Rattle.std.proofs.Common.{◌++◌, ◌∷◌, ◌∙◌, List, ℕ, ap, inr}
use Rattle.cfs_audit.proofs.Words.{ended, opening_line}
use Rattle.cfs_audit.proofs.Followed.{at_first, at_next, broken_off, illegal_here, last_verdict, started}
use Rattle.cfs_audit.proofs.trail.follow.Goals as goal

pub lines-init : goal.lines-init
lines-init c =
    at_first c.args.opening c.args.text.now c.in_ok-follower.follower c.requires.opened c.requires.few
    (c.in_ok-follower.ensures ∙ ap (started c.args.opening) c.word_of.ensures)

pub lines-preserved : goal.lines-preserved
lines-preserved c =
    let made = rw c.if-not-branch.false at (rw c.in_ok-step-in-Ok.was at c.step.ensures.made) in
    at_next (ended (opening_line c.args.opening) ++ c.args.text.now) c.lines.rest.now c.in-Some.next.rest.now c.args.opening c.lines.events c.lines.follower c.step.new.self c.in-Ok.event c.lines.invariant c.in-Ok.ensures.fits
    (c.in-Some.ensures.text ∙ ap (λ (l : List ℕ). l ++ 10 ∷ c.in-Some.next.rest.now) c.in-Ok.ensures.line) made.0 made.1 made.2

pub returns-then-not-branch : goal.returns-then-not-branch
returns-then-not-branch c =
    let made = rw c.if-not-branch.true at (rw c.in_ok-step-in-Ok.was at c.step.ensures.made) in
    illegal_here (ended (opening_line c.args.opening) ++ c.args.text.now) c.lines.rest.now c.args.opening c.lines.events c.lines.follower c.lines.invariant c.in-Some.next.line.now c.in-Some.next.rest.now c.in-Some.ensures.text
    c.in-Ok.event c.in-Ok.ensures.fits c.in-Ok.ensures.line made.0

pub returns-in-Err-BadLine : goal.returns-in-Err-BadLine
returns-in-Err-BadLine c =
    last_verdict (ended (opening_line c.args.opening) ++ c.args.text.now) c.lines.rest.now c.args.opening c.lines.events c.lines.follower c.lines.invariant c.in-Some.next.line.now c.in-Some.next.rest.now c.in-Some.ensures.text
    c.in-Some.ensures.line (c.in-Err-BadLine.ensures.bad c.in-Err-BadLine.field-0-is) c.last.result c.last.ensures

pub returns : goal.returns
returns c = inr (broken_off (ended (opening_line c.args.opening) ++ c.args.text.now) c.lines.rest.now c.args.opening c.lines.events c.lines.follower c.lines.invariant c.in_default.ensures.none)
