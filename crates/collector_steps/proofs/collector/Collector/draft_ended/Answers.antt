use Rattle.std.proofs.Common.{◌∙◌, ap, arith, sym}
use Rattle.collector_steps.proofs.Words.{Collecting, colours_in, colours_of, volume_of, waiting_in}
use Rattle.marking.specs.Colours.{draft_over}
use Rattle.collector_steps.proofs.Kept.{ended_is, ended_kept}
use Rattle.collector_steps.proofs.Lefts.{ends_less}
use Rattle.collector_steps.proofs.collector.Collector.draft_ended.Goals as goal

pub returns-clause-ended : goal.returns-clause-ended
returns-clause-ended c =
    c.set_cursor.ensures.moved
    ∙ ended_is c.args.id (colours_of c.self.inside.marks) c.in-Some.cursor (sym c.cursor_of.ensures ∙ c.in-Some.is)
    (omega (arith, c.if-cursor-ge-OWN_PART.false))
    ∙ ap (λ (k : Collecting). draft_over c.args.id (colours_in k)) c.self.view_is

pub returns-clause-left : goal.returns-clause-left
returns-clause-left c =
    let was = c.self.view_is in
    ends_less c.args.self.now _ (c.set_cursor.ensures.blocks ∙ ap volume_of was) c.args.id
    (ap (λ (k : Collecting). k.phase) was) (returns-clause-ended c) (ap waiting_in was)

pub returns-clause-keeps : goal.returns-clause-keeps
returns-clause-keeps c = λ s image none is.
    let was = c.self.view_is in
    ended_kept image s c.args.self.now _ c.args.id none (returns-clause-ended c) (ap waiting_in was)
    (ap (λ (k : Collecting). k.phase) was) (c.set_cursor.ensures.blocks ∙ ap volume_of was)
    (ap (λ (k : Collecting). k.steps) was) (ap (λ (k : Collecting). k.added) was) is
