use Rattle.std.proofs.Common.{◌≡◌, [], Some, None, sym, ◌∙◌, ap, subst}
use Rattle.cfs_core.proofs.Words.{first_grant, grants_of-fewer}
use Rattle.ufs_model.specs.declared.asked.Event.TheVariants as events
use Rattle.cfs_core.specs.Asked.{Happens, halted}
use Rattle.cfs_core.specs.Kernel.{grants_in}
use Rattle.cfs_core.specs.Leaving.{halt_of}
use Rattle.cfs_core.proofs.Lefts.{adds_nothing}
use Rattle.cfs_core.specs.Rescues.{AreRescued}
use Rattle.cfs_core.proofs.Leaving.{all_dropped, has_left, sheds_none, sheds_then}
use Rattle.cfs_core.proofs.kernel.Core.leave.Goals as goal

pub loop-grant-init : goal.loop-grant-init
loop-grant-init g c = sheds_none g.D.Disk c.args.who c.args.self.now

pub loop-grant-preserved : goal.loop-grant-preserved
loop-grant-preserved g c = sheds_then g.D.Disk c.args.who _ _ _ c.loop-grant.invariant c.drop_grant.ensures.sheds

pub loop-grant-smaller : goal.loop-grant-smaller
loop-grant-smaller g c =
    let first : first_grant (grants_in c.loop-grant.self.handles) c.args.who ≡ Some c.in-Some.grant = ap (λ x. first_grant (grants_in x.handles) c.args.who) (sym c.self-in-loop-grant.view_is) ∙ sym c.next_of.ensures ∙ c.in-Some.is in
    rw c.drop_grant.ensures.gone (grants_of-fewer (grants_in c.loop-grant.self.handles) c.args.who c.in-Some.grant first)

pub drop_grant-requires : goal.drop_grant-requires
drop_grant-requires g c =
    let first : first_grant (grants_in c.loop-grant.self.handles) c.args.who ≡ Some c.in-Some.grant = ap (λ x. first_grant (grants_in x.handles) c.args.who) (sym c.self-in-loop-grant.view_is) ∙ sym c.next_of.ensures ∙ c.in-Some.is in
    record { first = first }

pub returns-clause-event : goal.returns-clause-event
returns-clause-event g c = λ s stands.
    subst (λ r. Happens g.D.Disk c.args.self.now c.loop-grant.self s (events.Leave c.args.who (halted r))) (sym (c.halt_of.ensures ∙ ap (λ x. halt_of x.stop c.self-2.inside.stop) c.self.view_is ∙ ap (λ x. halt_of c.args.self.now.stop x.stop) c.self-2.view_is))
    (has_left g.D.Disk c.args.who g.met.D.Disk.left_sized g.met.D.Disk.sized c.args.self.now c.loop-grant.self c.loop-grant.invariant (ap (λ x. first_grant (grants_in x.handles) c.args.who) (sym c.self-in-loop-grant.view_is) ∙ sym c.next_of.ensures ∙ c.in_default.is) s stands)

pub returns-clause-words : goal.returns-clause-words
returns-clause-words g c = c.loop-grant.invariant.words

pub returns-clause-size : goal.returns-clause-size
returns-clause-size g c = c.loop-grant.invariant.size

pub returns-clause-faults : goal.returns-clause-faults
returns-clause-faults g c = c.loop-grant.invariant.faults

pub returns-clause-later : goal.returns-clause-later
returns-clause-later g c = c.loop-grant.invariant.later

pub returns-clause-ended : goal.returns-clause-ended
returns-clause-ended g c =
    let none : first_grant (grants_in c.loop-grant.self.handles) c.args.who ≡ None = ap (λ x. first_grant (grants_in x.handles) c.args.who) (sym c.self-in-loop-grant.view_is) ∙ sym c.next_of.ensures ∙ c.in_default.is in
    subst (AreRescued c.args.self.now.collections.collector c.loop-grant.self.collections.collector []) (all_dropped g.D.Disk c.args.who c.args.self.now c.loop-grant.self c.loop-grant.invariant none) c.loop-grant.invariant.ended

pub returns-clause-called : goal.returns-clause-called
returns-clause-called g c = c.loop-grant.invariant.called

pub returns-clause-finished : goal.returns-clause-finished
returns-clause-finished g c = c.loop-grant.invariant.finished

pub returns-clause-waits : goal.returns-clause-waits
returns-clause-waits g c =
    let sheds = c.loop-grant.invariant in
    adds_nothing (g.D.Disk.blocks c.args.self.now.disk) c.args.self.now.collections c.loop-grant.self.collections sheds.over sheds.ended sheds.called sheds.finished

pub returns-clause-sound : goal.returns-clause-sound
returns-clause-sound g c = c.loop-grant.invariant.sound
