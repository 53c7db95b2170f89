use Rattle.std.proofs.Common.{◌≡◌, ◌≤◌, ◌+◌, ◌∙◌, ap, arith, cond, false, inr, refl}
use Rattle.ufs_model.specs.declared.asked.Event.TheVariants as events
use Rattle.cfs_serve.specs.Talking.{Talking}
use Rattle.cfs_serve.proofs.Pacing.{kept_event}
use Rattle.cfs_serve.proofs.talk.Talk.leave.Goals as goal

pub invariant_of-self : goal.invariant_of-self
invariant_of-self g c =
    let v = g.A.Server in
    let h = c.self.inside in
    let old : Talking g.row.A.Denot = record { logged = h.logged; port = h.port; pace = h.pace; refused = h.refused; lines = h.lines } in
    let did = c.leave-2.ensures in
    let q = c.leave.new.self in
    let stays : h.port.has_left ≡ false = ap (λ x. x.port.has_left) c.self.view_is ∙ c.requires in
    let fewer : h.lines + cond q.has_left 0 1 + 1 ≤ h.lines + cond h.port.has_left 0 1 = rw (c.leave.ensures, stays) (omega arith) in
    kept_event v g.J.Charter.charter old c.leave-2.new.self h.port q h.pace.since h.lines (events.Leave 0 did.events.0) c.self.invariant
    (inr (record { stopped = did.events.0; is = refl; stays = stays; over = λ goes. c.self.invariant.unread; port = c.leave.ensures })) did.events.1 did.room fewer did.passes did.called
    (rw c.leave.ensures c.self.invariant.unread) (λ k apart. apart) did.stays did.raised
