use Rattle.std.proofs.Common.{◌≡◌, ◌∙◌, ap, arith, is_some, sym}
use Rattle.cfs_serve.proofs.Cited.{damage_in}
use Rattle.cfs_serve.proofs.Logs.{lasts_rests, run_rests, tells_same, told_rests}
use Rattle.cfs_serve.proofs.Keeping.{kept_called}
use Rattle.cfs_serve.proofs.Stopping.{knows_rests}
use Rattle.cfs_serve.proofs.logged.LoggedServer.call.Goals as goal

pub invariant_of-self : goal.invariant_of-self
invariant_of-self g c =
    let t = g.J.Charter.charter in
    let old = c.self.inside.server in
    let new = c.call.new.self in
    let trail = c.self.inside.trail.events in
    let moments = c.self.inside.trail.moments in
    let did = c.call.ensures in
    let kept = c.self.invariant in
    let stopped : g.A.Server.has_stopped new ≡ g.A.Server.has_stopped old = g.A.Server.stopped_so new ∙ ap is_some did.stop ∙ sym (g.A.Server.stopped_so old) in
    let damaged : g.A.Server.is_damaged new ≡ g.A.Server.is_damaged old = g.A.Server.damaged_so new ∙ ap (λ o. is_some (damage_in o)) did.stop ∙ sym (g.A.Server.damaged_so old) in (
      run_rests g.A.Server.stands g.A.Server.has_stopped g.A.Server.is_damaged g.A.Server.tally t trail old new kept.0 (λ is. stopped ∙ is) (λ s standing sound. damaged ∙ sound) did.called.stays
          (λ s standing. record { lost = λ runs. omega (arith, did.called.lost s.graph) }),
      did.seed ∙ kept.1,
      did.size ∙ kept.2,
      omega (arith, did.drawn, kept.3),
      kept.4,
      lasts_rests g.A.Server.stands g.A.Server.has_stopped g.A.Server.is_damaged g.A.Server.tally g.A.Server.clock g.A.Server.lasts t trail moments old new kept.0 kept.5 (rw (← kept.1) did.lasts),
      told_rests g.A.Server.faults g.A.Server.has_stopped g.A.Server.is_damaged t trail old new kept.6
          (tells_same g.A.Server.faults g.A.Server.has_stopped g.A.Server.is_damaged old new did.faults stopped damaged),
      kept.7,
      knows_rests g.A.Server.clock g.A.Server.stop old new trail kept.8 did.stop did.clock,
      kept_called g.A.Server.clock g.A.Server.has_stopped g.A.Server.tally t trail moments old new kept.9 stopped did.clock did.called.called did.called.counts,
    )
