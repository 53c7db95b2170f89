use Rattle.std.proofs.Common.{refl, ◌∷◌, [], ◌∙◌, sym, length-append, arith}
use Rattle.cfs_serve.proofs.Cited.{tells_disk, wants_memory}
use Rattle.ufs_model.specs.declared.asked.Event.TheVariants as events
use Rattle.cfs_serve.proofs.Logs.{any-push, lasts_on, run_on, told_on}
use Rattle.cfs_serve.proofs.Keeping.{kept_on}
use Rattle.cfs_serve.proofs.Raising.{left_raised}
use Rattle.cfs_serve.proofs.Stopping.{knows_on, stays}
use Rattle.cfs_serve.proofs.logged.LoggedServer.leave.Goals as goal

pub invariant_of-self : goal.invariant_of-self
invariant_of-self g c =
    let t = g.J.Charter.charter in
    let old = c.self.inside.server in
    let new = c.leave-stopped.new.self in
    let trail = c.self.inside.trail.events in
    let stopped = c.leave-stopped.result in
    let e = events.Leave c.args.session stopped in
    let left = c.leave-stopped.ensures in
    let kept = c.self.invariant in
    rw (c.push.ensures.events, c.push.ensures.moments, c.moment-moment.ensures.clock) (
      run_on g.A.Server.stands g.A.Server.has_stopped g.A.Server.is_damaged g.A.Server.tally t trail old new kept.0 left.tells.stays left.undamaged e
          (λ s standing. rw (← kept.1) (left.event s standing)) (λ s standing some lost least. tt) (λ s standing. rw (← kept.1) (left.tallies s standing)),
      left.seed ∙ kept.1,
      left.size ∙ kept.2,
      omega (arith, left.drawn, kept.3, length-append trail (e ∷ [])),
      kept.4 ∙ sym (any-push wants_memory trail e),
      lasts_on g.A.Server.stands g.A.Server.has_stopped g.A.Server.is_damaged g.A.Server.tally g.A.Server.clock g.A.Server.lasts t trail c.self.inside.trail.moments old new e kept.0 kept.5 (rw (← kept.1) (left.lasts)),
      told_on g.A.Server.faults g.A.Server.has_stopped g.A.Server.is_damaged t trail old new kept.6 e left.tells,
      kept.7 ∙ sym (any-push tells_disk trail e),
      knows_on g.A.Server.clock g.A.Server.stop old new trail (e ∷ []) kept.8 left.stops,
      kept_on g.A.Server.clock g.A.Server.has_stopped g.A.Server.tally t trail c.self.inside.trail.moments old new kept.9 left.tells.stays left.called left.passes e refl refl,
    )

pub returns-clause-stays : goal.returns-clause-stays
returns-clause-stays g c =
    let e = events.Leave c.args.session c.leave-stopped.result in
    rw (← c.self.view_is) (stays (g.A.Server.stop c.self.inside.server) (g.A.Server.stop c.leave-stopped.new.self) (e ∷ []) c.leave-stopped.ensures.stops.among)

pub returns-clause-raised : goal.returns-clause-raised
returns-clause-raised g c =
    let left = c.leave-stopped.ensures in
    rw (← c.self.view_is) (left_raised g.A.Server.stands g.A.Server.has_stopped g.A.Server.is_damaged g.A.Server.tally g.A.Server.faults g.J.Charter.charter _ _ c.args.session c.leave-stopped.result c.self.invariant.0
    c.push.ensures.events left.tells.later left.halts)

pub returns-clause-passes : goal.returns-clause-passes
returns-clause-passes g c = rw (← c.self.view_is) c.leave-stopped.ensures.passes
