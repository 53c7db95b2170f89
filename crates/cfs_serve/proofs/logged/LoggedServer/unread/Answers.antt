use Rattle.std.proofs.Common.{◌∷◌, [], ◌∙◌, ap, sym, refl, length-append, arith, ◌||◌}
use Rattle.cfs_serve.proofs.Cited.{tells_disk, wants_memory}
use Rattle.ufs_model.specs.declared.asked.Event.TheVariants as events
use Rattle.cfs_serve.proofs.Logs.{any-push, lasts_on, run_on, told_on, unread_makes, unread_tallies, unread_tells}
use Rattle.cfs_serve.proofs.Keeping.{kept_on, unread_passes}
use Rattle.cfs_serve.proofs.Raising.{never_raised}
use Rattle.cfs_serve.proofs.Stopping.{knows_on, knows_unread}
use Rattle.cfs_serve.proofs.logged.LoggedServer.unread.Goals as goal

pub invariant_of-self : goal.invariant_of-self
invariant_of-self g c =
    let t = g.J.Charter.charter in
    let server = c.self.inside.server in
    let trail = c.self.inside.trail.events in
    let e = events.Unread c.args.session c.args.why in
    let kept = c.self.invariant in
    rw (c.push.ensures.events, c.push.ensures.moments, c.moment-moment.ensures.clock) (
      run_on g.A.Server.stands g.A.Server.has_stopped g.A.Server.is_damaged g.A.Server.tally t trail server server kept.0 (λ is. is) (λ s standing sound. sound) e
          (unread_makes g.A.Server.stands t.seed server c.args.session c.args.why) (λ s standing some lost least. tt) (λ s standing. unread_tallies g.A.Server.has_stopped g.A.Server.tally t.seed server s c.args.session c.args.why),
      kept.1,
      kept.2,
      omega (arith, kept.3, length-append trail (e ∷ [])),
      c.starved_at-self-inside.ensures c.args.session ∙ ap (λ b. wants_memory e || b) kept.4 ∙ sym (any-push wants_memory trail e),
      lasts_on g.A.Server.stands g.A.Server.has_stopped g.A.Server.is_damaged g.A.Server.tally g.A.Server.clock g.A.Server.lasts t trail c.self.inside.trail.moments server server e kept.0 kept.5
          (rw (← kept.1) (c.moment-moment.ensures.lasts c.args.session c.args.why)),
      told_on g.A.Server.faults g.A.Server.has_stopped g.A.Server.is_damaged t trail server server kept.6 e
          (unread_tells g.A.Server.faults g.A.Server.has_stopped g.A.Server.is_damaged server c.args.session c.args.why),
      kept.7 ∙ sym (any-push tells_disk trail e),
      knows_on g.A.Server.clock g.A.Server.stop server server trail (e ∷ []) kept.8 (knows_unread g.A.Server.clock g.A.Server.stop server c.args.session c.args.why),
      kept_on g.A.Server.clock g.A.Server.has_stopped g.A.Server.tally t trail c.self.inside.trail.moments server server kept.9 (λ is. is) refl (unread_passes g.A.Server.clock g.A.Server.tally server) e refl refl,
    )

pub returns-clause-raised : goal.returns-clause-raised
returns-clause-raised g c = rw (← c.self.view_is) (never_raised g.A.Server.faults g.A.Server.stands g.J.Charter.charter _ _ (events.Unread c.args.session c.args.why) c.push.ensures.events (omega arith) refl refl)

pub returns-clause-passes : goal.returns-clause-passes
returns-clause-passes g c = rw (← c.self.view_is) (unread_passes g.A.Server.clock g.A.Server.tally c.self.inside.server)
