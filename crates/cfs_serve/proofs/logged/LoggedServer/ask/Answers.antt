use Rattle.std.proofs.Common.{refl, ◌∷◌, [], ◌∙◌, ap, sym, length-append, arith, ◌||◌}
use Rattle.cfs_serve.proofs.Cited.{tells_disk, wants_memory}
use Rattle.ufs_model.specs.declared.asked.Event.TheVariants as events
use Rattle.cfs_serve.proofs.Asking.{asked_makes}
use Rattle.cfs_serve.proofs.Logs.{any-push, lasts_on, run_on, told_on}
use Rattle.cfs_serve.proofs.Keeping.{kept_on}
use Rattle.cfs_serve.proofs.Raising.{asked_raised}
use Rattle.cfs_serve.proofs.Stopping.{knows_on, stays}
use Rattle.cfs_serve.proofs.logged.LoggedServer.ask.Goals as goal

pub invariant_of-self : goal.invariant_of-self
invariant_of-self g c =
    let t = g.J.Charter.charter in
    let old = c.self.inside.server in
    let new = c.answer-reply.new.self in
    let trail = c.self.inside.trail.events in
    let reply = c.answer-reply.result in
    let e = events.Ask c.args.session c.args.request reply in
    let answer = c.answer-reply.ensures in
    let kept = c.self.invariant in
    rw (c.push.ensures.events, c.push.ensures.moments, c.moment-moment.ensures.clock) (
      run_on g.A.Server.stands g.A.Server.has_stopped g.A.Server.is_damaged g.A.Server.tally t trail old new kept.0 answer.tells.stays answer.undamaged e
          (λ s standing. asked_makes (g.A.Server.stands new) (g.A.Server.seed old) t.seed kept.1 s c.args.session c.args.request reply (answer.event s standing))
          (λ s standing some lost least. rw (← kept.2) (answer.exact s standing (rw kept.2 some) lost least))
          (λ s standing. rw (← kept.1) (answer.tallies s standing)),
      answer.seed ∙ kept.1,
      answer.size ∙ kept.2,
      omega (arith, answer.drawn, kept.3, length-append trail (e ∷ [])),
      c.starved_by-self-inside.ensures c.args.session c.args.request ∙ ap (λ b. wants_memory e || b) kept.4 ∙ sym (any-push wants_memory trail e),
      lasts_on g.A.Server.stands g.A.Server.has_stopped g.A.Server.is_damaged g.A.Server.tally g.A.Server.clock g.A.Server.lasts t trail c.self.inside.trail.moments old new e kept.0 kept.5 (rw (← kept.1) (answer.lasts)),
      told_on g.A.Server.faults g.A.Server.has_stopped g.A.Server.is_damaged t trail old new kept.6 e answer.tells,
      c.failed_by-self-inside.ensures c.args.session c.args.request ∙ ap (λ b. tells_disk e || b) kept.7 ∙ sym (any-push tells_disk trail e),
      knows_on g.A.Server.clock g.A.Server.stop old new trail (e ∷ []) kept.8 answer.stops,
      kept_on g.A.Server.clock g.A.Server.has_stopped g.A.Server.tally t trail c.self.inside.trail.moments old new kept.9 answer.tells.stays answer.called answer.passes e refl refl,
    )

pub returns-clause-stays : goal.returns-clause-stays
returns-clause-stays g c =
    let e = events.Ask c.args.session c.args.request c.answer-reply.result in
    rw (← c.self.view_is) (stays (g.A.Server.stop c.self.inside.server) (g.A.Server.stop c.answer-reply.new.self) (e ∷ []) c.answer-reply.ensures.stops.among)

pub returns-clause-answered : goal.returns-clause-answered
returns-clause-answered g c = rw (← c.self.view_is) (record { reply = c.answer-reply.result; answered = c.answer.ensures; events = c.push.ensures.events; room = c.push.ensures.room })

pub returns-clause-raised : goal.returns-clause-raised
returns-clause-raised g c =
    let answer = c.answer-reply.ensures in
    rw (← c.self.view_is) (asked_raised g.A.Server.faults g.A.Server.stands g.J.Charter.charter _ _ c.args.session c.args.request c.answer-reply.result c.push.ensures.events answer.tells.later answer.tells.told)

pub returns-clause-passes : goal.returns-clause-passes
returns-clause-passes g c = rw (← c.self.view_is) c.answer-reply.ensures.passes
