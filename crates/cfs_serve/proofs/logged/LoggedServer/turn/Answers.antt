use Rattle.std.proofs.Common.{◌≡◌, ◌∙◌, ◌++◌, ap, sym, length-append, arith}
use Rattle.cfs_serve.proofs.Cited.{append-nil, event_by, fails, recorded, tells_disk, wants_memory}
use Rattle.cfs_serve.specs.Calls.{as_step}
use Rattle.cfs_serve.proofs.Logs.{told_step}
use Rattle.cfs_serve.proofs.Keeping.{collected_at, kept_step, wanting_at}
use Rattle.cfs_serve.proofs.Stepping.{lasts_step, nobodys, quiet_made, run_step, silent, silent_step, spends_as, stop_only, tidied_only, unwanting, wanting_made}
use Rattle.cfs_serve.proofs.Stopping.{knows_on}
use Rattle.cfs_serve.proofs.Raising.{step_raised}
use Rattle.cfs_serve.proofs.Pacing.{counts_turn}
use Rattle.cfs_serve.proofs.logged.LoggedServer.turn.Goals as goal

pub invariant_of-self : goal.invariant_of-self
invariant_of-self g c =
    let t = g.J.Charter.charter in
    let old = c.self.inside.server in
    let new = c.turn-made.new.self in
    let trail = c.self.inside.trail.events in
    let made = as_step c.turn-made.result in
    let did = c.turn-made.ensures in
    let kept = c.self.invariant in
    rw (c.push_some.ensures.events, c.push_some.ensures.moments, c.progress_of-event.ensures.event, c.moment-moment.ensures.clock) (
      run_step trail g.A.Server.stands g.A.Server.has_stopped g.A.Server.is_damaged g.A.Server.tally t old new kept.0 (event_by made) (nobodys made) did.tells.0.stays did.undamaged
          (λ s standing. rw (← kept.1) (did.event s standing)) (λ s standing. rw (← kept.1) (did.tallies s standing)),
      did.seed ∙ kept.1,
      did.size ∙ kept.2,
      omega (arith, did.drawn, kept.3, length-append trail (recorded (event_by made))),
      kept.4 ∙ silent_step trail wants_memory unwanting (event_by made) (nobodys made),
      lasts_step trail g.A.Server.stands g.A.Server.has_stopped g.A.Server.is_damaged g.A.Server.tally t old new kept.0 (event_by made) (nobodys made) g.A.Server.clock g.A.Server.lasts c.self.inside.trail.moments kept.5
          (rw (← kept.1) did.lasts),
      told_step g.A.Server.faults g.A.Server.has_stopped g.A.Server.is_damaged t trail old new kept.6 (event_by made) did.tells.0,
      kept.7 ∙ silent_step trail tells_disk silent (event_by made) (nobodys made),
      knows_on g.A.Server.clock g.A.Server.stop old new trail (recorded (event_by made)) kept.8 did.stops.0,
      kept_step g.A.Server.clock g.A.Server.has_stopped g.A.Server.tally t trail c.self.inside.trail.moments old new kept.9 did.tells.0.stays did.called made did.passes,
    )

pub returns-clause-refusal : goal.returns-clause-refusal
returns-clause-refusal g c = rw c.progress_of-event.ensures.refusal c.turn-made.ensures.stops.1

pub returns-clause-steps : goal.returns-clause-steps
returns-clause-steps g c =
    let made = as_step c.turn-made.result in
    rw (← c.self.view_is) (record {
      event = event_by made;
      events = rw c.progress_of-event.ensures.event at c.push_some.ensures.events;
      nobody = nobodys made;
      stamped = rw (c.progress_of-event.ensures.event, c.moment-moment.ensures.clock) at c.push_some.ensures.moments;
      room = rw c.progress_of-event.ensures.event at c.push_some.ensures.room;
      none = c.progress_of-event.ensures.none;
      stop = stop_only c.progress_of-event.result.1 c.turn-made.result c.progress_of-event.ensures.tidied c.progress_of-event.ensures.refused;
    })

pub returns-clause-idle : goal.returns-clause-idle
returns-clause-idle g c = λ idle.
    let t = g.J.Charter.charter in
    let old = c.self.inside.server in
    let new = c.turn-made.new.self in
    let trail = c.self.inside.trail.events in
    let made = as_step c.turn-made.result in
    let did = c.turn-made.ensures in
    let kept = c.self.invariant in
    let all = rw (ap as_step (c.progress_of-event.ensures.idle idle)) at did.ends in
    let now = kept_step g.A.Server.clock g.A.Server.has_stopped g.A.Server.tally t trail c.self.inside.trail.moments old new kept.9 did.tells.0.stays did.called made did.passes in
    rw (c.push_some.ensures.events, c.progress_of-event.ensures.event)
    (collected_at g.A.Server.clock g.A.Server.has_stopped g.A.Server.tally t (trail ++ recorded (event_by made)) _ new now all.0 all.1)

pub returns-clause-spends : goal.returns-clause-spends
returns-clause-spends g c = λ made. rw (← c.self.view_is)
    (c.progress_of-event.ensures.spends made (g.A.Server.tally c.self.inside.server) (g.A.Server.tally c.turn-made.new.self) (spends_as g.A.Server.unfinished g.A.Server.tally c.self.inside.server c.turn-made.new.self c.turn-made.result
    (λ none. tidied_only c.progress_of-event.result.1 made (c.progress_of-event.ensures.made_of none)) c.turn-made.ensures.spends))

pub returns-clause-tidied : goal.returns-clause-tidied
returns-clause-tidied g c = λ is. rw (← c.self.view_is) (rw (c.progress_of-event.ensures.tidied is) at c.turn-made.ensures.spends)

pub returns-clause-settled : goal.returns-clause-settled
returns-clause-settled g c = λ is.
    let step = c.progress_of-event.ensures.step is in
    let spent = rw step.1 at c.turn-made.ensures.spends in
    rw (← c.self.view_is) (spent.1, spent.2)

pub returns-clause-raised : goal.returns-clause-raised
returns-clause-raised g c =
    let made = as_step c.turn-made.result in
    let did = c.turn-made.ensures in
    rw (← c.self.view_is) (step_raised g.A.Server.stands g.A.Server.has_stopped g.A.Server.is_damaged g.A.Server.tally g.A.Server.faults g.J.Charter.charter _ _ made c.self.invariant.0
    (rw c.progress_of-event.ensures.event at c.push_some.ensures.events) did.tells.0.later did.tells.1 did.halts)

pub returns-clause-quiet : goal.returns-clause-quiet
returns-clause-quiet g c = λ quiet.
    let is = quiet_made (as_step c.turn-made.result) (rw c.progress_of-event.ensures.refusal at quiet) in
    let same : c.push_some.new.trail.events ≡ c.self.inside.trail.events =
    rw c.progress_of-event.ensures.event at c.push_some.ensures.events ∙ ap (λ made. c.self.inside.trail.events ++ recorded (event_by made)) is ∙ append-nil c.self.inside.trail.events in
    rw (← c.self.view_is) (c.turn-made.ensures.tells.1 (ap fails is), same)

pub returns-clause-wanting : goal.returns-clause-wanting
returns-clause-wanting g c = λ wants.
    let t = g.J.Charter.charter in
    let trail = c.self.inside.trail.events in
    let did = c.turn-made.ensures in
    let made = wanting_made (as_step c.turn-made.result) (sym c.progress_of-event.ensures.refusal ∙ wants) in
    let due = rw made at did.ends in
    rw (c.push_some.ensures.events, c.progress_of-event.ensures.event, made, append-nil trail, did.called)
    (wanting_at g.A.Server.clock g.A.Server.has_stopped g.A.Server.tally t trail c.self.inside.trail.moments c.self.inside.server c.self.invariant.9 due.0 due.1 due.2)

pub returns-clause-counts : goal.returns-clause-counts
returns-clause-counts g c = λ none.
    let made = c.turn-made.result in
    let did = c.progress_of-event.ensures in
    rw (← c.self.view_is) (counts_turn (g.A.Server.tally c.self.inside.server) (g.A.Server.tally c.turn-made.new.self) c.self.inside.trail.events made c.progress_of-event.result.1 c.push_some.new.trail.events
    (rw did.event at c.push_some.ensures.events) (sym did.refusal ∙ none) c.turn-made.ensures.passes.counts (rw did.event at did.finishes))
