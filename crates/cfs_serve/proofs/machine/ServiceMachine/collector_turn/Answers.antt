use Rattle.std.proofs.Common.{◌≡◌, ◌<◌, ◌∙◌, ap, refl, subst, sym, true, arith, ◌++◌}
use Rattle.cfs_serve.proofs.Cited.{CountsFaults, finishes_in, append-nil, first_fault, is_recorded, recorded}
use Rattle.cfs_serve.specs.Machine.{parts_now, turns_now}
use Rattle.cfs_serve.specs.Logs.{is_step}
use Rattle.cfs_serve.proofs.Raising.{counted_step}
use Rattle.cfs_serve.proofs.Workers.{acts, as_told, few_on, finished_on, heard_on, made_step, not_refused, room_on, turns_less, turns_on}
use Rattle.cfs_serve.proofs.machine.ServiceMachine.collector_turn.Goals as goal

pub turn-progress-requires : goal.turn-progress-requires
turn-progress-requires g c =
    let k = c.self.invariant in
    let some : 0 < turns_now c.self.inside.resting c.self.inside.rest.turns (parts_now c.self.inside.rest.refused (g.A.Server.unfinished c.self.inside.logged.server)) =
    omega (arith, ap (λ h. h.turns) c.self.view_is, c.requires) in
    let none = not_refused c.self.inside.rest.refused c.self.inside.resting c.self.inside.rest.turns (g.A.Server.unfinished c.self.inside.logged.server) k.7 some in
    omega (arith, k.1, k.11 none)

pub after-self-inside-requires : goal.after-self-inside-requires
after-self-inside-requires g c =
    let k = c.self.invariant in
    let turns = c.self.inside.rest.turns in
    let parts = g.A.Server.unfinished c.self.inside.logged.server in
    let now : 0 < turns_now c.self.inside.resting turns (parts_now c.self.inside.rest.refused parts) = omega (arith, ap (λ h. h.turns) c.self.view_is, c.requires) in
    let none = not_refused c.self.inside.rest.refused c.self.inside.resting turns parts k.7 now in
    let some : is_step c.turn-progress.result ≡ true → 0 < turns =
    λ step. (acts c.self.inside.resting turns (parts_now c.self.inside.rest.refused parts) (rw none (c.turn-progress.ensures.settled step).0) now).1 in
    record {
      runs = none;
      some = some;
      more = λ made. let spends = c.turn-progress.ensures.spends made in let left = k.4 (some (made_step c.turn-progress.result made)) in omega (arith, spends.0, left.0);
      room = λ made. let spends = c.turn-progress.ensures.spends made in let left = k.4 (some (made_step c.turn-progress.result made)) in omega (arith, spends.1, left.1);
      paired = k.11 none;
    }

pub invariant_of-self : goal.invariant_of-self
invariant_of-self g c =
    let t = g.J.Charter.charter in
    let k = c.self.invariant in
    let old = c.self.inside.logged in
    let new = c.turn-progress.new.self in
    let ports = c.self.inside.ports.items in
    let progress = c.turn-progress.result in
    let did = c.turn-progress.ensures in
    let steps = did.steps in
    let rest = c.after-self-inside.ensures in
    let told = as_told (is_recorded progress) steps.event steps.none in
    let turns = c.self.inside.rest.turns in
    let events = c.self.inside.rest.events in
    let parts = g.A.Server.unfinished old.server in
    let now : 0 < turns_now c.self.inside.resting turns (parts_now c.self.inside.rest.refused parts) = omega (arith, ap (λ h. h.turns) c.self.view_is, c.requires) in
    let none = not_refused c.self.inside.rest.refused c.self.inside.resting turns parts k.7 now in
    let some : is_step progress ≡ true → 0 < turns =
    λ step. (acts c.self.inside.resting turns (parts_now c.self.inside.rest.refused parts) (rw none (did.settled step).0) now).1 in
    let left = c.after-self-inside.result in
    let called = did.called ∙ k.13 in (
      heard_on t g.A.Server.clock old new ports progress turns events k.0 k.1 k.2 some k.5 steps,
      room_on t g.A.Server.clock old new ports progress turns events k.0 k.1 k.2 some k.5 steps left.events (omega (arith, told, rest.room)),
      few_on t g.A.Server.clock old new ports progress turns events k.0 k.1 k.2 some k.5 steps left.events (omega (arith, told, rest.room)),
      k.3,
      turns_on progress turns events left.turns left.events _ (g.A.Server.tally old.server) (g.A.Server.tally new.server) k.4
          (λ is. let part = did.tidied is in (ap (λ r. r.turns) (rest.tidied is), ap (λ r. r.events) (rest.tidied is), part.1, part.2))
          (λ step more. let made = rest.stays step more in let spends = did.spends made in let costs = rest.made made in (spends.0, spends.1, costs.0, costs.1))
          rest.over,
      λ called. omega (arith, rest.less, k.5 called),
      λ over whole. finished_on progress left.turns (finishes_in new.events) t.collections
          (λ is. ap finishes_in (steps.events ∙ ap (λ o. old.events ++ recorded o) (steps.none (rw is refl)) ∙ append-nil old.events) ∙ k.6 (sym (ap (λ r. r.turns) (rest.tidied is)) ∙ over) none)
          (λ step less. did.idle (rest.idle step less) ∙ called) (sym rest.refused ∙ whole) over,
      rest.on,
      counted_step g.A.Server.faults g.A.Server.stands t old new did.raised left.refused
          (subst (λ o. CountsFaults g.A.Server.faults g.A.Server.stands t (first_fault o) old.server old.events) none k.8) (λ quiet. did.quiet (rw rest.refused at quiet)),
      rw rest.refused did.refusal,
      λ wants. rw (← called) (did.wanting (sym rest.refused ∙ wants)),
      rest.paired,
      omega (arith, rest.less, k.12),
      called,
    )

pub returns-clause-turn : goal.returns-clause-turn
returns-clause-turn g c =
    let k = c.self.invariant in
    let did = c.turn-progress.ensures in
    let rest = c.after-self-inside.ensures in
    let turns = c.self.inside.rest.turns in
    let parts = g.A.Server.unfinished c.self.inside.logged.server in
    let some : 0 < turns_now c.self.inside.resting c.self.inside.rest.turns (parts_now c.self.inside.rest.refused (g.A.Server.unfinished c.self.inside.logged.server)) =
    omega (arith, ap (λ h. h.turns) c.self.view_is, c.requires) in
    let none = not_refused c.self.inside.rest.refused c.self.inside.resting turns parts k.7 some in
    let less = turns_less c.self.inside.resting c.rests_after-self-inside.result turns c.after-self-inside.result.turns parts (g.A.Server.unfinished c.turn-progress.new.self.server) c.after-self-inside.result.refused (rw none at some) c.turn-progress.result
    (λ is. ((did.tidied is).0, ap (λ r. r.turns) (rest.tidied is), c.rests_after-self-inside.ensures is)) (λ step. let settled = did.settled step in (settled.0, settled.1, rest.fewer step)) rest.over rest.refused in
    rw (← c.self.view_is) (record {
      progress = c.turn-progress.result;
      steps = did.steps;
      ports = refl;
      turns = rw none less.0;
      left = rw none less.1;
    })

pub returns-clause-raised : goal.returns-clause-raised
returns-clause-raised g c = rw (← c.self.view_is) c.turn-progress.ensures.raised
