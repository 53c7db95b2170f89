use Rattle.std.proofs.Common.{is_some, sym, ◌≡◌, ◌∙◌, ℕ, ◌+◌, ◌-◌, ◌*◌, inl, inr, ap, refl, subst, arith, add-zero, zero-add, None}
use Rattle.collector_steps.specs.Left.{most_steps}
use Rattle.cfs_core.specs.Left.{events_ahead, steps_ahead}
use Rattle.cfs_core.specs.declared.collecting.Collections.{Collections}
use Rattle.cfs_serve.proofs.Cited.{AreNew, Stands, collection_runs, opening}
use Rattle.cfs_serve.proofs.Playing.{by_core, none_lost, served_uncalled}
use Rattle.cfs_serve.specs.Service.{HasServed}
use Rattle.cfs_serve.proofs.play.serve_ports.Goals as goal

-- so many steps, and events, as the collections have that were called for
called_steps : (blocks n : ℕ) (c : Collections) → c ≡ record { collector = None; called = n; finished = 0 } → (steps_ahead blocks c ≡ n * most_steps blocks) × (events_ahead c ≡ 3 * n)
called_steps blocks n c is =
    let all : n - (0 + 0) ≡ n = omega arith in (
      ap (steps_ahead blocks) is ∙ ap (λ m. m * most_steps blocks + 0) all ∙ add-zero (n * most_steps blocks),
      ap events_ahead is ∙ omega (arith, all),
    )

called_for : (c : Collections) (n : ℕ) → c ≡ record { collector = None; called = 0; finished = 0 } → record c { called = c.called + n } ≡ record { collector = None; called = n; finished = 0 }
called_for c n is = ap (λ (x : Collections). record x { called = x.called + n }) is ∙ ap (λ (m : ℕ). record { collector = None; called = m; finished = 0 }) (zero-add n)

pub invariant_of-service : goal.invariant_of-service
invariant_of-service g c =
    let core = c.call_for.new.self in
    let n = c.args.schedule.collections in
    let idle = ap (λ k. k.collections) c.call_for.ensures ∙ called_for c.args.core.collections n c.requires.core.idle in
    let ahead = called_steps (g.D.Disk.blocks core.disk) n core.collections idle in
    let each : n * c.most_steps.result ≡ n * most_steps (g.D.Disk.blocks core.disk) = ap (λ m. n * m) c.most_steps.ensures.steps in
    let runs = ap (λ k. k.stop) c.call_for.ensures ∙ c.requires.core.runs in
    record {
      ready = record {
        no_event = c.requires.no_event;
        runs = ap is_some runs;
        words = ap (λ k. k.words.drawn) c.call_for.ensures ∙ c.requires.core.words;
        new = subst (λ r. AreNew r c.args.ports.items) (sym (ap (λ k. k.root) c.call_for.ensures)) c.requires.new;
        called = ap (λ k. k.called) idle;
        idle = (ap (λ k. k.finished) idle, ap (λ k. collection_runs k.collector) idle);
        swept = λ graph stands.
            let serves = subst (Stands g.D.Disk core (opening graph)) runs stands in
            none_lost _ _ _ (opening graph) (c.has_room.ensures.room (opening graph) serves refl) (c.has_room.ensures.lost (opening graph) serves);
        steps = omega (arith, ahead.0, each, c.requires.turns, c.count_steps-steps.ensures.is);
        small = c.count_steps-steps.ensures.small;
        events = omega (arith, ahead.1);
        room = omega (arith, c.requires.turns, c.requires.room);
        few = omega (arith, c.requires.turns, c.requires.few);
        sessions = c.requires.sessions;
        most = c.requires.most;
      };
    }

pub returns-in-Ok : goal.returns-in-Ok
returns-in-Ok g c =
    let core = c.args.core in
    let n = c.args.schedule.collections in
    let facts : HasServed (by_core g.D.Disk) c.call_for.new.self c.args.ports.items n c.in-Ok.served = c.in-Ok.ensures.served in
    inl (c.close_service.ensures.sessions core c.args.ports.items n c.requires.core.runs
    (served_uncalled g.D.Disk core n c.args.ports.items n c.in-Ok.served (subst (λ k. HasServed (by_core g.D.Disk) k c.args.ports.items n c.in-Ok.served) c.call_for.ensures facts)))

pub returns-in-Err : goal.returns-in-Err
returns-in-Err g c =
    let facts = c.in-Err.ensures.unserved in
    inr (record {
      told = c.nothing.ensures.report;
      no_event = c.nothing.ensures.trail;
      no_end = c.nothing.ensures.ending;
      ports = facts.1;
      disk_is = c.into_disk.ensures ∙ ap (λ k. k.disk) (facts.0 ∙ c.call_for.ensures);
    })
