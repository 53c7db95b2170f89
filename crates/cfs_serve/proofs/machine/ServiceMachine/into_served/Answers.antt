use Rattle.std.proofs.Common.{◌≡◌, ◌+◌, ℕ, Option, None, Some, ap, arith}
use Rattle.cfs_serve.proofs.Cited.{CollectFault, CountsFaults, Ending, TellsStop, first_fault}
use Rattle.cfs_serve.specs.Machine.{parts_now}
use Rattle.cfs_serve.proofs.Endings.{ends}
use Rattle.cfs_serve.proofs.machine.ServiceMachine.into_served.Goals as goal

-- where nothing is left to make, and it was refused none, no part is left
settled_at : (refused : Option CollectFault) (steps parts : ℕ) → steps + parts_now refused parts ≡ 0 → refused ≡ None → parts ≡ 0
settled_at None steps parts over none = omega (arith, over)
settled_at (Some fault) steps parts over none = absurd (cc none)

pub returns-clause-ended : goal.returns-clause-ended
returns-clause-ended g c =
    let t = g.J.Charter.charter in
    let made = c.close-server.ensures in
    let closed = made.closed in
    let kept = c.self.invariant in
    let server = c.close-server.result.server in
    let events = c.close-server.result.trail.events in
    let refused = c.self.inside.rest.refused in
    let ending : Ending = record { stop = c.stopped-stop.result; refused = refused; last = None } in
    let counted : CountsFaults g.A.Server.faults g.A.Server.stands t (first_fault refused) server events = rw (made.server, made.events) kept.8 in
    let tells : TellsStop refused (g.A.Server.stop server) = rw made.server kept.9 in
    record {
      run = closed.run;
      lasts = closed.lasts;
      ends = record {
        later = λ begun at. (closed.told.since begun at).later;
        since = λ begun at.
            ends g.A.Server.faults g.A.Server.has_stopped g.A.Server.is_damaged g.A.Server.stop begun server ending t.collections events (g.A.Server.stopped_so server) (g.A.Server.damaged_so server)
            c.stopped-stop.ensures closed.stops.among closed.stops.after tells (λ none wants. absurd (omega (arith, (kept.10 wants).1, none))) (closed.told.since begun at) (counted.told begun at);
      };
      kept = closed.kept;
      counted = counted;
      collected = record {
        all = λ whole. rw made.events (kept.6 (omega (arith, c.collect_rest.ensures.left, ap (λ h. h.left) c.self.view_is)) whole);
        settled = λ whole.
            rw made.server (settled_at refused c.self.inside.rest.turns (g.A.Server.unfinished c.self.inside.logged.server) (omega (arith, c.collect_rest.ensures.left, ap (λ h. h.left) c.self.view_is)) whole);
        wanting = rw made.events kept.10;
      };
      stop = c.stopped-stop.ensures;
      timed = closed.stops.timed;
      size = closed.size;
      called = rw made.server kept.13;
      heard = rw made.events kept.0;
      starved = closed.starved;
      failed = closed.failed;
    }
