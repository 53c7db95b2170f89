use Rattle.std.proofs.Common.{◌≡◌, ◌∙◌, ◌+◌, ◌++◌, ◌∷◌, [], ap, arith, cond, None, refl, subst, sym}
use Rattle.cfs_serve.proofs.Cited.{CountsFaults, Ending, TellsStop, first_fault}
use Rattle.cfs_serve.proofs.Endings.{ends}
use Rattle.cfs_serve.proofs.Hearing.{heard_alone}
use Rattle.cfs_serve.proofs.Pacing.{done_if}
use Rattle.cfs_serve.specs.Talking.{Talking, work_of}
use Rattle.cfs_serve.proofs.talk.Talk.into_served.Goals as goal

pub returns : goal.returns
returns g c =
    let v = g.A.Server in
    let t = g.J.Charter.charter in
    let h = c.self.inside in
    let kept = c.self.invariant in
    let made = c.close-server.ensures in
    let closed = made.closed in
    let server = c.close-server.result.server in
    let events = c.close-server.result.trail.events in
    let old : Talking g.row.A.Denot = record { logged = h.logged; port = h.port; pace = h.pace; refused = h.refused; lines = h.lines } in
    let ending : Ending = record { stop = c.stopped-stop.result; refused = h.refused; last = None } in
    let work : work_of v old ≡ 0 = subst (λ x. work_of v x ≡ 0) (sym c.self.view_is) c.requires.done in
    let counted : CountsFaults v.faults v.stands t (first_fault h.refused) server events = rw (made.server, made.events) kept.counted in
    let tells : TellsStop h.refused (v.stop server) = rw made.server kept.tells in
    let ports = c.push_reserved.ensures.items ∙ ap (λ ps. ps ++ h.port ∷ []) c.requires.empty in
    rw (← c.self.view_is) (record {
      ports = ports;
      events = made.events;
      refused = refl;
      called = ap (λ s. (v.tally s).called) made.server;
      ended = λ client session. record {
        run = closed.run;
        lasts = closed.lasts;
        ends = record {
          later = λ begun at. (closed.told.since begun at).later;
          since = λ begun at.
              ends v.faults v.has_stopped v.is_damaged v.stop begun server ending (v.tally server).called events (v.stopped_so server) (v.damaged_so server) c.stopped-stop.ensures closed.stops.among closed.stops.after tells
              (λ none wants. absurd (omega (arith, (kept.wanting wants).1, ap (λ s. (v.tally s).called) made.server, none))) (closed.told.since begun at) (counted.told begun at);
        };
        kept = record { few = closed.kept.few; tallied = closed.kept.tallied; rise = closed.kept.rise };
        counted = record { told = counted.told; stops = counted.stops };
        collected = record {
          all = λ none.
              let done = done_if h.pace.due (v.tally h.logged.server).steps (v.unfinished h.logged.server) (rw none at work) in
              let due : (v.tally h.logged.server).finished + cond h.pace.due 1 0 ≡ (v.tally h.logged.server).finished + 0 = ap (λ b. (v.tally h.logged.server).finished + cond b 1 0) done.0 in
              rw (made.server, made.events) (omega (arith, (kept.tallied none).1, kept.due none, due));
          settled = λ none.
              let done = done_if h.pace.due (v.tally h.logged.server).steps (v.unfinished h.logged.server) (rw none at work) in
              rw made.server done.1;
          wanting = λ wants. rw (made.server, made.events) (kept.wanting wants);
        };
        stop = c.stopped-stop.ensures;
        timed = closed.stops.timed;
        size = closed.size;
        called = refl;
        heard = rw (ports, made.events) (heard_alone t (v.tally server).called client h.port h.logged.events session kept.alone (λ none. kept.quiet (sym (ap (λ s. (v.tally s).called) made.server) ∙ none)));
        starved = closed.starved;
        failed = closed.failed;
      };
    })
