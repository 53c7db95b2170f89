use Rattle.std.proofs.Common.{ap, refl, subst, sym, is_some, ◌∷◌, []}
use Rattle.cfs_serve.proofs.Cited.{Stands, collection_runs, opening}
use Rattle.cfs_core.specs.Left.{events_ahead}
use Rattle.cfs_serve.proofs.Conversing.{core_talks}
use Rattle.cfs_serve.proofs.Playing.{none_lost}
use Rattle.cfs_serve.proofs.converse.talk_by.Goals as goal

pub converse_with-talked-requires : goal.converse_with-talked-requires
converse_with-talked-requires g c =
    let core = c.args.core in
    let idle = c.requires.core.idle in
    record {
      ready = record {
        no_event = c.requires.trail.0;
        runs = ap is_some c.requires.core.runs;
        words = c.requires.core.words;
        new = c.requires.port.0;
        unheard = c.requires.port.1;
        begins = c.requires.lines;
        called = ap (λ k. k.called) idle;
        idle = (ap (λ k. k.finished) idle, ap (λ k. collection_runs k.collector) idle);
        no_step = ap events_ahead idle;
        swept = λ graph stands.
            let serves = subst (Stands g.D.Disk core (opening graph)) c.requires.core.runs stands in
            none_lost _ _ _ (opening graph) (c.has_room.ensures.room (opening graph) serves refl) (c.has_room.ensures.lost (opening graph) serves);
        pace = c.requires.every;
        room = c.requires.trail.1;
      };
      room = c.requires.room;
    }

pub returns : goal.returns
returns g c =
    let talked = c.converse_with-talked in
    let served = talked.result.served in
    let closed = c.close_service-played in
    let played = closed.result.0 in
    let serves = closed.ensures.sessions c.args.core (talked.ensures.port ∷ []) talked.ensures.collections c.requires.core.runs talked.ensures.served in
    rw (c.cause_with.ensures, closed.ensures.trail)
    (core_talks g.D.Disk c.args.core c.args.every c.args.ready.lines.supply (g.S.Source.supply talked.result.source) c.args.ready.port.sink (g.K.Sink.intake c.into_sink-sink.result) talked.result.end
    served played.report played.ending served.trail.moments closed.result.2 talked.ensures c.take_last.new.self.items c.take_last.result (rw closed.ensures.ports at c.take_last.ensures.items) (sym c.into_sink-sink.ensures)
    closed.ensures.refused (rw (closed.ensures.ports, closed.ensures.trail) at serves))
