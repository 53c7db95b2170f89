use Rattle.std.proofs.Common.{ap, map, refl, None}
use Rattle.cfs_serve.proofs.Cited.{new_ground}
use Rattle.cfs_serve.proofs.Lists.{map_count}
use Rattle.cfs_serve.proofs.Volumes.{never_rose, none_asks, script_run, source_cause}
use Rattle.cfs_serve.proofs.play.play.Goals as goal

pub returns-in-Err : goal.returns-in-Err
returns-in-Err g c =
    let old = map g.S.Source.supply c.args.sources.now.items in
    let new = map g.S.Source.supply c.read_scripts.new.sources.items in
    let sinks = map g.K.Sink.intake c.args.sinks.now.items in
    none_asks (new_ground c.args.asked.now.cylinders c.args.asked.now.seed) c.args.asked.now.seed c.args.asked.now.collections (record { disk = None; sources = old; sinks = sinks }) (record { disk = None; sources = new; sinks = sinks })
    c.nothing.result.report c.nothing.result.ending c.nothing.result.trail.events c.in-Err.cause (map_count g.S.Source.supply c.read_scripts.new.sources.items c.args.sources.now.items c.read_scripts.ensures.count)
    (source_cause (new_ground c.args.asked.now.cylinders c.args.asked.now.seed) ⊥ old new c.in-Err.cause c.in-Err.ensures.cause) refl c.nothing.ensures.report c.nothing.ensures.trail c.nothing.ensures.ending

pub returns : goal.returns
returns g c =
    let new = c.in-Some.ensures in
    let result = c.serve_scripts-played.result in
    record {
      sources = map_count g.S.Source.supply c.read_scripts.new.sources.items c.args.sources.now.items c.read_scripts.ensures.count;
      sinks = map_count g.K.Sink.intake c.serve_scripts-played.new.sinks.items c.args.sinks.now.items c.serve_scripts-played.ensures.count;
      run = script_run _ c.in-Some.core c.in-Ok.scripts.scripts.items (map g.S.Source.supply c.args.sources.now.items) (map g.S.Source.supply c.read_scripts.new.sources.items)
          (map g.K.Sink.intake c.args.sinks.now.items) (map g.K.Sink.intake c.serve_scripts-played.new.sinks.items)
          result.0.report result.0.ending result.0.trail.events result.0.trail.moments result.1 (new_ground c.args.asked.now.cylinders c.args.asked.now.seed) c.args.asked.now.seed c.args.asked.now.collections ⊥ c.in-Ok.ensures.scripts (λ u. u) (ap (λ w. w.seed) new.words) new.size
          (λ graph is. rw is new.stands) never_rose c.serve_scripts-played.ensures.served;
    }
