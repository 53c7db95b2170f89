use Rattle.std.proofs.Common.{◌≡◌, ap, map, subst, Some}
use Rattle.cfs_serve.proofs.Cited.{AsksSessions, Cache, ServesVolume, ground_on}
use Rattle.cfs_serve.proofs.Through.{through}
use Rattle.cfs_serve.proofs.cached.serve_cached.Goals as goal

pub returns-clause-asks : goal.returns-clause-asks
returns-clause-asks g c =
    let played = c.serve_volume-played in
    let new = played.result.1.lower in
    let lower : c.in-Ok.cache.lower ≡ c.args.disk = ap (λ (x : Cache _). x.lower) c.in-Ok.ensures.fresh in
    rw c.into_lower.ensures (subst (λ d. AsksSessions (ground_on g.D.Disk d) c.args.asked.now.seed c.args.asked.now.collections
    (record { disk = Some (g.D.Disk.faults d); sources = map g.S.Source.supply c.args.sources.now.items; sinks = map g.K.Sink.intake c.args.sinks.now.items })
    (record { disk = Some (g.D.Disk.faults new); sources = map g.S.Source.supply played.new.sources.items; sinks = map g.K.Sink.intake played.new.sinks.items })
    played.result.0.report played.result.0.ending played.result.0.trail.events) lower played.ensures.asks)

pub returns-clause-volume : goal.returns-clause-volume
returns-clause-volume g c =
    let played = c.serve_volume-played in
    let told = played.result.0 in
    let lower : c.in-Ok.cache.lower ≡ c.args.disk = ap (λ (x : Cache _). x.lower) c.in-Ok.ensures.fresh in
    rw c.into_lower.ensures (subst (λ d. ServesVolume g.D.Disk c.args.asked.now.seed told.report told.ending told.trail.events told.trail.moments d played.result.1.lower) lower
    (through g.D.Disk c.args.asked.now.seed told.report told.ending told.trail.events told.trail.moments c.in-Ok.cache played.result.1 played.ensures.volume))
