use Rattle.std.proofs.Common.{◌≡◌, ap, map, subst, Some}
use Rattle.cfs_serve.proofs.Cited.{Cache, ground_on}
use Rattle.cfs_serve.proofs.NamesThrough.{names_through}
use Rattle.cfs_serve.specs.Names.{DoesNames}
use Rattle.cfs_serve.proofs.dirs.serve_dirs.Goals as goal

pub returns-clause-names : goal.returns-clause-names
returns-clause-names g c =
    let served = c.serve_opened-played in
    let told = served.result.0 in
    let new = served.result.1 in
    let lower : c.in-Ok.cache.lower ≡ c.args.disk = ap (λ (x : Cache _). x.lower) c.in-Ok.ensures.fresh in
    rw c.into_lower.ensures (subst (λ d. DoesNames g.D.Disk (ground_on g.D.Disk d)
    (record { disk = Some (g.D.Disk.faults d); sources = map g.S.Source.supply c.args.sources.now.items; sinks = map g.K.Sink.intake c.args.sinks.now.items })
    (record { disk = Some (g.D.Disk.faults new.lower); sources = map g.S.Source.supply served.new.sources.items; sinks = map g.K.Sink.intake served.new.sinks.items })
    told.report told.ending d new.lower) lower
    (names_through g.D.Disk _ _ _ told.report told.ending c.in-Ok.cache new served.ensures.names))
