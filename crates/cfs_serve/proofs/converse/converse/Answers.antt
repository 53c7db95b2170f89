use Rattle.std.proofs.Common.{◌≡◌, ap, map, subst, Some}
use Rattle.cfs_serve.proofs.Cited.{Cache, Places, ground_on}
use Rattle.cfs_serve.proofs.Conversing.{talks_through}
use Rattle.cfs_serve.specs.Commands.{conversation}
use Rattle.cfs_serve.specs.Conversed.{DoesTalk}
use Rattle.cfs_serve.proofs.converse.converse.Goals as goal

pub returns-clause-talks : goal.returns-clause-talks
returns-clause-talks g c =
    let had = c.converse_opened-played in
    let told = had.result.0 in
    let new = had.result.1 in
    let talk = conversation c.args.asked.now in
    let before : Places = record { disk = Some (g.D.Disk.faults c.in-Ok.cache.lower); sources = map g.S.Source.supply c.args.sources.now.items; sinks = map g.K.Sink.intake c.args.sinks.now.items } in
    let after : Places = record { disk = Some (g.D.Disk.faults new.lower); sources = map g.S.Source.supply had.new.sources.items; sinks = map g.K.Sink.intake had.new.sinks.items } in
    let lower : c.in-Ok.cache.lower ≡ c.args.disk = ap (λ (x : Cache _). x.lower) c.in-Ok.ensures.fresh in
    rw c.into_lower.ensures (subst (λ d. DoesTalk g.D.Disk talk (ground_on g.D.Disk d) (record before { disk = Some (g.D.Disk.faults d) }) after told.report told.ending told.trail.events told.trail.moments d new.lower) lower
    (talks_through g.D.Disk talk (ground_on g.D.Disk c.in-Ok.cache.lower) before after told.report told.ending told.trail.events told.trail.moments c.in-Ok.cache new had.ensures.talks))
