use Rattle.std.proofs.Common.{ap, arith, inl, inr, map, refl, Some}
use Rattle.cfs_serve.proofs.Cited.{IsSoundAs, Rose, ground_on}
use Rattle.cfs_serve.proofs.Lists.{map_count}
use Rattle.cfs_serve.proofs.Volumes.{never_of_sources, none_asks, refusal_cause, refusal_ill, script_run, served, since_try, source_cause, source_ill, unserved, untouched_itself}
use Rattle.cfs_serve.proofs.play.serve_volume.Goals as goal

pub returns-in-Err-clause-volume : goal.returns-in-Err-clause-volume
returns-in-Err-clause-volume g c =
    unserved g.D.Disk c.args.disk c.args.asked.now.seed c.args.disk c.nothing.result.report c.nothing.result.ending c.nothing.result.trail.events c.nothing.result.trail.moments c.in-Err.cause (omega arith, omega arith) c.nothing.ensures.report c.nothing.ensures.ending
    (source_ill (map g.S.Source.supply c.args.sources.now.items) (map g.S.Source.supply c.read_scripts.new.sources.items) c.in-Err.cause c.in-Err.ensures.cause) (λ honest graph sound. inl refl)
    (λ honest fault is. absurd (rw is at c.in-Err.ensures.cause)) (λ honest not. untouched_itself g.D.Disk c.args.disk) (λ is. refl)

pub returns-clause-asks : goal.returns-clause-asks
returns-clause-asks g c =
    let result = c.serve_scripts.result in
    let opened = c.in-Ok-open_volume.ensures in
    record {
      sources = map_count g.S.Source.supply c.read_scripts.new.sources.items c.args.sources.now.items c.read_scripts.ensures.count;
      sinks = map_count g.K.Sink.intake c.serve_scripts.new.sinks.items c.args.sinks.now.items c.serve_scripts.ensures.count;
      run = script_run g.D.Disk c.in-Ok-open_volume.core c.in-Ok.scripts.scripts.items (map g.S.Source.supply c.args.sources.now.items) (map g.S.Source.supply c.read_scripts.new.sources.items)
          (map g.K.Sink.intake c.args.sinks.now.items) (map g.K.Sink.intake c.serve_scripts.new.sinks.items)
          result.0.report result.0.ending result.0.trail.events result.0.trail.moments result.1 (ground_on g.D.Disk c.args.disk) c.args.asked.now.seed c.args.asked.now.collections (Rose (g.D.Disk.faults c.args.disk) (g.D.Disk.faults result.1)) c.in-Ok.ensures.scripts
          (λ u. u.1 (opened.sound u.0)) (ap (λ w. w.seed) opened.begins.0) (omega (arith, opened.size)) (λ graph is. (opened.opened is.0 graph is.1).stands)
          (λ rose. omega (arith, rose, opened.later.0)) c.serve_scripts.ensures.served;
    }

pub returns-clause-volume : goal.returns-clause-volume
returns-clause-volume g c =
    let result = c.serve_scripts.result in
    let opened = c.in-Ok-open_volume.ensures in
    served g.D.Disk c.args.disk c.args.asked.now.seed c.in-Ok-open_volume.core c.args.asked.now.collections c.in-Ok.scripts.scripts.items (map g.K.Sink.intake c.args.sinks.now.items) (map g.K.Sink.intake c.serve_scripts.new.sinks.items)
    result.0.report result.0.ending result.0.trail.events result.0.trail.moments result.1 opened.later (ap (λ w. w.seed) opened.begins.0)
    (λ honest graph sound. (opened.opened honest graph sound).stands) opened.images opened.sound c.serve_scripts.ensures.served

-- ---- nothing was served

pub returns-in-Err-clause-asks : goal.returns-in-Err-clause-asks
returns-in-Err-clause-asks g c =
    let old = map g.S.Source.supply c.args.sources.now.items in
    let new = map g.S.Source.supply c.read_scripts.new.sources.items in
    let sinks = map g.K.Sink.intake c.args.sinks.now.items in
    let faults = g.D.Disk.faults c.args.disk in
    none_asks (ground_on g.D.Disk c.args.disk) c.args.asked.now.seed c.args.asked.now.collections (record { disk = Some faults; sources = old; sinks = sinks }) (record { disk = Some faults; sources = new; sinks = sinks })
    c.nothing.result.report c.nothing.result.ending c.nothing.result.trail.events c.in-Err.cause (map_count g.S.Source.supply c.read_scripts.new.sources.items c.args.sources.now.items c.read_scripts.ensures.count)
    (source_cause (ground_on g.D.Disk c.args.disk) (Rose faults faults) old new c.in-Err.cause c.in-Err.ensures.cause) refl c.nothing.ensures.report c.nothing.ensures.trail c.nothing.ensures.ending

pub returns-in-Err-open_volume-clause-asks : goal.returns-in-Err-open_volume-clause-asks
returns-in-Err-open_volume-clause-asks g c =
    let old = map g.S.Source.supply c.args.sources.now.items in
    let new = map g.S.Source.supply c.read_scripts.new.sources.items in
    let sinks = map g.K.Sink.intake c.args.sinks.now.items in
    let refused = c.in-Err-open_volume.field-0 in
    let told = c.nothing-in-Err-open_volume in
    none_asks (ground_on g.D.Disk c.args.disk) c.args.asked.now.seed c.args.asked.now.collections (record { disk = Some (g.D.Disk.faults c.args.disk); sources = old; sinks = sinks })
    (record { disk = Some (g.D.Disk.faults refused.disk); sources = new; sinks = sinks }) told.result.report told.result.ending told.result.trail.events refused.cause
    (map_count g.S.Source.supply c.read_scripts.new.sources.items c.args.sources.now.items c.read_scripts.ensures.count)
    (refusal_cause g.D.Disk c.args.disk c.args.asked.now.seed refused.disk old new c.in-Ok.scripts.scripts.items c.in-Ok.ensures.scripts refused.cause c.in-Err-open_volume.ensures.refused)
    refl told.ensures.report told.ensures.trail told.ensures.ending

pub returns-in-Err-open_volume-clause-volume : goal.returns-in-Err-open_volume-clause-volume
returns-in-Err-open_volume-clause-volume g c =
    let refused = c.in-Err-open_volume.field-0 in
    let told = c.nothing-in-Err-open_volume in
    let facts = c.in-Err-open_volume.ensures in
    unserved g.D.Disk c.args.disk c.args.asked.now.seed refused.disk told.result.report told.result.ending told.result.trail.events told.result.trail.moments refused.cause facts.later told.ensures.report told.ensures.ending
    (refusal_ill g.D.Disk c.args.disk refused.disk refused.cause facts.refused)
    (λ honest graph sound. inr (since_try g.D.Disk c.args.disk refused.disk (λ image. IsSoundAs image graph) (facts.images honest graph sound)))
    facts.untouched facts.unsound (λ is. absurd (never_of_sources g.D.Disk c.args.disk refused.disk refused.cause facts.refused is))
