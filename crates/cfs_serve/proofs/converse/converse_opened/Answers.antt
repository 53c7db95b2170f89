use Rattle.std.proofs.Common.{inr, map, refl, ap}
use Rattle.cfs_serve.proofs.Cited.{IsSoundAs}
use Rattle.cfs_serve.proofs.Conversing.{none_else, only_one, talks_none, talks_on, unopened_cause}
use Rattle.cfs_serve.proofs.Volumes.{never_of_sources, refusal_ill, since_try, unserved}
use Rattle.cfs_serve.specs.Commands.{conversation}
use Rattle.cfs_serve.proofs.converse.converse_opened.Goals as goal

pub returns-in-Err-clause-talks : goal.returns-in-Err-clause-talks
returns-in-Err-clause-talks g c =
    let refused = c.in-Err.field-0 in
    let facts = c.in-Err.ensures in
    let told = c.nothing in
    let sinks = map g.K.Sink.intake c.args.sinks.now.items in
    talks_none g.D.Disk (conversation c.args.asked.now) c.args.disk refused.disk told.result.report told.result.ending told.result.trail.events told.result.trail.moments
    (map g.S.Source.supply c.args.sources.now.items) sinks sinks refused.cause (unopened_cause g.D.Disk c.args.disk refused.disk refused.cause facts.refused)
    (record { no_event = told.ensures.trail; no_end = told.ensures.ending; untouched = refl; told = told.ensures.report })
    (unserved g.D.Disk c.args.disk c.args.asked.now.seed refused.disk told.result.report told.result.ending told.result.trail.events told.result.trail.moments refused.cause facts.later told.ensures.report told.ensures.ending
    (refusal_ill g.D.Disk c.args.disk refused.disk refused.cause facts.refused)
    (λ honest graph sound. inr (since_try g.D.Disk c.args.disk refused.disk (λ image. IsSoundAs image graph) (facts.images honest graph sound)))
    facts.untouched facts.unsound (λ is. absurd (never_of_sources g.D.Disk c.args.disk refused.disk refused.cause facts.refused is)))

pub returns-clause-talks : goal.returns-clause-talks
returns-clause-talks g c =
    let facts = c.in-Ok.ensures in
    let had = c.talk_on_core-conversed.result in
    let source = c.take_last-source in
    let sink = c.take_last-sink in
    let no_source = none_else c.args.sources.now.items source.new.self.items source.result source.ensures.items c.requires.source in
    let no_sink = none_else c.args.sinks.now.items sink.new.self.items sink.result sink.ensures.items c.requires.sink in
    rw (
      only_one g.S.Source.supply c.args.sources.now.items source.new.self.items source.result no_source source.ensures.items,
      only_one g.K.Sink.intake c.args.sinks.now.items sink.new.self.items sink.result no_sink sink.ensures.items,
      only_one g.S.Source.supply c.push_reserved.new.self.items source.new.self.items had.source no_source c.push_reserved.ensures.items,
      only_one g.K.Sink.intake c.push_reserved-2.new.self.items sink.new.self.items had.sink no_sink c.push_reserved-2.ensures.items,
    )
    (talks_on g.D.Disk (conversation c.args.asked.now) c.args.disk had.disk had.played.report had.played.ending had.played.trail.events had.played.trail.moments c.in-Ok.core facts.later facts.size
    (ap (λ w. w.seed) facts.begins.0) (λ honest graph sound. (facts.opened honest graph sound).stands) facts.images facts.sound
    (g.S.Source.supply source.result) (g.S.Source.supply had.source) (g.K.Sink.intake sink.result) (g.K.Sink.intake had.sink) c.talk_on_core-conversed.ensures)
