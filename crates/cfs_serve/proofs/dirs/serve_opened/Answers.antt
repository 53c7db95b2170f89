use Rattle.std.proofs.Common.{inr, map, set, refl, ap, ◌∙◌, subst, [], ◌∷◌, List, ℕ, ◌≡◌, length}
use Rattle.cfs_serve.proofs.Cited.{HaveScripts, IsSoundAs, length-map}
use Rattle.cfs_serve.proofs.NamesOpened.{does_lines, does_none, one_set, the_one}
use Rattle.cfs_serve.proofs.Volumes.{never_of_sources, refusal_cause, refusal_ill, since_try, unserved}
use Rattle.cfs_serve.proofs.dirs.serve_opened.Goals as goal

pub returns-in-Err-open_volume-clause-names : goal.returns-in-Err-open_volume-clause-names
returns-in-Err-open_volume-clause-names g c =
    let old = map g.S.Source.supply c.args.sources.now.items in
    let new = map g.S.Source.supply c.read_scripts.new.sources.items in
    let sinks = map g.K.Sink.intake c.args.sinks.now.items in
    let refused = c.in-Err-open_volume.field-0 in
    let told = c.nothing-in-Err-open_volume in
    let facts = c.in-Err-open_volume.ensures in
    does_none g.D.Disk c.args.seed told.result.ending c.args.disk refused.disk old new sinks sinks told.result.report refused.cause
    (refusal_cause g.D.Disk c.args.disk c.args.seed refused.disk old new c.in-Ok.scripts.scripts.items c.in-Ok.ensures.scripts refused.cause facts.refused) refl told.ensures.report told.ensures.ending
    (unserved g.D.Disk c.args.disk c.args.seed refused.disk told.result.report told.result.ending [] [] refused.cause facts.later told.ensures.report told.ensures.ending
    (refusal_ill g.D.Disk c.args.disk refused.disk refused.cause facts.refused)
    (λ honest graph sound. inr (since_try g.D.Disk c.args.disk refused.disk (λ image. IsSoundAs image graph) (facts.images honest graph sound)))
    facts.untouched facts.unsound (λ is. absurd (never_of_sources g.D.Disk c.args.disk refused.disk refused.cause facts.refused is)))

pub returns-clause-names : goal.returns-clause-names
returns-clause-names g c =
    let old = map g.S.Source.supply c.args.sources.now.items in
    let new = map g.S.Source.supply c.read_scripts.new.sources.items in
    let served = c.serve_lines in
    let core = c.in-Ok-open_volume.core in
    let facts = c.in-Ok-open_volume.ensures in
    let script : List ℕ = c.as_slice.result.now in
    let count : length c.in-Ok.scripts.scripts.items ≡ 1 = c.in-Ok.ensures.scripts.all ∙ length-map c.args.sources.now.items g.S.Source.supply ∙ c.requires.source in
    let one : c.in-Ok.scripts.scripts.items ≡ script ∷ [] = rw c.as_slice.ensures (the_one c.in-Ok.scripts.scripts.items c.index.result.now count c.index.ensures) in
    let sink : c.args.sinks.now.items ≡ c.index_mut.result.now ∷ [] = the_one c.args.sinks.now.items c.index_mut.result.now c.requires.sink c.index_mut.ensures.value in
    does_lines g.D.Disk c.args.seed c.args.disk served.result.1 core old new (map g.K.Sink.intake c.args.sinks.now.items) (map g.K.Sink.intake (set c.args.sinks.now.items 0 served.new.sink)) script
    (g.K.Sink.intake c.index_mut.result.now) (g.K.Sink.intake served.new.sink) served.result.0.report served.result.0.ending facts.later facts.size
    (subst (λ l. HaveScripts old l) one c.in-Ok.ensures.scripts)
    (ap (map g.K.Sink.intake) sink, one_set g.K.Sink.intake c.args.sinks.now.items c.index_mut.result.now served.new.sink sink)
    (λ honest graph sound. (facts.opened honest graph sound).stands) facts.images facts.sound served.ensures.served
