use Rattle.std.proofs.Common.{◌∙◌, ◌≤◌, [], ap, arith, refl, subst}
use Rattle.collector_steps.specs.declared.phase.Phase.TheVariants as phases
use Rattle.collector_steps.proofs.Words.{Collecting, IsMarking, State, all_shaded, allowed, begin_keeps, begun, none_marked, pace_begin, volume_of, well}
use Rattle.collector_steps.proofs.Kept.{is_directory_of, by_parts}
use Rattle.collector_steps.proofs.Lefts.{begins_with}
use Rattle.collector_steps.proofs.collector.Collector.begin.Goals as goal

pub returns-clause-keeps : goal.returns-clause-keeps
returns-clause-keeps c = λ seed s t image state named all began few.
    let directory = c.args.directory.now.named in
    let roots = c.args.roots.now in
    let colours = all_shaded directory roots none_marked in
    let is = subst (λ (u : State). IsMarking u colours []) (allowed _ (begun s) t began).1 (begin_keeps s (well s state) directory (is_directory_of c.kinds_follow_the_graph.ensures.kind directory s.graph named) roots all) in
    by_parts t _ colours _ [] _ (volume_of c.args.self.now) _ 1 _ 0 (c.shade_all.ensures.shaded ∙ ap (all_shaded directory roots) c.clear.ensures.none) c.clear-2.ensures.none
    (c.shade_all.ensures.blocks ∙ c.clear.ensures.blocks ∙ ap volume_of c.self.view_is) refl refl (is, pace_begin t colours (volume_of c.args.self.now) few)

pub returns-clause-left : goal.returns-clause-left
returns-clause-left c =
    let l : Collecting = record { marks = c.shade_all.new.marks; rescues = c.clear-2.new.self; phase = phases.Marking; steps = 1; added = 0 } in
    let room : c.args.directory.now.room ≤ volume_of l = omega (arith, c.requires.blocks, c.shade_all.ensures.blocks, c.clear.ensures.blocks, ap volume_of c.self.view_is) in
    begins_with l c.args.directory.now c.args.roots.now c.directories_are_listings.ensures room refl c.clear-2.ensures.none
    (c.shade_all.ensures.shaded ∙ ap (all_shaded c.args.directory.now.named c.args.roots.now) c.clear.ensures.none)
