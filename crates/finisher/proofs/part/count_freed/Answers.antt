use Rattle.std.proofs.Common.{◌∙◌, sym, subst}
use Rattle.cyl_alloc.specs.Space.{AreCounts, Kept}
use Rattle.cyl_map.specs.Volume.{with_entry}
use Rattle.finisher.proofs.Going.{freed_counts, kept_counts}
use Rattle.finisher.proofs.part.count_freed.Goals as goal

pub returns-then-is_freed-clause-counts : goal.returns-then-is_freed-clause-counts
returns-then-is_freed-clause-counts c = λ image counts here.
    subst (λ (k : Kept). AreCounts (with_entry image c.args.block.0 c.args.now) k) (sym c.gave.ensures.given) (freed_counts image c.args.space.now c.args.block.0 c.args.was c.args.now counts here c.requires.entry (sym c.is_freed.ensures ∙ c.if-is_freed.true))

pub returns-else-is_freed-clause-counts : goal.returns-else-is_freed-clause-counts
returns-else-is_freed-clause-counts c = λ image counts here. kept_counts image c.args.space.now c.args.block.0 c.args.was c.args.now counts here c.requires.entry c.requires.stays (sym c.is_freed.ensures ∙ c.if-is_freed.false)
