use Rattle.std.proofs.Common.{◌≡◌}
use Rattle.cyl_alloc.specs.Left.{parts_left}
use Rattle.cfs_live.proofs.tidy_all.Given as goal

-- no collection is called for
abbrev pub invariant-parts : goal.invariant-parts
invariant-parts l = l.core.collections.called ≡ l.fn.core.collections.called

abbrev pub decreases-parts : goal.decreases-parts
decreases-parts l = parts_left l.core.space.left
