use Rattle.cfs_serve.proofs.dirs.tidy_all.Given as goal
use Rattle.cfs_serve.specs.Tidied.{MakesParts}
use Rattle.cyl_alloc.specs.Left.{parts_left}

-- parts were made
abbrev pub invariant-parts : goal.invariant-parts
invariant-parts g l = record { made : MakesParts g.D.Disk l.fn.core l.core }

abbrev pub decreases-parts : goal.decreases-parts
decreases-parts g l = parts_left l.core.space.left
