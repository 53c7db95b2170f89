use Rattle.std.proofs.Common.{◌≡◌, ◌+◌, ◌*◌, ◌++◌, length, take}
use Rattle.block_tree.specs.Pointers.{levels_below}
use Rattle.cfs_check.specs.Twigs.{rows}
use Rattle.cfs_check.proofs.twig.+listing.Given as goal

abbrev pub decreases-list_twig : goal.decreases-list_twig
decreases-list_twig l = 2 * l.at.height

abbrev pub decreases-list_below : goal.decreases-list_below
decreases-list_below l = 2 * l.at.height + 1

abbrev pub invariant-list_below-loop-place : goal.invariant-list_below-loop-place
invariant-list_below-loop-place l =
    l.twigs.items ≡ l.initial.twigs.items ++ rows l.image l.stem (levels_below l.at.height) l.at.block (l.at.number * length l.pointers) (take l.place l.pointers)
