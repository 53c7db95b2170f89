-- What a block is, by its level and number.
use Rattle.std.specs.Prelude.{ℕ, zero, suc}
use Rattle.cfs_base.specs.declared.kind.Place.{Place}
use Rattle.cfs_base.specs.declared.kind.Place.TheVariants.{Node, Leaf, Span}

-- the place with a number on a level; level 0 is that of the leaves
abbrev pub place_up : (level n : ℕ) → Place
place_up zero n = Leaf n
place_up (suc zero) n = Node n
place_up (suc (suc level)) n = Span n
