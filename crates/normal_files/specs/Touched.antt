-- How many leaves and nodes bytes touch.
use Rattle.std.specs.Prelude.{ℕ, ◌+◌, ◌-◌, ◌/◌}
use Rattle.block_tree.specs.Pointers.{leaf_pointers}
use Rattle.ufs_model.specs.Object.{leaves_in}

abbrev pub leaves_touched : (offset count : ℕ) → ℕ
leaves_touched offset count = leaves_in (offset + count) - offset / 512

abbrev pub nodes_touched : (offset count : ℕ) → ℕ
nodes_touched offset count =
    (leaves_in (offset + count) + leaf_pointers.count - 1) / leaf_pointers.count - offset / 512 / leaf_pointers.count
