-- Which leaves and nodes of a file take blocks when they are written, and in what order.
use Rattle.std.specs.Prelude.{◌≡◌, ℕ, zero, suc, ◌+◌, ◌-◌, ◌/◌, Bool, not, ◌==◌, List, [], ◌∷◌, if◌then◌else◌}
use Rattle.block_tree.specs.Pointers.{leaf_pointers}
use Rattle.cfs_base.specs.declared.kind.Place.TheVariants.{Leaf, Node}
use Rattle.cyl_alloc.specs.Space.{allocated}
use Rattle.cyl_map.specs.declared.entry.MapEntry.{MapEntry}
use Rattle.ufs_model.specs.Numbers.{has_number, parents}
use Rattle.ufs_model.specs.Object.{leaves_in}
use Rattle.ufs_model.specs.declared.object.File.{File}
use Rattle.normal_files.specs.Parts.{absent_in}
use Rattle.block_tree.specs.Along.{way_leaves}
use Rattle.normal_files.specs.declared.part.Part.{Part}

-- What `count` leaves take, one after another from `leaf` on, if these leaves and nodes are held: each leaf that
-- isn't held takes a block, and after it its node, if that isn't held. The node is held then.
abbrev pub claims_from : (owner : ℕ) → (leaves nodes : List ℕ) → (leaf count : ℕ) → List MapEntry
claims_from owner leaves nodes leaf zero = []
claims_from owner leaves nodes leaf (suc n) =
    if has_number leaf leaves then claims_from owner leaves nodes (leaf + 1) n else allocated (Leaf leaf) owner
    ∷ (if has_number (leaf / leaf_pointers.count) nodes then claims_from owner leaves nodes (leaf + 1) n
    else allocated (Node (leaf / leaf_pointers.count)) owner
    ∷ claims_from owner leaves (leaf / leaf_pointers.count ∷ nodes) (leaf + 1) n)

-- what the leaves take that `count` bytes at an offset touch
abbrev pub claims_of : (owner : ℕ) → File → (offset count : ℕ) → List MapEntry
claims_of owner f offset count = claims_from owner f.held (parents f.held) (offset / 512)
    (leaves_in (offset + count) - offset / 512)

-- ---- the leaves of one node

-- what was read shows which leaves are held, and whether the node is
pub record TellsHeld (part : Part) (had : ℕ) (leaves nodes : List ℕ) : Type 0 where
  pub leaf : (l : ℕ) → l / leaf_pointers.count ≡ part.number
      → has_number l leaves ≡ not (absent_in (way_leaves part.way) l)
  pub node : has_number part.number nodes ≡ not (had == 0)

-- the nodes that are held, once a leaf was taken below one that wasn't
abbrev pub nodes_now : (none grown : Bool) → ℕ → List ℕ → List ℕ
nodes_now none grown n nodes = if grown then (if none then n ∷ nodes else nodes) else nodes
