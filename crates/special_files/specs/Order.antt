-- Which leaves and nodes of a draft take blocks, and in what order.
use Rattle.std.specs.Prelude.{◌≡◌, ◌⊎◌, map, ℕ, zero, suc, ◌+◌, ◌-◌, ◌/◌, Bool, true, false, List, [], ◌∷◌, ◌++◌}
use Rattle.std.specs.Prelude.{get_or, set, if◌then◌else◌}
use Rattle.block_tree.specs.Pointers.{leaf_pointers}
use Rattle.cfs_base.specs.declared.kind.Place.TheVariants.{Leaf, Node}
use Rattle.cfs_base.specs.Disk.{Image}
use Rattle.claims.specs.Claims.{AreClaimed}
use Rattle.cyl_alloc.specs.Space.{intended}
use Rattle.cyl_map.specs.Volume.{entry_in, is_free_in}
use Rattle.ufs_model.specs.Numbers.{first_level, lacking, next_levels}
use Rattle.vol_owners.specs.Account.{is_meant_for}
use Rattle.cyl_map.specs.declared.entry.MapEntry.{MapEntry}
use Rattle.special_files.specs.Drafting.{Drafting}

-- what a node takes, if it isn't fresh
abbrev pub node_claims : (at : ℕ) → (nodes : List Bool) → ℕ → List MapEntry
node_claims at nodes n = if get_or nodes n false then [] else intended (Node n) at ∷ []

-- what a leaf takes with these fresh leaves and nodes: if it isn't fresh a block, and after it one for its node, if
-- that isn't fresh
abbrev pub leaf_claims : (at : ℕ) → (leaves nodes : List Bool) → ℕ → List MapEntry
leaf_claims at leaves nodes leaf =
    if get_or leaves leaf false then [] else intended (Leaf leaf) at ∷ node_claims at nodes (leaf / leaf_pointers.count)

-- what `count` leaves take, one after another from `leaf` on; each is fresh then, and so is its node
abbrev pub claims_by_leaf : (at : ℕ) → (leaves nodes : List Bool) → (leaf count : ℕ) → List MapEntry
claims_by_leaf at leaves nodes leaf zero = []
claims_by_leaf at leaves nodes leaf (suc n) =
    leaf_claims at leaves nodes leaf
    ++ claims_by_leaf at (set leaves leaf true) (set nodes (leaf / leaf_pointers.count) true) (leaf + 1) n

-- what the leaves of a draft from `from` up to `to` take
abbrev pub claims_between : Drafting → (from to : ℕ) → List MapEntry
claims_between drafting from to = claims_by_leaf drafting.at drafting.leaves drafting.nodes from (to - from)

-- those of the blocks that the model writes anew that aren't fresh: leaves, and then nodes
abbrev pub claims_anew : (at : ℕ) → (anew fresh : List (List ℕ)) → List MapEntry
claims_anew at anew fresh =
    map (λ l. intended (Leaf l) at) (lacking (first_level anew) (first_level fresh))
    ++ map (λ n. intended (Node n) at) (lacking (first_level (next_levels anew)) (first_level (next_levels fresh)))

-- From image a on these are claimed. Some of the blocks that are then meant for an owner are Free in image b, and all
-- others are as they were.
pub record ClaimsAndDrops (owner : ℕ) (es : List MapEntry) (a b : Image) : Type 0 where
  pub mid : Image
  pub claimed : AreClaimed es a mid
  pub left : (n : ℕ) → (entry_in b n ≡ entry_in mid n) ⊎ ((is_meant_for mid owner n ≡ true) × (is_free_in b n ≡ true))
