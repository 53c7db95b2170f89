-- A draft as the layers above see it.
use Rattle.std.specs.Prelude.{◌≡◌, ℕ, ◌+◌, ◌-◌, ◌/◌, Bool, false, not, List, [], ◌∷◌, length, get_or, filter, replicate}
use Rattle.std.specs.Prelude.{Option, Some, None, if◌then◌else◌, is_some, slice_index}
use Rattle.std.specs.List.{range_with_len}
use Rattle.block_tree.specs.Pointers.{leaf_limit, leaf_pointers, node_pointers}
use Rattle.cfs_base.specs.declared.identifier.BlockNo.{BlockNo}
use Rattle.cfs_base.specs.declared.identifier.Puid.{Puid}
use Rattle.block_tree.specs.declared.root.Root as roots
use Rattle.ufs_model.specs.declared.object.Draft.{Draft}
use Rattle.ufs_model.specs.Numbers.{missing}
use Rattle.ufs_model.specs.Object.{written_anew}
use Rattle.ufs_model.specs.declared.change.Change.{Change}
use Rattle.vol_owners.specs.Account.{Drafts, Opened}

-- where its object's root is, its shadow root if it has one, the object's root and the root that it is to get, which
-- leaves and which nodes are fresh, and the root block of the object that it makes, if it makes one
pub record Drafting : Type 0 where
  pub at : ℕ
  pub shadow : Option ℕ
  pub own : roots.Root
  pub root : roots.Root
  pub leaves : List Bool
  pub nodes : List Bool
  pub created : Option ℕ

abbrev pub number_if : Option BlockNo → Option ℕ
number_if None = None
number_if (Some block) = Some block.0

-- `count` flags, none of which is set
unfoldable pub none_of : ℕ → List Bool
none_of count = replicate count false

-- a draft that has just begun, equal to its object
abbrev pub begun_at : ℕ → Option ℕ → roots.Root → Drafting
begun_at at shadow root =
    record {
      at = at;
      shadow = shadow;
      own = root;
      root = root;
      leaves = none_of leaf_limit;
      nodes = none_of node_pointers.count;
      created = None;
    }

-- ---- the draft of the model

-- the numbers of those flags that are set
unfoldable pub set_in : List Bool → List ℕ
set_in flags = filter (λ n. get_or flags n false) (range_with_len 0 (length flags))

-- the fresh leaves, and the fresh nodes
abbrev pub fresh_of : Drafting → List (List ℕ)
fresh_of drafting = set_in drafting.leaves ∷ set_in drafting.nodes ∷ []

-- the same as a draft on a disk, for this draft of the model
abbrev pub opened_as : Drafting → Draft → Opened
opened_as drafting d =
    record {
      shadow = drafting.shadow;
      own = drafting.own;
      root = drafting.root;
      draft = d;
      created = drafting.created;
    }

-- it is the draft, among these drafts, of the object with this identifier, and has the model's fresh blocks, level by
-- level
pub record IsOpen (ds : Drafts) (id : Puid) (drafting : Drafting) (d : Draft) : Type 0 where
  pub at : id.block ≡ drafting.at
  pub alone : ds id ≡ Some (opened_as drafting d)
  pub leaf_flags : length drafting.leaves ≡ leaf_limit
  pub node_flags : length drafting.nodes ≡ node_pointers.count
  pub fresh : (k : ℕ) → get_or d.fresh k [] ≡ get_or (fresh_of drafting) k []

-- ---- how many blocks it takes

-- the pointer to a node, or 0 if it is absent
abbrev pub pointer_to_node : roots.Root → ℕ → ℕ
pointer_to_node root n = slice_index root.nodes n

abbrev pub is_fresh_leaf : Drafting → ℕ → Bool
is_fresh_leaf drafting leaf = get_or drafting.leaves leaf false

abbrev pub is_fresh_node : Drafting → ℕ → Bool
is_fresh_node drafting n = get_or drafting.nodes n false

-- no block of it is fresh, as for a draft that has just begun
pub record HasNoneFresh (drafting : Drafting) : Type 0 where
  pub leaves : (leaf : ℕ) → is_fresh_leaf drafting leaf ≡ false
  pub nodes : (n : ℕ) → is_fresh_node drafting n ≡ false

abbrev pub one_unless : Bool → ℕ
one_unless b = if b then 0 else 1

-- a leaf that isn't fresh takes a block, and one for its node if that isn't fresh
abbrev pub draft_takes : Drafting → ℕ → ℕ
draft_takes drafting leaf =
    if is_fresh_leaf drafting leaf then 0 else 1 + one_unless (is_fresh_node drafting (leaf / leaf_pointers.count))

-- those of the flags from `from` up to `to` that aren't set
unfoldable pub unset_in : List Bool → ℕ → ℕ → List ℕ
unset_in flags from to = filter (λ n. not (get_or flags n false)) (range_with_len from (to - from))

-- how many shadow roots it has; a draft that has none yet takes one with its commit
abbrev pub shadow_count : Drafting → ℕ
shadow_count drafting = if is_some drafting.shadow then 1 else 0

abbrev pub shadow_need : Drafting → ℕ
shadow_need drafting = one_unless (is_some drafting.shadow)

-- how many blocks a change takes by the model, with the shadow root that a commit takes
abbrev pub need_beside : Change → Draft → Drafting → ℕ
need_beside c d drafting = missing (written_anew c d.object d.fresh) d.fresh + shadow_need drafting

-- the same by the flags, if the leaves from `from` up to `to` are written
abbrev pub leaves_take : Drafting → ℕ → ℕ → ℕ
leaves_take drafting from to =
    length (unset_in drafting.leaves from to)
    + length (unset_in drafting.nodes (from / leaf_pointers.count)
    ((to + (leaf_pointers.count - 1)) / leaf_pointers.count))
