-- The object that a tree gives, and when a tree is one of an object.
use Rattle.std.specs.Prelude.{◌≡◌, ℕ, ◌+◌, ◌*◌, ◌/◌, ◌<◌, ◌≤◌, ◌==◌, ◌&&◌, if◌then◌else◌, is_some, IsTrue, List, []}
use Rattle.std.specs.Prelude.{◌∷◌, ◌++◌, length, take, replicate, get_or, map, filter, Option, Some, None}
use Rattle.std.specs.List.{flat_map, range_with_len}
use Rattle.cfs_base.specs.declared.identifier.Puid.{Puid}
use Rattle.cfs_base.specs.declared.kind.Kind.TheVariants as kinds
use Rattle.cfs_base.specs.declared.kind.FileKind.{FileKind}
use Rattle.cfs_base.specs.declared.kind.FileKind.TheVariants as file_kinds
use Rattle.block_tree.specs.declared.root.Root.{Root}
use Rattle.block_tree.specs.Pointers.{number_at}
use Rattle.block_tree.specs.Root.{IsRootBlock}
use Rattle.block_tree.specs.Tree.{levels_of, path_to}
use Rattle.ufs_model.specs.declared.object.Object.{Object}
use Rattle.ufs_model.specs.declared.object.Object.TheVariants as objects
use Rattle.ufs_model.specs.Object.{leaves_in}
use Rattle.vol_image.specs.Part.{BelongsTo}
use Rattle.vol_image.specs.Seen.{Held, Tree, place_at}

-- ---- the object

-- the leaf with this number, if it is held
abbrev pub leaf_in : Tree → ℕ → Option Held
leaf_in tree leaf = tree.below (path_to (levels_of tree.root) leaf)

-- the 512 bytes of a leaf: fill bytes if it is absent, or leads past the disk
abbrev pub leaf_content : ℕ → Option Held → List ℕ
leaf_content fill None = replicate 512 fill
leaf_content fill (Some h) = take 512 (h.content ++ replicate 512 fill)

-- the bytes of these leaves
abbrev pub leaves_content : ℕ → (ℕ → Option Held) → List ℕ → List ℕ
leaves_content fill leaf leaves = flat_map (λ n. leaf_content fill (leaf n)) leaves

-- what a slot of an index with these bytes holds: 8 zero bytes are an empty slot
abbrev pub slot_in : List ℕ → ℕ → Option Puid
slot_in bytes s =
    if (number_at bytes (2 * s) == 0) && (number_at bytes (2 * s + 1) == 0) then None
    else Some (record { block = number_at bytes (2 * s); word = number_at bytes (2 * s + 1) })

abbrev pub held_in : Root → (ℕ → Option Held) → List ℕ
held_in root leaf = filter (λ n. is_some (leaf n)) (range_with_len 0 (leaves_in root.size))

abbrev pub file_bytes : Root → (ℕ → Option Held) → List ℕ
file_bytes root leaf = leaves_content root.fill leaf (range_with_len 0 (leaves_in root.size))

abbrev file_with : FileKind → Root → (ℕ → Option Held) → Object
file_with kind root leaf =
    objects.File (record {
      kind = kind;
      fill = root.fill;
      bytes = take root.size (file_bytes root leaf);
      held = held_in root leaf;
    })

-- the object with this root and these leaves
unfoldable pub object_with : Root → (ℕ → Option Held) → Object
object_with root leaf = elim root.kind [
  | kinds.Normal ↦ file_with file_kinds.Normal root leaf
  | kinds.Special ↦ file_with file_kinds.Special root leaf
  | kinds.Index ↦ objects.Index
      (record {
        slots = map (slot_in (file_bytes root leaf)) (range_with_len 0 (root.size / 8));
        held = held_in root leaf;
      })
]

-- what a root reads as if nothing is below it
abbrev pub bare_object : Root → Object
bare_object root = object_with root (λ n. None)

-- ---- when a tree is one of an object

-- The tree of an object with this root block, on a disk with a number of blocks. Each condition begins with the
-- number of the fault if it doesn't hold.
pub record IsTree (size owner : ℕ) (tree : Tree) (root : Root) (o : Object) : Type 0 where
  -- 3: the root is valid
  pub spelled : IsRootBlock tree.root root
  pub object : object_with root (leaf_in tree) ≡ o
  -- 4: each pointer leads to a block of the disk
  pub on_disk : (path : List ℕ) (h : Held) → tree.below path ≡ Some h → h.block < size
  -- 5: each block has this owner, and its place
  pub owned : (path : List ℕ) (h : Held) → tree.below path ≡ Some h
      → BelongsTo owner (place_at (levels_of tree.root) path) h.part
  -- 8: no leaf is held at or past the size
  pub within : (leaf : ℕ) (h : Held) → leaf_in tree leaf ≡ Some h → leaf < leaves_in root.size
  -- 9: past the size a held leaf has fill bytes
  pub filled : (leaf i : ℕ) (h : Held) → leaf_in tree leaf ≡ Some h → i < 512 → root.size ≤ 512 * leaf + i
      → get_or h.content i 0 ≡ root.fill
  -- 10: a node that is held leads to a leaf
  pub leads_on : (path : List ℕ) (h : Held) → tree.below path ≡ Some h → length path < length (levels_of tree.root)
      → (k : ℕ) × IsTrue (is_some (tree.below (path ++ k ∷ [])))
