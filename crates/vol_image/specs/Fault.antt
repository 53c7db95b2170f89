-- What may be wrong with a volume: each fault with its number, and the block that it names. An image is read on past
-- a fault, except for what a wrong pointer or identifier leads to.
use Rattle.std.specs.Prelude.{◌≡◌, ◌≢◌, ◌⊎◌, ℕ, ◌+◌, ◌*◌, ◌/◌, ◌<◌, ◌≤◌, Bool, true, false, not, ◌&&◌, ◌==◌}
use Rattle.std.specs.Prelude.{if◌then◌else◌, List, [], ◌∷◌, ◌++◌, length, filter, get_or, slice_get, count_by}
use Rattle.std.specs.Prelude.{Option, Some, None}
use Rattle.std.specs.List.{range_with_len}
use Rattle.cfs_base.specs.Codes as codes
use Rattle.cfs_base.specs.Disk.{Image, block_at}
use Rattle.cfs_base.specs.declared.identifier.Puid.{Puid}
use Rattle.cfs_base.specs.declared.kind.Kind.TheVariants as kinds
use Rattle.cfs_base.specs.declared.kind.Place.{Place}
use Rattle.cfs_base.specs.declared.kind.Place.TheVariants as places
use Rattle.vol_label.specs.declared.label.Label.{Label}
use Rattle.vol_label.specs.Label as labels
use Rattle.block_tree.specs.declared.root.Root.{Root}
use Rattle.block_tree.specs.Root.{IsRootBlock}
use Rattle.block_tree.specs.Tree.{levels_of, tree_of}
use Rattle.cyl_map.specs.declared.entry.MapEntry.{MapEntry}
use Rattle.cyl_map.specs.Volume.{map_of, entry_in}
use Rattle.ufs_model.specs.declared.limits.TheConstants.{LEAF_SLOTS, ROOT_SLOTS}
use Rattle.ufs_model.specs.declared.object.Object.{Object}
use Rattle.ufs_model.specs.declared.object.Object.TheVariants as objects
use Rattle.ufs_model.specs.declared.object.Index.{Index}
use Rattle.ufs_model.specs.Identifier.{is_among}
use Rattle.ufs_model.specs.Numbers.{has_number}
use Rattle.ufs_model.specs.Object.{leaves_in}
use Rattle.ufs_model.specs.Graph.{Graph, object_at, referred}
use Rattle.vol_image.specs.Part.{BelongsTo, EntryPart, part_at, is_fixed, reserved, stands_for}
use Rattle.vol_image.specs.Seen.{Held, Tree, tree_in, place_at}
use Rattle.vol_image.specs.Reading.{object_with, leaf_in}

-- ---- how an object is read

-- the commit bit is set, in an entry that is the block's own
abbrev pub has_own_bit : ℕ → Option EntryPart → Bool
has_own_bit r None = false
has_own_bit r (Some p) = p.committed && (p.owner == r)

-- the shadow roots that stand for an object
unfoldable pub standing : Image → ℕ → List ℕ
standing image r = if has_own_bit r (part_at image r) then filter (λ n. stands_for r (entry_in image n))
    (range_with_len 0 (length image)) else []

-- the one shadow root that stands for the object, and else the root; of several none is taken
abbrev pub one_or : ℕ → List ℕ → ℕ
one_or r [] = r
one_or r (s ∷ []) = s
one_or r (s ∷ t ∷ ss) = r

-- the block from which an object is read
abbrev pub reader : Image → ℕ → ℕ
reader image r = one_or r (standing image r)

-- the content of that block, and the tree by which the object is read
abbrev pub shown_root : Image → ℕ → List ℕ
shown_root image r = block_at image (reader image r)

abbrev pub shown_tree : Image → ℕ → Tree
shown_tree image r = tree_in image (shown_root image r)

abbrev pub HasNoRoot : List ℕ → Type 0
HasNoRoot content = (root : Root) → ¬ IsRootBlock content root

-- a root of the same kind and word
pub record IsSameSort (own root : Root) : Type 0 where
  pub kind : root.kind ≡ own.kind
  pub word : root.word ≡ own.word

-- The block from which the object is read is a root, and its root block is a root of the same kind and word.
pub record IsShownRoot (image : Image) (r : ℕ) (root : Root) : Type 0 where
  pub own : Root
  pub own_spelled : IsRootBlock (block_at image r) own
  pub spelled : IsRootBlock (shown_root image r) root
  pub same : IsSameSort own root

-- it is the root of an index of 64 slots
pub record HasRootSlots (root : Root) : Type 0 where
  pub index : root.kind ≡ kinds.Index
  pub size : root.size ≡ 8 * ROOT_SLOTS

-- The image shows this object: it is read so, and a root index is one of 64 slots.
pub record Shows (image : Image) (r : ℕ) (root : Root) (o : Object) : Type 0 where
  pub read : IsShownRoot image r root
  pub sort : r ≡ 2 → HasRootSlots root
  pub object : object_with root (leaf_in (shown_tree image r)) ≡ o

-- ---- what is reached

-- the volume has this label
pub record HasLabel (image : Image) (label : Label) : Type 0 where
  pub is_label : labels.IsLabel label
  pub spelled : block_at image 1 ≡ labels.spelling label

-- an identifier names a root block of its word; or a block that holds no root
pub record NamesRoot (image : Image) (x : Puid) : Type 0 where
  pub some : x.block ≢ 0
  pub on_disk : x.block < length image
  pub word : (root : Root) → IsRootBlock (block_at image x.block) root → root.word ≡ x.word

abbrev pub NamesNothing : Image → Puid → Type 0
NamesNothing image x = (x.block ≡ 0)
    ⊎ ((length image ≤ x.block) ⊎ ((root : Root) × IsRootBlock (block_at image x.block) root × (root.word ≢ x.word)))

-- The rooted objects: the root index, and those that are named by a slot of a rooted object that is shown. An
-- identifier that names nothing isn't followed.
pub data IsReachedIn (image : Image) : Puid → Type 0 where
  TheRoot : (label : Label) → HasLabel image label → IsReachedIn image label.root
  Next : (i x : Puid) (root : Root) (o : Object) → IsReachedIn image i → Shows image i.block root o
      → is_among x (referred o) ≡ true → NamesRoot image x → IsReachedIn image x

-- The graph has what is shown: the objects that are reached, each as it is shown.
pub record IsShownGraph (image : Image) (g : Graph) : Type 0 where
  pub reached : (id : Puid) (o : Object) → object_at g id ≡ Some o → IsReachedIn image id
  pub all : (id : Puid) → IsReachedIn image id → (o : Object) × (object_at g id ≡ Some o)
  pub shows : (id : Puid) (o : Object) → object_at g id ≡ Some o → (root : Root) × Shows image id.block root o

-- ---- the blocks of one object

-- the object with this root block uses a block of the disk, at one of its places
pub data IsUsed (image : Image) (r : ℕ) : Place → ℕ → Type 0 where
  AsRoot : IsUsed image r places.Root r
  InTree : (root : Root) (o : Object) (path : List ℕ) (h : Held) → Shows image r root o
      → (shown_tree image r).below path ≡ Some h → h.block < length image
      → IsUsed image r (place_at (levels_of (shown_root image r)) path) h.block

-- the block that has the pointer at the end of a path: for the first pointer that of the root
abbrev pub holder : Image → ℕ → List ℕ → ℕ
holder image r [] = reader image r
holder image r (k ∷ path) = tree_of image (shown_root image r) (k ∷ path)

-- a leaf of the object, on the disk
pub record HasLeaf (image : Image) (r : ℕ) (root : Root) (o : Object) (leaf : ℕ) (h : Held) : Type 0 where
  pub shows : Shows image r root o
  pub here : leaf_in (shown_tree image r) leaf ≡ Some h
  pub on_disk : h.block < length image

-- block s is no root, or a root of another kind or word than root block r
abbrev pub IsOtherShadow : Image → (r s : ℕ) → Type 0
IsOtherShadow image r s = (shadow : Root) → IsRootBlock (block_at image s) shadow
    → (own : Root) × IsRootBlock (block_at image r) own × (shadow.kind ≡ own.kind → shadow.word ≢ own.word)

-- ---- the faults of one object, each with its number and the block that it names

pub data ObjectFault (image : Image) (r : ℕ) : ℕ → ℕ → Type 0 where
  -- the root block is no root
  NoRoot : HasNoRoot (block_at image r) → ObjectFault image r codes.no_root r
  -- a shadow root that stands for it is no root, or one of another kind or word than the root
  NoShadow : (s : ℕ) → has_number s (standing image r) ≡ true → IsOtherShadow image r s
      → ObjectFault image r codes.no_root s
  -- a pointer leads past the disk
  PastDisk : (root : Root) (o : Object) (path : List ℕ) (k : ℕ) → Shows image r root o
      → length image ≤ tree_of image (shown_root image r) (path ++ k ∷ [])
      → ObjectFault image r codes.past_disk (holder image r path)
  -- the entry of a block that it uses is Free, or has another owner or place
  NotOwned : (place : Place) (n : ℕ) → IsUsed image r place n → ¬ BelongsTo r place (part_at image n)
      → ObjectFault image r codes.not_owned n
  -- an identifier in a slot names no object, or the root index is no index of 64 slots
  SlotNamesNothing : (x : Puid) (root : Root) (index : Index) (s : ℕ) (h : Held)
      → HasLeaf image r root (objects.Index index) (s / LEAF_SLOTS) h
      → slice_get index.slots s ≡ Some (Some x) → NamesNothing image x
      → ObjectFault image r codes.names_nothing h.block
  NoRootIndex : (root : Root) → r ≡ 2 → IsShownRoot image r root → ¬ HasRootSlots root
      → ObjectFault image r codes.names_nothing 2
  -- two shadow roots stand for it
  TwoShadows : 2 ≤ length (standing image r) → ObjectFault image r codes.two_shadows r
  -- a leaf is held at or past the size
  PastSize : (root : Root) (o : Object) (leaf : ℕ) (h : Held) → HasLeaf image r root o leaf h
      → leaves_in root.size ≤ leaf → ObjectFault image r codes.late_leaf h.block
  -- a byte past the size is not the fill byte
  NotFilled : (root : Root) (o : Object) (leaf i : ℕ) (h : Held) → HasLeaf image r root o leaf h
      → i < 512 → root.size ≤ 512 * leaf + i → get_or h.content i 0 ≢ root.fill
      → ObjectFault image r codes.late_byte h.block
  -- a node that is held leads to nothing
  DeadEnd : (root : Root) (o : Object) (path : List ℕ) (h : Held) → Shows image r root o
      → (shown_tree image r).below path ≡ Some h → h.block < length image
      → length path < length (levels_of (shown_root image r))
      → ((k : ℕ) → (shown_tree image r).below (path ++ k ∷ []) ≡ None)
      → ObjectFault image r codes.dead_end h.block

-- ---- the faults of the volume

-- a rooted object uses the block
pub record IsKeptBlock (image : Image) (n : ℕ) : Type 0 where
  pub id : Puid
  pub place : Place
  pub reached : IsReachedIn image id
  pub used : IsUsed image id.block place n

-- This many blocks are left that are no map block, not the label, and not kept.
pub record LeavesBlocks (image : Image) (left : ℕ) : Type 0 where
  pub taken : List Bool
  pub size : length taken ≡ length image
  pub only : (n : ℕ) → get_or taken n false ≡ true → (is_fixed n ≡ true) ⊎ IsKeptBlock image n
  pub all : (n : ℕ) → n < length image → (is_fixed n ≡ true) ⊎ IsKeptBlock image n → get_or taken n false ≡ true
  pub count : left ≡ count_by not taken

pub data Fault (image : Image) : ℕ → ℕ → Type 0 where
  -- the label has another number of cylinders than the disk
  WrongSize : (label : Label) → HasLabel image label → 64 * label.cylinders ≢ length image
      → Fault image codes.wrong_size 1
  -- the bytes of a map's entry spell no entry, or one of a root whose owner is another block
  NoEntry : (n : ℕ) → n < length image → entry_in image n ≡ None → Fault image codes.no_entry (map_of n)
  RootOfAnother : (n : ℕ) (e : MapEntry) → entry_in image n ≡ Some e → e.place ≡ Some places.Root → e.owner ≢ n
      → Fault image codes.no_entry (map_of n)
  -- a map block or the label is not reserved
  NotReserved : (n : ℕ) → n < length image → is_fixed n ≡ true → entry_in image n ≢ Some reserved
      → Fault image codes.not_owned n
  -- the label's identifier names no object
  LabelNamesNothing : (label : Label) → HasLabel image label → NamesNothing image label.root
      → Fault image codes.names_nothing 1
  -- a rooted object has this fault
  InObject : (id : Puid) (code n : ℕ) → IsReachedIn image id → ObjectFault image id.block code n → Fault image code n
  -- fewer than 4 blocks are left
  TooFull : (left : ℕ) → LeavesBlocks image left → left < 4 → Fault image codes.too_full 0
