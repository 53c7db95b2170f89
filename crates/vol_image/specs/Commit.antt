-- A draft that is written beside its object, and its commit.
use Rattle.std.specs.Prelude.{◌≡◌, ℕ, true, false, List, [], ◌∷◌, length, Some}
use Rattle.cfs_base.specs.Disk.{Image, block_at}
use Rattle.cfs_base.specs.declared.identifier.Puid.{Puid}
use Rattle.cfs_base.specs.declared.kind.Place.TheVariants.{Root}
use Rattle.block_tree.specs.declared.root.Root as roots
use Rattle.block_tree.specs.Root.{IsRootBlock}
use Rattle.cyl_map.specs.declared.entry.MapEntry.{MapEntry}
use Rattle.cyl_map.specs.Entry.{IsEntry}
use Rattle.cyl_map.specs.Volume.{entry_in}
use Rattle.ufs_model.specs.declared.object.Object.{Object}
use Rattle.ufs_model.specs.Graph.{Graph, without}
use Rattle.vol_image.specs.Part.{BelongsTo, OwnsItself, SameAt, part_at, part_of, is_fixed, stands_for}
use Rattle.vol_image.specs.Seen.{Held, tree_in}
use Rattle.vol_image.specs.Reading.{IsTree}
use Rattle.vol_image.specs.Sight.{source}
use Rattle.vol_image.specs.Frame.{Frames, IsHeldBy, StandsForNone}

-- s is the one shadow root that stands for r. It has the kind and word of r's root, and its tree is that of this
-- object.
pub record IsDraft (image : Image) (r s : ℕ) (o : Object) : Type 0 where
  pub alone : (n : ℕ) → stands_for r (entry_in image n) ≡ true → n ≡ s
  pub stands : stands_for r (entry_in image s) ≡ true
  pub shadow : roots.Root
  pub same : (root : roots.Root) → IsRootBlock (block_at image r) root
      → (shadow.kind ≡ root.kind) × (shadow.word ≡ root.word)
  pub tree : IsTree (length image) r (tree_in image (block_at image s)) shadow o

-- In image b the object with root block r is read by s. What stands for it, and the tree of s, are those of image a.
pub record IsReadBy (a b : Image) (r s : ℕ) : Type 0 where
  pub source_is : source b r ≡ s
  pub stands : (n : ℕ) → stands_for r (entry_in b n) ≡ stands_for r (entry_in a n)
  pub tree : tree_in b (block_at b s) ≡ tree_in a (block_at a s)

-- an entry with its commit bit
abbrev pub with_commit_bit : MapEntry → MapEntry
with_commit_bit e = record e { committed = true }

-- the image in which the content by which an object is read is written to its root
abbrev pub root_from_source : Image → ℕ → List ℕ
root_from_source image r = block_at image (source image r)

-- Once the root has the content of the shadow root s, an image may differ from this one in the object's commit bit,
-- in the entry of s, and in the states of the object's blocks.
pub record Settles (c : Image) (g : Graph) (id : Puid) (s : ℕ) (b : Image) : Type 0 where
  pub frames : Frames c (without g (id ∷ [])) b
  pub part : BelongsTo id.block Root (part_at b id.block)
  pub root : block_at b id.block ≡ block_at c id.block
  pub shadow : block_at b s ≡ block_at c id.block
  -- no other shadow root stands for the object
  pub alone : (n : ℕ) → stands_for id.block (entry_in b n) ≡ true → n ≡ s
  pub inner : (path : List ℕ) (h : Held) → (tree_in c (block_at c id.block)).below path ≡ Some h → SameAt c b h.block

-- this entry may take the place of the old one while an object settles
pub record MaySettle (c : Image) (g : Graph) (id : Puid) (s n : ℕ) (old e : MapEntry) : Type 0 where
  pub apart : is_fixed n ≡ false
  -- only the state of a block that another object holds may change, as that of the root of an object that was made
  pub others : IsHeldBy c (without g (id ∷ [])) n → part_of (Some e) ≡ part_of (Some old)
  pub entry : IsEntry e
  pub itself : OwnsItself n e
  -- a root stays a root, with the bit or without
  pub root : n ≡ id.block → BelongsTo id.block Root (part_of (Some e))
  -- only the state of a block that the object holds may change
  pub inner : (path : List ℕ) (h : Held) → (tree_in c (block_at c id.block)).below path ≡ Some h → h.block ≡ n
      → part_of (Some e) ≡ part_of (Some old)
  -- no other shadow root is made, of this object or of another
  pub shadow : stands_for id.block (Some e) ≡ true → n ≡ s
  pub of_others : StandsForNone c (without g (id ∷ [])) e
  pub of_others_before : StandsForNone c (without g (id ∷ [])) old
