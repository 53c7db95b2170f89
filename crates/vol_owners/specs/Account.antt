-- Each block of an image has one use, and its entry says which: Free, fixed, or of the tree of one object, of one
-- draft, or of an object that is gone.
use Rattle.std.specs.Prelude.{◌≡◌, ◌⊎◌, ℕ, zero, suc, Bool, true, false, not, ◌&&◌, if◌then◌else◌, List, [], ◌∷◌}
use Rattle.std.specs.Prelude.{length, take, get_or, filter, Option, Some, None}
use Rattle.std.specs.List.{range_with_len}
use Rattle.cfs_base.specs.Disk.{Image, block_at}
use Rattle.cfs_base.specs.declared.identifier.Puid.{Puid}
use Rattle.block_tree.specs.declared.root.Root as roots
use Rattle.block_tree.specs.Root.{IsRootBlock, root_spelling}
use Rattle.block_tree.specs.Pointers.{width}
use Rattle.block_tree.specs.Tree.{levels_of, path_to}
use Rattle.cyl_map.specs.declared.entry.MapEntry.{MapEntry}
use Rattle.cyl_map.specs.Volume.{entry_in}
use Rattle.ufs_model.specs.declared.object.Draft.{Draft}
use Rattle.ufs_model.specs.declared.object.Object.{Object}
use Rattle.ufs_model.specs.Identifier.{same_puid}
use Rattle.ufs_model.specs.Graph.{Graph, object_at, is_there}
use Rattle.ufs_model.specs.Numbers.{has_number}
use Rattle.vol_image.specs.Part.{part_at, is_committed, is_fixed, stands_for}
use Rattle.vol_image.specs.Seen.{Held, Tree, tree_in}
use Rattle.vol_image.specs.Reading.{IsTree}
use Rattle.vol_image.specs.Frame.{IsBlockOf}
use Rattle.vol_image.specs.Sound.{Holds}
use Rattle.vol_owners.specs.Owner.{is_had, is_meant, is_leaving, is_taken, is_placed, owner_of, is_owned_by, is_root}
use Rattle.vol_owners.specs.Owner.{is_made}
use Rattle.vol_owners.specs.Owner.{is_stray}

-- ---- an object

-- The blocks of the object with this root block are exactly those that it has: none waits to be freed.
pub record HasItsBlocks (image : Image) (r : ℕ) : Type 0 where
  pub no_bit : is_committed (part_at image r) ≡ false
  pub each : (n : ℕ) → IsBlockOf image r n → is_owned_by is_had r (entry_in image n) ≡ true
  pub no_other : (n : ℕ) → is_owned_by is_had r (entry_in image n) ≡ true → IsBlockOf image r n
  pub none_leaves : (n : ℕ) → is_owned_by is_leaving r (entry_in image n) ≡ false

-- ---- a draft

-- the block is somewhere in a tree
pub record StandsIn (tree : Tree) (n : ℕ) : Type 0 where
  pub path : List ℕ
  pub held : Held
  pub there : tree.below path ≡ Some held
  pub is : held.block ≡ n

abbrev pub passes : (ℕ → Bool) → Option Held → Bool
passes test None = false
passes test (Some h) = test h.block

-- the numbers of those paths that pass a test, d levels below a root of this content
abbrev pub numbers_at : (List ℕ → Bool) → List ℕ → ℕ → List ℕ
numbers_at test root d =
    filter (λ k. test (path_to (take d (levels_of root)) k)) (range_with_len 0 (width (take d (levels_of root))))

-- the numbers of those blocks d levels below the root that pass a test, and the same level by level, from this depth
-- up
abbrev pub standing_at : (ℕ → Bool) → Tree → ℕ → List ℕ
standing_at test tree d = numbers_at (λ path. passes test (tree.below path)) tree.root d

abbrev pub levels_standing : (ℕ → Bool) → Tree → ℕ → List (List ℕ)
levels_standing test tree zero = []
levels_standing test tree (suc d) = standing_at test tree (suc d) ∷ levels_standing test tree d

-- What the draft of an object has of its own: a shadow root, once it has one; in memory the object's root, and the
-- root that it is to get; and the root of the object that it makes, if it makes one.
pub record Opened : Type 0 where
  pub shadow : Option ℕ
  pub own : roots.Root
  pub root : roots.Root
  pub draft : Draft
  pub created : Option ℕ

-- the content that the object's root is to get
abbrev pub content_of : Opened → List ℕ
content_of d = root_spelling d.root

abbrev pub is_meant_for : Image → ℕ → ℕ → Bool
is_meant_for image r n = is_owned_by is_meant r (entry_in image n)

-- The tree of the content gives the draft. The blocks that are meant for the object are exactly the shadow root and
-- the fresh blocks of this tree.
pub record HasDraft (image : Image) (id : Puid) (d : Opened) : Type 0 where
  pub own : IsRootBlock (block_at image id.block) d.own
  pub same_kind : d.root.kind ≡ d.own.kind
  pub same_word : d.root.word ≡ d.own.word
  pub tree : IsTree (length image) id.block (tree_in image (content_of d)) d.root d.draft.object
  pub shadow : (s : ℕ) → d.shadow ≡ Some s → stands_for id.block (entry_in image s) ≡ true
  pub fresh : (k : ℕ) → get_or d.draft.fresh k []
      ≡ get_or (levels_standing (is_meant_for image id.block) (tree_in image (content_of d))
      (length (levels_of (content_of d)))) k []
  pub no_other : (n : ℕ) → is_meant_for image id.block n ≡ true
      → (d.shadow ≡ Some n) ⊎ StandsIn (tree_in image (content_of d)) n

-- the draft of the object is this one, or there is none and nothing is meant for the object
abbrev pub HasDraftIf : Image → Puid → Option Opened → Type 0
HasDraftIf image id None = (n : ℕ) → is_meant_for image id.block n ≡ false
HasDraftIf image id (Some d) = HasDraft image id d

-- ---- all drafts

-- the draft of each object, if it has one
abbrev pub Drafts : Type 0
Drafts = Puid → Option Opened

abbrev pub no_drafts : Drafts
no_drafts id = None

-- the object has this draft, or none, and all others have theirs
abbrev pub with_draft_if : Puid → Option Opened → Drafts → Drafts
with_draft_if id d ds = λ x. if same_puid x id then d else ds x

abbrev pub with_opened : Puid → Opened → Drafts → Drafts
with_opened id d ds = with_draft_if id (Some d) ds

abbrev pub without_draft : Puid → Drafts → Drafts
without_draft id ds = with_draft_if id None ds

-- ---- objects that drafts make

-- the root of the object that a draft makes, if there is one and it makes one
abbrev pub created_if : Option Opened → Option ℕ
created_if None = None
created_if (Some d) = d.created

-- the draft of this object makes one with this root
pub record IsMadeBy (ds : Drafts) (c : ℕ) : Type 0 where
  pub id : Puid
  pub makes : created_if (ds id) ≡ Some c

-- the root has an entry, and it is all that has this owner so far
pub record IsMadeRoot (image : Image) (c : ℕ) : Type 0 where
  pub entered : is_made (entry_in image c) ≡ true
  pub alone : (n : ℕ) → is_owned_by is_taken c (entry_in image n) ≡ true → n ≡ c

-- no number is in the list twice
abbrev pub numbers_differ : List ℕ → Bool
numbers_differ [] = true
numbers_differ (n ∷ ns) = not (has_number n ns) && numbers_differ ns

-- ---- all

-- the root of this owner exists
abbrev pub HasRoot : Image → ℕ → Type 0
HasRoot image r = is_root is_taken (entry_in image r) ≡ true

pub record Accounts (image : Image) (g : Graph) (ds : Drafts) : Type 0 where
  pub holds : Holds image g
  -- a block that isn't fixed is Free or has a place in some object
  pub placed : (n : ℕ) (e : MapEntry) → entry_in image n ≡ Some e → is_fixed n ≡ false → is_taken e.state ≡ true
      → is_placed is_taken (Some e) ≡ true
  -- while a block of an object is left its root is too: roots are swept last, so no new object finds blocks of an old
  -- one
  pub rooted : (n : ℕ) → is_placed is_taken (entry_in image n) ≡ true → HasRoot image (owner_of (entry_in image n))
  pub objects : (id : Puid) (o : Object) → object_at g id ≡ Some o → HasItsBlocks image id.block
  pub drafts : (id : Puid) (o : Object) → object_at g id ≡ Some o → HasDraftIf image id (ds id)
  pub on_objects : (id : Puid) (d : Opened) → ds id ≡ Some d → is_there g id ≡ true
  -- the roots of objects that are made are exactly those that the drafts make
  pub made : (c : ℕ) → IsMadeBy ds c → IsMadeRoot image c
  pub made_by : (n : ℕ) → is_made (entry_in image n) ≡ true → IsMadeBy ds n
  pub made_once : (c : ℕ) (x y : IsMadeBy ds c) → x.id ≡ y.id

-- no block is one of an object that is gone
pub record IsSwept (image : Image) (g : Graph) : Type 0 where
  pub none : (n : ℕ) → is_stray g (entry_in image n) ≡ false
