-- How one leaf is put into a draft.
use Rattle.std.specs.Prelude.{◌≡◌, ℕ, ◌+◌, ◌*◌, ◌/◌, ◌<◌, ◌≤◌, false, List, get_or, sum, IfErr, OnOk, Result}
use Rattle.cfs_base.specs.Calls.{HasTried}
use Rattle.cfs_base.specs.Disk.{Image}
use Rattle.cfs_base.specs.declared.disk.Disk.{Ghosts}
use Rattle.cfs_base.specs.declared.identifier.Puid.{Puid}
use Rattle.cfs_base.specs.declared.refusal.Refused.{Refused}
use Rattle.cfs_base.specs.declared.refusal.Refused.TheVariants as refusals
use Rattle.block_tree.specs.Along.{IsTo}
use Rattle.block_tree.specs.Root.{root_spelling}
use Rattle.block_tree.specs.declared.along.Way.{Way}
use Rattle.block_tree.specs.declared.root.Root as roots
use Rattle.claims.specs.Claims.{AreClaimed}
use Rattle.cyl_alloc.specs.Space.{Kept}
use Rattle.leaf_changes.specs.Bytes.{cut}
use Rattle.leaf_changes.specs.Changes.{SetsSize}
use Rattle.ufs_model.specs.Graph.{Graph}
use Rattle.ufs_model.specs.Object.{leaves_in}
use Rattle.vol_image.specs.Reading.{leaf_content}
use Rattle.vol_image.specs.Seen.{tree_in}
use Rattle.special_files.specs.Calls.{SetsFlags, SetsFresh}
use Rattle.special_files.specs.Drafting.{Drafting, IsOpen, draft_takes, opened_as}
use Rattle.special_files.specs.Ends.{EndsCall}
use Rattle.special_files.specs.Leaves.{PutsAt, SameBeside, draft_in, leaves_below}
use Rattle.special_files.specs.Nodes.{IsRead, IsSafe}
use Rattle.special_files.specs.Order.{leaf_claims}
use Rattle.leaf_changes.specs.Tops.{IsFarRoot}
use Rattle.special_files.specs.Refusal.{is_full_refusal, top_of}
use Rattle.special_files.specs.Store.{Steps}
use Rattle.vol_owners.specs.Account.{Drafts, with_opened}

-- only the root's pointers and what is fresh may have changed in a draft
pub record StaysBut (was now : Drafting) : Type 0 where
  pub at : now.at ≡ was.at
  pub shadow : now.shadow ≡ was.shadow
  pub own : now.own ≡ was.own
  pub created : now.created ≡ was.created
  pub word : now.root.word ≡ was.root.word
  pub root : SetsSize was.root.size was.root now.root

-- the leaf is within the size, and past the size the content has fill bytes
pub record FitsLeaf (root : roots.Root) (leaf : ℕ) (content : List ℕ) : Type 0 where
  pub within : leaf < leaves_in root.size
  pub filled : (i : ℕ) → i < 512 → root.size ≤ 512 * leaf + i → get_or content i 0 ≡ root.fill

-- the drafts that there are afterwards
abbrev pub drafts_with : Image → Drafts → Puid → Drafting → Drafts
drafts_with image ds id now = with_opened id (opened_as now (draft_in image now)) ds

-- a leaf of this content was put into the draft
pub record PutsLeaf {D : Type 0} (g : Ghosts D) (graph : Graph) (ds : Drafts) (id : Puid) (leaf : ℕ)
    (content : List ℕ) (old new : D) (after : Kept) (was now : Drafting) (way : Way) : Type 0 where
  pub steps : Steps g graph id (drafts_with (g.content new) ds id now) old new after
  pub is_open : IsOpen (drafts_with (g.content new) ds id now) id now (draft_in (g.content new) now)
  pub sets : SetsFresh leaf was now
  pub leaves : PutsAt leaf content (leaves_below (g.content old) was.root) (leaves_below (g.content new) now.root)
  pub read_is : IsRead (g.content new) now way
  pub order : AreClaimed (leaf_claims was.at was.leaves was.nodes leaf) (g.content old) (g.content new)
  pub beside : SameBeside leaf (tree_in (g.content old) (root_spelling was.root))
      (tree_in (g.content new) (root_spelling now.root))

-- the leaf within which a size ends was cut there
abbrev pub CutsLeaf : {D : Type 0} → Ghosts D → Graph → Drafts → Puid → ℕ → D → D → Kept → Drafting → Drafting
    → Way → Type 0
CutsLeaf g graph ds id size old new after was now way =
    PutsLeaf g graph ds id (size / 512)
    (cut size was.root.fill (leaf_content was.root.fill (leaves_below (g.content old) was.root (size / 512))))
    old new after was now way

-- What a call that puts a leaf into a draft did, on any disk: it made at most n device calls.
pub record LeafCall {D : Type 0} (g : Ghosts D) (n leaf : ℕ) (old new : D) (before after : Kept) (was now : Drafting)
    (way : Way) (result : Result (Unit {0}) Refused) : Type 0 where
  pub stays : StaysBut was now
  pub flags : OnOk result (SetsFlags leaf was now)
  pub to : OnOk result (IsTo leaf way)
  pub safe : OnOk result (IsSafe (g.blocks new) now way)
  -- each pointer of the root that leads past the disk did so before
  pub near : IsFarRoot (g.blocks new) now.root → IsFarRoot (g.blocks new) was.root
  pub ends : EndsCall g (top_of was) 0 n 4 (draft_takes was leaf) old new before after result
  pub tried : OnOk result (HasTried g old new)
  -- if nothing was tried yet the draft is as it was
  pub kept : IfErr result (λ e. e ≡ refusals.Disk false → now ≡ was)
  pub room : draft_takes was leaf ≤ sum before.free → IfErr result (λ e. is_full_refusal e ≡ false)
