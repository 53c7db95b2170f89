-- A run of writes of which every image has one property.
use Rattle.std.specs.Prelude.{◌≡◌, ◌⊎◌, ◌<◌, ◌≤◌, ℕ, slice_get, Some, List, length}
use Rattle.cfs_base.specs.Disk.{Image, block_at}
use Rattle.cfs_base.specs.Run.{Leaves, Tells, left_now}
use Rattle.cfs_base.specs.declared.disk.Disk.{Ghosts}
use Rattle.cfs_base.specs.declared.identifier.Puid.{Puid}
use Rattle.block_tree.specs.Root.{IsGoodRoot, IsRootBlock}
use Rattle.ufs_model.specs.declared.object.Object.{Object}
use Rattle.ufs_model.specs.Graph.{Graph, object_at}
use Rattle.cyl_map.specs.declared.entry.MapEntry.{MapEntry}
use Rattle.puid_space.specs.Directory.{directory_kind}
use Rattle.vol_image.specs.Sight.{shadows, source}
use Rattle.cfs_recover.specs.Copies.{AreKeptPieces, HasCopy}
use Rattle.cfs_recover.specs.Entries.{AreStanding}
use Rattle.cfs_recover.specs.Stored.{AreMapsOf}
use Rattle.cfs_recover.specs.declared.found.Found.{Found}
use Rattle.cfs_recover.specs.declared.survey.Walked.{Walked}
use Rattle.cfs_recover.specs.declared.copies.Copied.{Copied}

-- A run from `start` has come to `now`, even if its last call failed: the content has P, and so has whatever a crash
-- left on the way.
pub record Leads {D : Type 0} (g : Ghosts D) (P : Image → Type 0) (start now : D) : Type 0 where
  pub content : P (g.content now)
  pub leaves : Leaves g start now P

-- A run from `start` has come to `now` without a failure: the content has P, and so has whatever a crash leaves now
-- or left on the way.
pub record RunKeeps {D : Type 0} (g : Ghosts D) (P : Image → Type 0) (start now : D) : Type 0 where
  pub tells : Tells g now
  pub content : P (g.content now)
  pub here : (c : Image) → left_now g now c → P c
  pub leaves : Leaves g start now P

-- the root by which an object of the graph is read, for its root block
pub record IsCopyOf (a : Image) (g : Graph) (c : Copied) : Type 0 where
  pub id : Puid
  pub object : Object
  pub there : object_at g id ≡ Some object
  pub block : c.block ≡ id.block
  pub spelled : IsRootBlock (block_at a (source a id.block)) c.root

abbrev pub AreCopiesOf : Image → Graph → List Copied → Type 0
AreCopiesOf a g copies = (k : ℕ) (c : Copied) → slice_get copies k ≡ Some c → IsCopyOf a g c

-- the first `done` of these copies are written
abbrev pub AreWritten : Image → List Copied → Image → ℕ → Type 0
AreWritten a copies b done = (k : ℕ) (c : Copied) → k < done → slice_get copies k ≡ Some c
    → block_at b c.block ≡ block_at a (source a c.block)

-- each object that isn't read by its own block has its copy among them
pub record AreAllCopies (a : Image) (g : Graph) (copies : List Copied) : Type 0 where
  pub each : AreCopiesOf a g copies
  pub all : (id : Puid) (o : Object) → object_at g id ≡ Some o
      → (source a id.block ≡ id.block) ⊎ HasCopy copies id.block

-- ---- the copies, as a walk has kept them

-- the maps and the table of shadow roots are those of an image in which at most one shadow root stands for this root
-- block
pub record AreShown (a : Image) (maps : List (List MapEntry)) (w : Walked) (r : ℕ) : Type 0 where
  pub maps_are : AreMapsOf a maps
  pub standing : AreStanding a (length a) w.standing
  pub one_shadow : length (shadows a r) ≤ 1

-- the directory has the identifier of a copy, with its kind
pub record IsNamedCopy (w : Walked) (c : Copied) : Type 0 where
  pub good : IsGoodRoot c.root
  pub named : directory_kind w.walk.directory.named (record { block = c.block; word = c.root.word }) ≡ Some c.root.kind

-- the walk has kept these copies, which are all that the graph needs
pub record AreKeptFor (a : Image) (g : Graph) (maps : List (List MapEntry)) (w : Walked)
    (copies : List Copied) : Type 0 where
  pub all : AreAllCopies a g copies
  pub kept : AreKeptPieces a w.walk.found.items (length w.walk.found.items) w.kept.items copies
  pub named : (k : ℕ) (c : Copied) → slice_get copies k ≡ Some c → IsNamedCopy w c
  pub shown : (k : ℕ) (x : Found) → slice_get w.walk.found.items k ≡ Some x → AreShown a maps w x.block
