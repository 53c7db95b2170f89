-- A file as it is on a disk.
use Rattle.std.specs.Prelude.{◌≡◌, ◌⊎◌, ℕ, true, length, OnOk, Result}
use Rattle.cfs_base.specs.Disk.{Image, block_at}
use Rattle.cfs_base.specs.declared.disk.Disk.{Ghosts}
use Rattle.cfs_base.specs.declared.identifier.Puid.{Puid}
use Rattle.cyl_alloc.specs.Space.{Kept}
use Rattle.intentions.specs.Store.{StoreHas}
use Rattle.ufs_model.specs.declared.object.File.{File}
use Rattle.ufs_model.specs.Graph.{Graph, with_object}
use Rattle.ufs_model.specs.Numbers.{has_number, numbers_rise}
use Rattle.block_tree.specs.Root.{IsRootBlock}
use Rattle.vol_image.specs.Reading.{IsTree}
use Rattle.vol_image.specs.Seen.{tree_in}
use Rattle.vol_image.specs.Sound.{Holds}
use Rattle.vol_image.specs.Survives.{IsBetween}
use Rattle.vol_owners.specs.Account.{Drafts}
use Rattle.normal_files.specs.View.{FileView, id_at}
use Rattle.vol_owners.specs.Change.{ChangesOnly, of_owner}
use Rattle.cfs_base.specs.Run.{Leaves}
use Rattle.block_tree.specs.declared.root.Root as roots
use Rattle.ufs_model.specs.declared.object.Object.TheVariants as objects

-- the root at a block gives this file
pub record IsFileAt (image : Image) (at : ℕ) (f : File) : Type 0 where
  pub owner : ℕ
  pub root : roots.Root
  pub tree : IsTree (length image) owner (tree_in image (block_at image at)) root (objects.File f)

-- the block holds this root
abbrev pub IsRootAt : Image → (at : ℕ) → roots.Root → Type 0
IsRootAt image at root = IsRootBlock (block_at image at) root

-- The store has this file in the place of the old one. Nothing changed except blocks of it and blocks that were Free.
pub record BecomesFile {D : Type 0} (g : Ghosts D) (graph : Graph) (ds : Drafts) (id : Puid) (f : File)
    (old new : D) (space : Kept) : Type 0 where
  pub store : StoreHas g (with_object graph id (objects.File f)) ds new space
  pub only : ChangesOnly (λ entry. of_owner id.block entry) (g.content old) (g.content new)

-- the file holds only leaves that the old one or the new one holds
pub record HoldsOfEither (old new f : File) : Type 0 where
  pub rising : numbers_rise f.held ≡ true
  pub each : (leaf : ℕ) → has_number leaf f.held ≡ true → (has_number leaf old.held ≡ true)
      ⊎ (has_number leaf new.held ≡ true)

-- the image holds all other objects, and each leaf and the size of this file are old or new
pub record IsPartly (image : Image) (graph : Graph) (id : Puid) (old new : File) : Type 0 where
  pub file : File
  pub holds : Holds image (with_object graph id (objects.File file))
  pub between : IsBetween old new file
  pub either : HoldsOfEither old new file

-- How a call ends that changes a file into another. If it is done, the store has the new file. Done or not, a crash
-- leaves a file between the two.
pub record Becomes {D E : Type 0} {g : Ghosts D} {block : ℕ} {root : roots.Root} {disk : D} {kept : Kept}
    (v : FileView g block root disk kept) (to : File) (new : D) (after : Kept)
    (result : Result (Unit {0}) E) : Type 0 where
  pub done : OnOk result (BecomesFile g v.graph v.drafts (id_at block v.word) to disk new after)
  pub images : Leaves g disk new (λ c. IsPartly c v.graph (id_at block v.word) v.file to)
