-- What a call on a file is given: the store that has it, and how the file is there.
use Rattle.std.specs.Prelude.{◌≡◌, ℕ, None, Some}
use Rattle.cfs_base.specs.Disk.{AreBlocks, Image}
use Rattle.cfs_base.specs.declared.disk.Disk.{Ghosts}
use Rattle.cfs_base.specs.declared.identifier.Puid.{Puid}
use Rattle.cyl_alloc.specs.Space.{Kept}
use Rattle.intentions.specs.Store.{StoreHas}
use Rattle.ufs_model.specs.declared.object.File.{File}
use Rattle.ufs_model.specs.Graph.{Graph, object_at}
use Rattle.vol_image.specs.Sound.{Holds}
use Rattle.vol_owners.specs.Account.{Drafts}
use Rattle.normal_files.specs.Laid.{IsRooted, object_laid}
use Rattle.block_tree.specs.declared.root.Root as roots
use Rattle.ufs_model.specs.declared.object.Object.TheVariants as objects

-- the identifier with this word of an object whose root is in this block
abbrev pub id_at : (block word : ℕ) → Puid
id_at block word = record { block = block; word = word }

-- the image holds these objects, among them a file with this root
pub record HasFile (a : Image) (graph : Graph) (id : Puid) (f : File) (root : roots.Root) : Type 0 where
  pub holds : Holds a graph
  pub at : object_at graph id ≡ Some (objects.File f)
  pub rooted : IsRooted a id root
  pub same : object_laid a root ≡ objects.File f
  pub blocks : AreBlocks a

-- the store has a file without a draft, with this root in this block
pub record FileView {D : Type 0} (g : Ghosts D) (block : ℕ) (root : roots.Root) (disk : D) (kept : Kept) : Type 0 where
  pub graph : Graph
  pub drafts : Drafts
  pub word : ℕ
  pub file : File
  pub store : StoreHas g graph drafts disk kept
  pub has : HasFile (g.content disk) graph (id_at block word) file root
  pub no_draft : drafts (id_at block word) ≡ None

-- A change of a file in place is on its way. At its start the disk holds the file, with its root in this block.
pub record Way {D : Type 0} (g : Ghosts D) (block : ℕ) : Type 0 where
  pub graph : Graph
  pub word : ℕ
  pub file : File
  pub root : roots.Root
  pub start : D
  pub has : HasFile (g.content start) graph (id_at block word) file root

abbrev pub way_of : {D : Type 0} {g : Ghosts D} {block : ℕ} {root : roots.Root} {disk : D} {kept : Kept}
    → FileView g block root disk kept → Way g block
way_of {root = root} {disk = disk} v =
    record { graph = v.graph; word = v.word; file = v.file; root = root; start = disk; has = v.has }
