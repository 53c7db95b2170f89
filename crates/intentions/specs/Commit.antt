-- The states between the steps of a commit.
use Rattle.std.specs.Prelude.{◌≡◌, ◌≢◌, ◌⊎◌, ℕ, true, List, Some}
use Rattle.cfs_base.specs.Disk.{Image, block_at}
use Rattle.cfs_base.specs.declared.identifier.Puid.{Puid}
use Rattle.cfs_base.specs.declared.kind.Place.TheVariants.{Root, ShadowRoot}
use Rattle.cyl_map.specs.declared.state.BlockState.TheVariants.{IntendDeallocate}
use Rattle.cyl_map.specs.declared.entry.MapEntry.{MapEntry}
use Rattle.cyl_map.specs.Volume.{entry_in}
use Rattle.ufs_model.specs.declared.object.Object.{Object}
use Rattle.ufs_model.specs.Graph.{Graph, object_at, with_object}
use Rattle.vol_image.specs.Part.{IsTaken, stands_for}
use Rattle.vol_image.specs.Seen.{Held, tree_in}
use Rattle.vol_image.specs.Sight.{source}
use Rattle.vol_image.specs.Sound.{Holds}
use Rattle.intentions.specs.Course.{IsCopied}
use Rattle.intentions.specs.Entries.{finished}

-- Image c holds these objects. The shadow root s alone stands for this object, and the object is read by it, since
-- its commit bit is set.
pub record IsCommitted (c : Image) (graph : Graph) (id : Puid) (o : Object) (s : ℕ) : Type 0 where
  pub holds : Holds c graph
  pub at : object_at graph id ≡ Some o
  pub source_is : source c id.block ≡ s
  pub alone : (n : ℕ) → stands_for id.block (entry_in c n) ≡ true → n ≡ s
  pub stands : stands_for id.block (entry_in c s) ≡ true

-- From image a to image c the draft with shadow root s became the object. Of the entries only the root's changed.
pub record Commits (a c : Image) (graph : Graph) (id : Puid) (o : Object) (s : ℕ) : Type 0 where
  pub committed : IsCommitted c (with_object graph id o) id o s
  pub tree : tree_in c (block_at c s) ≡ tree_in a (block_at a s)
  pub entries : (n : ℕ) → n ≢ id.block → entry_in c n ≡ entry_in a n

-- From image a to image c the root of the object got the content of its shadow root s, and no entry changed.
pub record Copies (a c : Image) (graph : Graph) (id : Puid) (o : Object) (s : ℕ) : Type 0 where
  pub committed : IsCommitted c graph id o s
  pub copied : IsCopied c graph id o s
  pub tree : tree_in c (block_at c id.block) ≡ tree_in a (block_at a s)
  pub entries : (n : ℕ) → entry_in c n ≡ entry_in a n

-- Block n is a node or leaf of the owner r. If it is to be given up, no tree of this root leads to it.
pub record IsToFinish (c : Image) (r : ℕ) (root : List ℕ) (n : ℕ) : Type 0 where
  pub taken : IsTaken c n r
  pub no_root : taken.is.place ≢ Some Root
  pub no_shadow : taken.is.place ≢ Some ShadowRoot
  pub gone : taken.is.state ≡ IntendDeallocate → (path : List ℕ) (h : Held) → (tree_in c root).below path ≡ Some h
      → h.block ≢ n

-- the entry is this one, or what this one is once finished
abbrev pub OrFinished : MapEntry → MapEntry → Type 0
OrFinished e now = (now ≡ e) ⊎ (now ≡ finished e)
