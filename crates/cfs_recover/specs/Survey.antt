-- What is known of a volume before anything is written.
use Rattle.std.specs.Prelude.{◌≡◌, ◌⊎◌, ℕ, ◌*◌, ◌≤◌, true, Some, length}
use Rattle.cfs_base.specs.Disk.{Image}
use Rattle.cfs_base.specs.declared.identifier.Puid.{Puid}
use Rattle.ufs_model.specs.declared.object.Object.{Object}
use Rattle.ufs_model.specs.Identifier.{rises}
use Rattle.ufs_model.specs.Graph.{Graph, ids_of, object_at}
use Rattle.vol_image.specs.Sight.{source_tree}
use Rattle.vol_image.specs.Sound.{IsSoundAs}
use Rattle.vol_owners.specs.Account.{StandsIn}
use Rattle.puid_space.specs.Kinds.{kinds_of}
use Rattle.cfs_recover.specs.Copies.{HasKept}
use Rattle.cfs_recover.specs.Entries.{AreStanding}
use Rattle.cfs_recover.specs.Found.{IsNotedIn, IsWalk, holds}
use Rattle.cfs_recover.specs.Grounds.{AreGrounds}
use Rattle.cfs_recover.specs.Stored.{AreMapsOf}
use Rattle.cfs_recover.specs.declared.found.Walk.{Walk}
use Rattle.cfs_recover.specs.declared.survey.Survey.{Survey}
use Rattle.cfs_recover.specs.declared.survey.Walked.{Walked}
use Rattle.vol_label.specs.declared.label.Label.{Label}

-- an object of a graph has this block: as its root, or in the tree by which it is read
pub record IsIn (image : Image) (graph : Graph) (n : ℕ) : Type 0 where
  pub id : Puid
  pub object : Object
  pub there : object_at graph id ≡ Some object
  pub here : (n ≡ id.block) ⊎ StandsIn (source_tree image id.block) n

-- all objects that are reached were walked, and no two identifiers have one root block
pub record IsWholeWalk (image : Image) (w : Walk) : Type 0 where
  pub graph : Graph
  pub sound : IsSoundAs image graph
  pub ordered : rises (ids_of graph) ≡ true
  pub directory : w.directory.named ≡ kinds_of graph
  pub held : (n : ℕ) → holds w n ≡ true → IsIn image graph n
  pub all : (n : ℕ) → IsIn image graph n → holds w n ≡ true

-- all objects on the list, which begins at the label, were walked
pub record IsWalked (image : Image) (label : Label) (w : Walked) : Type 0 where
  pub walk : IsWalk image w.walk (length w.walk.found.items)
  pub noted : IsNotedIn w.walk label.root
  pub standing : AreStanding image (length image) w.standing
  pub kept : HasKept image w.walk.found.items (length w.walk.found.items) w.kept.items

-- the image is sound, and this is what it holds
pub record IsSurvey (image : Image) (s : Survey) : Type 0 where
  pub grounds : AreGrounds image s.grounds.label
  pub maps : AreMapsOf image s.grounds.maps.items
  pub walked : IsWalked image s.grounds.label s.walked
  pub whole : IsWholeWalk image s.walked.walk

-- ---- the sizes of what is known of a disk of this size, whatever it holds

pub record IsOfSize (blocks : ℕ) (w : Walked) : Type 0 where
  pub held : length w.walk.held.items ≡ blocks
  pub standing : length w.standing ≡ blocks
  pub few : length w.walk.found.items ≤ blocks

pub record FitsSurvey (blocks : ℕ) (s : Survey) : Type 0 where
  pub maps : blocks ≡ 64 * length s.grounds.maps.items
  pub some : 1 ≤ length s.grounds.maps.items
  pub most : length s.grounds.maps.items ≤ 65536
  pub walked : IsOfSize blocks s.walked
