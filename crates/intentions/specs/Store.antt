-- The state between two calls of the store.
use Rattle.std.specs.Prelude.{◌≡◌, true}
use Rattle.cfs_base.specs.declared.disk.Disk.{Ghosts}
use Rattle.cyl_alloc.specs.Space.{AreCounts, Kept}
use Rattle.ufs_model.specs.Graph.{Graph, ids_of}
use Rattle.ufs_model.specs.Identifier.{rises}
use Rattle.vol_image.specs.Run.{Carries}
use Rattle.vol_owners.specs.Account.{Accounts, Drafts}

-- The disk carries these objects, whatever writes wait for a barrier. Each block of it has its use by them and these
-- drafts, and the Free blocks are counted.
pub record StoreHas {D : Type 0} (g : Ghosts D) (graph : Graph) (drafts : Drafts) (disk : D)
    (space : Kept) : Type 0 where
  pub carries : Carries g graph disk
  pub account : Accounts (g.content disk) graph drafts
  pub counts : AreCounts (g.content disk) space
  pub ordered : rises (ids_of graph) ≡ true
