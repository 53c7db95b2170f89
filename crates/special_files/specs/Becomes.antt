-- What a draft has become.
use Rattle.cfs_base.specs.declared.disk.Disk.{Ghosts}
use Rattle.cfs_base.specs.declared.identifier.Puid.{Puid}
use Rattle.cyl_alloc.specs.Space.{Kept}
use Rattle.ufs_model.specs.declared.object.Draft.{Draft}
use Rattle.ufs_model.specs.Graph.{Graph}
use Rattle.special_files.specs.Drafting.{Drafting, IsOpen, opened_as}
use Rattle.special_files.specs.Store.{Steps}
use Rattle.vol_owners.specs.Account.{Drafts, with_opened}

-- The object's draft is now this draft of the model. No other draft and no object changed, and no block except those
-- that are meant for the draft's object or were Free.
pub record DraftBecomes {D : Type 0} (g : Ghosts D) (graph : Graph) (ds : Drafts) (id : Puid) (d : Draft)
    (old now : D)
    (space : Kept) (drafting : Drafting) : Type 0 where
  pub steps : Steps g graph id (with_opened id (opened_as drafting d) ds) old now space
  pub is_open : IsOpen (with_opened id (opened_as drafting d) ds) id drafting d
