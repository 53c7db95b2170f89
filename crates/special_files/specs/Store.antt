-- What a step of a draft does to the store.
use Rattle.cfs_base.specs.declared.disk.Disk.{Ghosts}
use Rattle.cfs_base.specs.declared.identifier.Puid.{Puid}
use Rattle.cyl_alloc.specs.Space.{Kept}
use Rattle.ufs_model.specs.Graph.{Graph}
use Rattle.vol_owners.specs.Change.{ChangesOnly, of_draft}
use Rattle.intentions.specs.Store.{StoreHas}
use Rattle.vol_owners.specs.Account.{Drafts}

-- The store has these drafts afterwards. Nothing changed except blocks that are meant for the draft's object or were
-- Free.
pub record Steps {D : Type 0} (g : Ghosts D) (graph : Graph) (id : Puid) (es : Drafts) (old new : D)
    (space : Kept) : Type 0 where
  pub store : StoreHas g graph es new space
  pub only : ChangesOnly (λ entry. of_draft id.block entry) (g.content old) (g.content new)
