-- What the store says whatever is left of a commit.
use Rattle.std.proofs.Common.{◌≡◌, Bool, true, false, length, Option, Some, None, IsTrue, refl, ◌∙◌}
use Rattle.std.proofs.lemmas.List.{length-set}
use Rattle.cfs_core.proofs.Words.{frames_hold, Ghosts, Graph, Holds, Image, Kept, left_now, Object, Puid, rises, sum_is, Drafts}
use Rattle.cfs_base.specs.Disk.{block_at}
use Rattle.cyl_alloc.specs.Left.{LeftCommit}
use Rattle.cyl_alloc.specs.Space.{AreCounts}
use Rattle.intentions.specs.Left.{GoesOn, GoesWith, StoreWith, coming, copied_if, settled}
use Rattle.cyl_map.proofs.Mapped.{length-mapped}
use Rattle.intentions.proofs.Reading.{left_hold}
use Rattle.ufs_model.specs.Graph.{ids_of}
use Rattle.vol_owners.specs.Account.{Accounts}
use Rattle.cfs_core.specs.Kernel.{Kernel}
use Rattle.cfs_core.specs.StandsFor.{free_of, free_with}

module _ {D : Type 0} (g : Ghosts D) (graph : Graph) (ds : Drafts) (d : D) (k : Kept) where
  pub account_in : (w : Option LeftCommit) → StoreWith g graph ds d k w → Accounts (coming (g.content d) w) graph ds
  account_in None store = store.account
  account_in (Some l) has = has.account

  pub counts_in : (w : Option LeftCommit) → StoreWith g graph ds d k w → AreCounts (g.content d) k
  counts_in None store = store.counts
  counts_in (Some l) has = has.going.counts

  pub ordered_in : (w : Option LeftCommit) → StoreWith g graph ds d k w → rises (ids_of graph) ≡ true
  ordered_in None store = store.ordered
  ordered_in (Some l) has = has.ordered

  -- whatever a crash leaves now holds the objects
  pub holds_in : (w : Option LeftCommit) → StoreWith g graph ds d k w → (c : Image) → left_now g d c → Holds c graph
  holds_in None store c left = frames_hold (g.content d) c graph store.account.holds (store.carries.here c left)
  holds_in (Some l) has c left = left_hold g graph d k l has.going c left

  pub honest_in : (w : Option LeftCommit) → StoreWith g graph ds d k w → IsTrue (g.honest d)
  honest_in None store = store.carries.tells.honest
  honest_in (Some l) has = at l.copied has.going.id has.going.object has.going.goes
    where
      at : (b : Bool) (id : Puid) (o : Object) → GoesOn g b graph id o l d → IsTrue (g.honest d)
      at false id o goes = goes.0.tells.honest
      at true id o goes = goes.2.tells.honest

  -- how far the commit is
  pub going_in : (w : Option LeftCommit) → StoreWith g graph ds d k w → GoesWith g graph d k w
  going_in None store = (store.carries, store.counts)
  going_in (Some l) has = has.going

-- the image that is to come is as long
pub length_in : (a : Image) (w : Option LeftCommit) → length (coming a w) ≡ length a
length_in a None = refl
length_in a (Some l) = length-mapped (settled l) (copied_if l.copied l a) ∙ at l.copied
  where
    at : (b : Bool) → length (copied_if b l a) ≡ length a
    at true = refl
    at false = length-set a l.root (block_at a l.shadow)

-- the Free blocks of it
pub free_is : {D : Type 0} (g : Ghosts D) (k : Kernel D) (w : Option LeftCommit) → AreCounts (g.content k.disk) k.space → free_with g k w ≡ free_of (coming (g.content k.disk) w)
free_is g k None counts = sum_is (g.content k.disk) k.space counts
free_is g k (Some l) counts = refl
