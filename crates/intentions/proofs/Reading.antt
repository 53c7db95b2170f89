-- What is left of a commit stays through calls that only read.
use Rattle.std.proofs.Common.{⊎_elim, ℕ, Bool, true, false, Option, Some, None, sym, ◌∙◌, subst}
use Rattle.cfs_base.specs.Calls.{OnlyReads}
use Rattle.cfs_base.specs.Disk.{Image}
use Rattle.cfs_base.specs.Run.{IsSettled, left_now}
use Rattle.cfs_base.specs.declared.disk.Disk.{Ghosts}
use Rattle.cfs_base.specs.declared.identifier.Puid.{Puid}
use Rattle.cfs_base.proofs.Runs.{still_tells}
use Rattle.cyl_alloc.specs.Space.{AreCounts, Kept}
use Rattle.intentions.specs.Commit.{IsCommitted}
use Rattle.intentions.specs.Course.{Settling}
use Rattle.intentions.proofs.Courses.{on_holds, reads}
use Rattle.vol_image.specs.Sound.{Holds}
use Rattle.intentions.specs.Turned.{MayTurn}
use Rattle.ufs_model.specs.declared.object.Object.{Object}
use Rattle.ufs_model.specs.Graph.{Graph}
use Rattle.vol_image.proofs.Carries.{carries_on}
use Rattle.vol_owners.specs.Account.{Accounts, Drafts}
use Rattle.cyl_alloc.specs.Left.{LeftCommit}
use Rattle.intentions.specs.Left.{AreOpen, GoesOn, GoesWith, HasLeft, IsGoing, StoreWith, coming, copied_if, how_left}

module _ {D : Type 0} (g : Ghosts D) (graph : Graph) (d0 d1 : D) (k : Kept) (n : ℕ) (only : OnlyReads g n d0 d1) where
  settled_still : IsSettled g d0 → IsSettled g d1
  settled_still s = record {
    tells = still_tells g s.tells only.told only.same;
    only = λ c h. ⊎_elim (λ was. s.only c was) (λ none. absurd none) (only.images.now c h) ∙ sym only.content;
  }

  goes_still : (b : Bool) (id : Puid) (o : Object) (l : LeftCommit) → GoesOn g b graph id o l d0 → GoesOn g b graph id o l d1
  goes_still false id o l goes = (
    settled_still goes.0,
    subst (λ (i : Image). IsCommitted i graph id o l.shadow) (sym only.content) goes.1,
    subst (λ (i : Image). MayTurn (Settling (copied_if false l i) graph id o l.shadow) (copied_if false l i) (how_left l) l.rest) (sym only.content) goes.2,
  )
  goes_still true id o l goes = (
    goes.0,
    goes.1,
    reads g (Settling goes.0 graph id o l.shadow) d0 d1 n goes.2 only,
    subst (λ (i : Image). MayTurn (Settling goes.0 graph id o l.shadow) i (how_left l) l.rest) (sym only.content) goes.3,
  )

  abbrev left_goes : (l : LeftCommit) → IsGoing g graph d0 k l → IsGoing g graph d1 k l
  left_goes l has = record {
    id = has.id;
    object = has.object;
    root_is = has.root_is;
    goes = goes_still l.copied has.id has.object l has.goes;
    counts = subst (λ (i : Image). AreCounts i k) (sym only.content) has.counts;
  }

  pub going_reads : (w : Option LeftCommit) → GoesWith g graph d0 k w → GoesWith g graph d1 k w
  going_reads None has = (carries_on g graph d0 d1 has.0 only.content only.told only.images only.same, subst (λ (i : Image). AreCounts i k) (sym only.content) has.1)
  going_reads (Some l) has = left_goes l has

  pub left_reads : (ds : Drafts) (l : LeftCommit) → HasLeft g graph ds d0 k l → HasLeft g graph ds d1 k l
  left_reads ds l has = record {
    going = left_goes l has.going;
    owners = has.owners;
    own = has.own;
    opens = subst (λ (i : Image). AreOpen has.owners i l.rest) (sym only.content) has.opens;
    shut = has.shut;
    account = subst (λ (i : Image). Accounts (coming i (Some l)) graph ds) (sym only.content) has.account;
    ordered = has.ordered;
  }

  pub store_reads : (ds : Drafts) (w : Option LeftCommit) → StoreWith g graph ds d0 k w → StoreWith g graph ds d1 k w
  store_reads ds None store = record {
    carries = carries_on g graph d0 d1 store.carries only.content only.told only.images only.same;
    account = subst (λ (i : Image). Accounts i graph ds) (sym only.content) store.account;
    counts = subst (λ (i : Image). AreCounts i k) (sym only.content) store.counts;
    ordered = store.ordered;
  }
  store_reads ds (Some l) has = left_reads ds l has

-- ---- every image has all objects

pub image_holds : {D : Type 0} (g : Ghosts D) (graph : Graph) (d : D) (k : Kept) (l : LeftCommit) → IsGoing g graph d k l → Holds (g.content d) graph
image_holds g graph d k l has = at l.copied has.goes
  where
    at : (b : Bool) → GoesOn g b graph has.id has.object l d → Holds (g.content d) graph
    at false goes = goes.1.holds
    at true goes = on_holds (Settling goes.0 graph has.id has.object l.shadow) (g.content d) goes.1 goes.2.content

pub left_hold : {D : Type 0} (g : Ghosts D) (graph : Graph) (d : D) (k : Kept) (l : LeftCommit) → IsGoing g graph d k l → (c : Image) → left_now g d c → Holds c graph
left_hold g graph d k l has c here = at l.copied has.goes
  where
    at : (b : Bool) → GoesOn g b graph has.id has.object l d → Holds c graph
    at false goes = subst (λ (i : Image). Holds i graph) (sym (goes.0.only c here)) goes.1.holds
    at true goes = on_holds (Settling goes.0 graph has.id has.object l.shadow) c goes.1 (goes.2.here c here)
