-- A call that left a commit unfinished, and the finishing of it.
use Rattle.std.proofs.Common.{◌≡◌, Ok, Option, Some, None, sym, ◌∙◌, ap, subst}
use Rattle.cfs_base.specs.declared.disk.Disk.{Ghosts}
use Rattle.cyl_alloc.specs.Left.{LeftCommit}
use Rattle.cyl_alloc.specs.Space.{Kept}
use Rattle.finisher.specs.Going.{Goes}
use Rattle.intentions.specs.Left.{GoesWith, StoreIs, StoreWith, coming, final_image}
use Rattle.intentions.specs.Store.{StoreHas}
use Rattle.ufs_model.specs.Graph.{Graph}
use Rattle.vol_owners.specs.Account.{Drafts}

-- The store is as it was to come, on the disk as it is.
pub finished_store : {D : Type 0} (g : Ghosts D) (graph : Graph) (drafts : Drafts) (old new : D) (before after : Kept) → Goes g old new before after (Ok tt) → StoreIs g graph drafts old before → after.left ≡ None
    → StoreHas g graph drafts new after
finished_store g graph drafts old new before after goes store none = subst (λ (w : Option LeftCommit). StoreWith g graph drafts new after w) none (goes.store graph drafts store)

going_of : {D : Type 0} (g : Ghosts D) (graph : Graph) (drafts : Drafts) (d : D) (k : Kept) (w : Option LeftCommit) → StoreWith g graph drafts d k w → GoesWith g graph d k w
going_of g graph drafts d k None store = (store.carries, store.counts)
going_of g graph drafts d k (Some l) store = store.going

-- and its content the image that was to come
pub finished_content : {D : Type 0} (g : Ghosts D) (graph : Graph) (drafts : Drafts) (old new : D) (before after : Kept) → Goes g old new before after (Ok tt) → StoreIs g graph drafts old before → after.left ≡ None
    → g.content new ≡ final_image g old before
finished_content g graph drafts old new before after goes store none = sym (ap (coming (g.content new)) none) ∙ goes.comes graph (going_of g graph drafts old before before.left store)

-- ---- done or not
