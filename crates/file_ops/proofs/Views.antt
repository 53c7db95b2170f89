-- A file as the calls below are handed it.
use Rattle.file_ops.proofs.Words.{◌≡◌, ℕ, Drafting, File, FileKind, Ghosts, Kept, None, Ok, Some, Change, ap, begun_fresh, length-none, object_at, subst, sym, ◌∙◌, IsOpen, DraftBecomes, changed_draft, AreClaimed, need_beside, sum, ◌+◌, ◌≤◌, opened_as, with_here, with_opened}
use Rattle.block_tree.specs.Pointers.{leaf_limit, node_pointers}
use Rattle.file_ops.specs.Changes.{MayChangeFile, claims_beside}
use Rattle.intentions.proofs.Shown.{shown_tree}
use Rattle.normal_files.specs.Calls.{Handed}
use Rattle.normal_files.specs.Standing.{IsFileAt}
use Rattle.file_ops.specs.Changes.{DirectCall}
use Rattle.special_files.specs.Begins.{BeginsDirect, drafts_begun, equal_to}
use Rattle.special_files.specs.View.{DraftView, GoesTo, ObjectView, ShownView}
use Rattle.cfs_base.specs.declared.kind.FileKind.TheVariants as kinds
use Rattle.ufs_model.specs.declared.object.Object.TheVariants as objects

-- ---- shown at a block

pub file_at : {D : Type 0} {g : Ghosts D} {d : D} {at : ℕ} {f : File} (v : ShownView g d at) → v.object ≡ objects.File f → IsFileAt (g.content d) at f
file_at v is = let tree = shown_tree (rw is at v.shown) in record { owner = v.id.block; root = tree.0; tree = tree.1 }

-- ---- changed

-- a draft of the object at a block was begun
pub record Begun {D : Type 0} (g : Ghosts D) (at : ℕ) (d0 d1 : D) (k0 k1 : Kept) (was : Drafting) : Type 0 where
  pub begins : (v : ObjectView g d0 k0 at) → BeginsDirect v d1 k1 was
  pub call : DirectCall g at d0 d1 k0 k1 (Ok was)

pub begun_by : {D : Type 0} {g : Ghosts D} {at : ℕ} {d0 d1 : D} {k0 k1 : Kept} {was : Drafting} → ((v : ObjectView g d0 k0 at) → GoesTo g v.graph (BeginsDirect v d1 k1) d0 d1 (Ok was)) → DirectCall g at d0 d1 k0 k1 (Ok was) → Begun g at d0 d1 k0 k1 was
begun_by begins call = record { begins = λ v. (begins v).done; call = call }

module _ {D : Type 0} {g : Ghosts D} {at : ℕ} {kind : FileKind} {change : Change} {d0 : D} {k0 : Kept} (m : MayChangeFile g at kind change d0 k0) where
  pub file_stands : object_at m.view.graph m.view.id ≡ Some (objects.File m.file)
  file_stands = m.view.there ∙ ap Some m.is

  -- in place
  abbrev pub handed : Handed g at d0 k0
  handed = record { graph = m.view.graph; drafts = m.view.ds; id = m.view.id; file = m.file; store = m.view.store; there = file_stands; no_draft = m.shut; here = m.view.root }

  -- beside itself
  abbrev pub standing : ObjectView g d0 k0 at
  standing = record { graph = m.view.graph; ds = m.view.ds; id = m.view.id; object = objects.File m.file; store = m.view.store; root = m.view.root; there = file_stands }

  -- by a draft that was begun
  abbrev pub view_begun : {d1 : D} {k1 : Kept} {was : Drafting} → Begun g at d0 d1 k0 k1 was → DraftView g d1 k1 was
  view_begun {was = was} b = record {
    graph = m.view.graph;
    ds = drafts_begun standing was;
    id = m.view.id;
    object = objects.File m.file;
    draft = equal_to (objects.File m.file);
    store = b.begins standing m.shut;
    at = file_stands;
    opened = subst (λ (w : Drafting). IsOpen (drafts_begun standing w) m.view.id w (equal_to (objects.File m.file))) (sym b.call.begun)
        (record { at = m.view.root; alone = with_here m.view.id _ m.view.ds; leaf_flags = length-none leaf_limit; node_flags = length-none node_pointers.count; fresh = begun_fresh at None was.own });
  }

-- done, the draft is the model's; a block is left for its shadow root
pub record DraftChanged {D : Type 0} {g : Ghosts D} {at : ℕ} {change : Change} {d0 : D} {k0 : Kept} (m : MayChangeFile g at kinds.Special change d0 k0) (floor : ℕ) (d1 d2 : D) (k1 k2 : Kept) (was now : Drafting) : Type 0 where
  pub becomes : DraftBecomes g m.view.graph (drafts_begun (standing m) was) m.view.id (changed_draft change (equal_to (objects.File m.file))) d1 d2 k2 now
  pub order : AreClaimed (claims_beside was.at change m.file) (g.content d1) (g.content d2)
  pub room : need_beside change (equal_to (objects.File m.file)) was + floor ≤ sum k1.free
  pub spare : 1 ≤ sum k2.free

abbrev pub view_changed : {D : Type 0} {g : Ghosts D} {at floor : ℕ} {change : Change} {d0 d1 d2 : D} {k0 k1 k2 : Kept} {m : MayChangeFile g at kinds.Special change d0 k0} {was now : Drafting} → DraftChanged m floor d1 d2 k1 k2 was now → DraftView g d2 k2 now
view_changed {change = change} {m = m} {was = was} {now} x =
    let d = changed_draft change (equal_to (objects.File m.file)) in
    record { graph = m.view.graph; ds = with_opened m.view.id (opened_as now d) (drafts_begun (standing m) was); id = m.view.id; object = objects.File m.file; draft = d; store = x.becomes.steps.store; at = file_stands m; opened = x.becomes.is_open }
