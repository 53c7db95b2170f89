-- What the store hands a call, of a core that serves a state: the draft of a grant, or an object.
use Rattle.std.proofs.Common.{◌≡◌, ℕ, ◌<◌, List, ◌++◌, ◌∷◌, [], length, true, false, Option, Some, None, refl, sym, ◌∙◌, ap, subst, find, option_and_then, option_map, IsSome, Bool}
use Rattle.cfs_core.proofs.Words.{Draft, Drafting, Ghosts, Grant, grant_found, grant_of, HasSlot, Index, is_open_so, IsOpen, list_any, Object, object_at, open_there, or_parts, Puid, State, Tuid, draft_of, shown, table_of, Through, Ref, named, meets_a_grant}
use Rattle.ufs_model.specs.declared.object.Object.TheVariants as objects
use Rattle.std.proofs.lemmas.Option.{same_Some}
use Rattle.open_table.specs.Grants as tables
use Rattle.open_table.specs.declared.grant.OpenGrant as handles
use Rattle.cyl_alloc.specs.Left.{LeftCommit, block_shown}
use Rattle.special_files.specs.View.{DraftSeen, DraftView, ObjectView}
use Rattle.cfs_core.specs.Kernel.{Kernel, Handle, grants_in}
use Rattle.cfs_core.specs.Handles.{drafting_at, is_drawn}
use Rattle.cfs_core.specs.Looks.{KnowsObject}
use Rattle.cfs_core.specs.StandsFor.{CoreServes, HasDraftOf, ServesIs, ServesWith, drafts_of_handles}
use Rattle.cfs_core.proofs.Drafted.{Place, drawn, has_draft, opened, place_of, core_has_none}
use Rattle.ufs_model.proofs.WellStates.{has_no_other}

-- ---- a grant that the core finds

-- the law by which it is the state's
abbrev pub FindsGrant : ℕ → Tuid → Type 0
FindsGrant who t = (s : State) → tables.session_grant (table_of s.grants) who t ≡ option_map shown (grant_of s who t)

pub shown_by : (o : Option Grant) (x : handles.OpenGrant) → Some x ≡ option_map shown o → (y : Grant) × (o ≡ Some y)
shown_by None x is = cc
shown_by (Some y) x is = (y, refl)

pub none_there : (o : Option Grant) → None ≡ option_map shown o → o ≡ None
none_there None is = refl
none_there (Some y) is = cc

pub the_grant : (found : Option handles.OpenGrant) (o : Option Grant) → IsSome found → found ≡ option_map shown o → (y : Grant) × (o ≡ Some y)
the_grant None o some is = cc
the_grant (Some x) o some is = shown_by o x is

-- and it is on the same object
pub the_same : (found : Option handles.OpenGrant) (o : Option Grant) (g : handles.OpenGrant) → found ≡ Some g → found ≡ option_map shown o → (y : Grant) × (o ≡ Some y) × (y.id ≡ g.id)
the_same found None g is same = let no : Some g ≡ None = sym is ∙ same in cc
the_same found (Some y) g is same = (y, refl, ap (λ (z : handles.OpenGrant). z.id) (same_Some (shown y) g (sym same ∙ is)))

-- ---- a grant with a draft

pub find_drawn : (draw : ℕ) (handle : Handle) (ss2 ss1 : List Handle) → is_drawn draw handle ≡ true → list_any (is_drawn draw) ss1 ≡ false → find (is_drawn draw) (ss1 ++ handle ∷ ss2) ≡ Some handle
find_drawn draw handle ss2 [] is none = rw is refl
find_drawn draw handle ss2 (z ∷ ss1) is none = (let two = or_parts (is_drawn draw z) (list_any (is_drawn draw) ss1) none in rw two.0 (find_drawn draw handle ss2 ss1 is two.1))

-- The session's grant has a handle, which holds this draft; and the draft is the state's, of an object that is there.
pub record IsHeld {D : Type 0} (g : Ghosts D) (k : Kernel D) (s : State) (who : ℕ) (t : Tuid) (was : Drafting) : Type 0 where
  pub at : drafting_at k.handles t.draw ≡ Some was
  pub x : Grant
  pub found : grant_of s who t ≡ Some x
  pub handle : Handle
  pub place : Place who t k.handles s.grants handle x
  pub drafting : handle.drafting ≡ Some was
  pub before : Draft
  pub draft_was : x.draft ≡ Some before
  pub object : Object
  pub there : object_at s.graph handle.grant.id ≡ Some object
  pub there_x : object_at s.graph x.id ≡ Some object

pub held_by : {D : Type 0} {w : Option LeftCommit} (g : Ghosts D) (k : Kernel D) (s : State) → ServesWith g k s w → (who : ℕ) (t : Tuid) (was : Drafting) → drafting_at k.handles t.draw ≡ Some was → (x : Grant) × (grant_of s who t ≡ Some x) → IsHeld g k s who t was
held_by g k s serves who t was drafting found = record {
  at = drafting;
  x = found.0;
  found = found.1;
  handle = two.0;
  place = two.1;
  drafting = drafting_is;
  before = there.0;
  draft_was = there.1;
  object = object.0;
  there = ap (λ (e : handles.OpenGrant). object_at s.graph e.id) two.1.here ∙ object.1;
  there_x = object.1;
}
  where
    two : (handle : Handle) × Place who t k.handles s.grants handle found.0
    two = place_of who t k.handles s.grants found.0 serves.front.grants serves.state.rising found.1

    drafting_is : two.0.drafting ≡ Some was
    drafting_is = sym (ap (option_and_then (λ (e : Handle). e.drafting)) (ap (find (is_drawn t.draw)) two.1.handles_are ∙ find_drawn t.draw two.0 two.1.ss2 two.1.ss1 (drawn who t k.handles s.grants two.0 found.0 two.1) two.1.none_first)) ∙ drafting

    there : (d : Draft) × (found.0.draft ≡ Some d)
    there = at two.0.drafting found.0.draft drafting_is (has_draft who t k.handles s.grants two.0 found.0 two.1 serves.drafts)
      where
        at : (o : Option Drafting) (d : Option Draft) → o ≡ Some was → HasDraftOf (drafts_of_handles k.handles s.grants) two.0 o d → (e : Draft) × (d ≡ Some e)
        at None d is has = cc
        at (Some o) None is has = absurd has
        at (Some o) (Some d) is has = (d, refl)

    object : (o : Object) × (object_at s.graph found.0.id ≡ Some o)
    object = open_there (object_at s.graph found.0.id) found.0.draft (grant_found s who t found.0 serves.state found.1).1

-- a grant that the core finds, and of which it has the draft
pub held_in : {D : Type 0} {w : Option LeftCommit} (g : Ghosts D) (k : Kernel D) (who : ℕ) (t : Tuid) (was : Drafting) → drafting_at k.handles t.draw ≡ Some was → IsSome (tables.session_grant (grants_in k.handles) who t)
    → FindsGrant who t → (s : State) → ServesWith g k s w → IsHeld g k s who t was
held_in g k who t was has some law s serves = held_by g k s serves who t was has (the_grant (tables.session_grant (grants_in k.handles) who t) _ some (ap (λ gs. tables.session_grant gs who t) serves.front.grants ∙ law s))

-- what the reference has, and alone
pub has_it : {D : Type 0} {g : Ghosts D} {k : Kernel D} {s : State} {who : ℕ} {t : Tuid} {was : Drafting} (held : IsHeld g k s who t was) → draft_of s who (Through t) ≡ Some held.before
has_it held = ap (option_and_then (λ (x : Grant). x.draft)) held.found ∙ held.draft_was

pub the_one : {D : Type 0} {g : Ghosts D} {k : Kernel D} {s : State} {who : ℕ} {t : Tuid} {was : Drafting} (held : IsHeld g k s who t was) (d : Draft) → draft_of s who (Through t) ≡ Some d → d ≡ held.before
the_one held d has = same_Some d held.before (sym has ∙ has_it held)

-- whatever is left of a commit
module _ {D : Type 0} {w : Option LeftCommit} (g : Ghosts D) (k : Kernel D) (s : State) (serves : ServesWith g k s w) (who : ℕ) (t : Tuid) (was : Drafting) (held : IsHeld g k s who t was) where
  pub open_in : IsOpen (drafts_of_handles k.handles s.grants) held.handle.grant.id was held.before
  open_in = opened who t k.handles s.grants held.handle held.x held.place serves.drafts was held.before held.drafting held.draft_was

  pub so : is_open_so (Some held.object) (Some held.before) ≡ true
  so = subst (λ (o : Option Object). is_open_so o (Some held.before) ≡ true) held.there_x (subst (λ (o : Option Draft). is_open_so (object_at s.graph held.x.id) o ≡ true) held.draft_was (grant_found s who t held.x serves.state held.found).1)

-- that draft
abbrev pub draft_view : {D : Type 0} (g : Ghosts D) (k : Kernel D) (s : State) → CoreServes g k s → (who : ℕ) (t : Tuid) (was : Drafting) → IsHeld g k s who t was → DraftView g k.disk k.space was
draft_view g k s serves who t was held = record { graph = s.graph; ds = drafts_of_handles k.handles s.grants; id = held.handle.grant.id; object = held.object; draft = held.before; store = serves.store; at = held.there; opened = open_in g k s serves who t was held }

-- the same for a call that only reads
abbrev pub draft_seen : {D : Type 0} (g : Ghosts D) (k : Kernel D) (s : State) → ServesIs g k s → (who : ℕ) (t : Tuid) (was : Drafting) → IsHeld g k s who t was → DraftSeen g k.disk was
draft_seen g k s serves who t was held = record { graph = s.graph; ds = drafts_of_handles k.handles s.grants; space = k.space; id = held.handle.grant.id; object = held.object; draft = held.before; store = serves.store; at = held.there; opened = open_in g k s serves who t was held }

-- ---- an object

abbrev pub object_view : {D : Type 0} (g : Ghosts D) (k : Kernel D) (s : State) → CoreServes g k s → (id : Puid) (o : Object) → object_at s.graph id ≡ Some o → ObjectView g k.disk k.space id.block
object_view g k s serves id o there = record { graph = s.graph; ds = drafts_of_handles k.handles s.grants; id = id; object = o; store = serves.store; root = refl; there = there }

-- what a reference goes to that has no draft, and meets no grant, has none in the core
pub shut_by : {D : Type 0} {w : Option LeftCommit} (g : Ghosts D) (k : Kernel D) (s : State) → ServesWith g k s w → (who : ℕ) (changes : Bool) (to : Ref) (id : Puid) → named s who to ≡ Some id → draft_of s who to ≡ None → meets_a_grant s changes to ≡ false → drafts_of_handles k.handles s.grants id ≡ None
shut_by g k s serves who changes to id name bare free = core_has_none id k.handles s.grants serves.front.grants (has_no_other s who to changes serves.state free id name bare)

-- an index with such a slot
abbrev pub slot_view : {D : Type 0} (g : Ghosts D) (k : Kernel D) (s : State) → CoreServes g k s → (id : Puid) (i : Index) → object_at s.graph id ≡ Some (objects.Index i) → (drafts_of_handles k.handles s.grants) id ≡ None → (slot : ℕ) → slot < length i.slots → HasSlot g k.disk k.space id.block slot
slot_view g k s serves id i there shut slot inside = record { view = object_view g k s serves id (objects.Index i) there; shut = shut; index = i; is = refl; inside = inside }

-- the object that is shown at this block
pub knows_that : {D : Type 0} (g : Ghosts D) (k : Kernel D) (s : State) → ServesIs g k s → (id : Puid) (o : Object) (at : ℕ) → at ≡ block_shown k.space.left id.block → object_at s.graph id ≡ Some o → KnowsObject g k.disk at o
knows_that g k s serves id o at shown there = record { view = record { graph = s.graph; ds = drafts_of_handles k.handles s.grants; space = k.space; id = id; object = o; shown = record { store = serves.store; there = there; shown = shown } }; is = refl }
