-- A change of one grant's draft or of one object is the change of what the reference shows.
use Rattle.std.proofs.Common.{◌≡◌, ℕ, ◌+◌, List, ◌∙◌, ap, sym, subst, set, refl, Bool, Some, None, Option, false, true, cond, slice_get, not}
use Rattle.ufs_model.proofs.Words.{Change, Draft, Fill, Grant, Graph, IsDraftPlace, IsInside, IsState, Object, Puid, Ref, Reply, State, Through, Tuid, changed, changed_draft, changed_object, closed, committed, created, draft_of, filter, grant_of, has_no_such_grant, insert_entry, is_grant, is_none, named, none-some, object_at, position, puid_cmp, put, remove, same_Some, seen, with_draft, with_edge, with_new_in_draft, with_object, word}
use Rattle.ufs_model.specs.declared.asked.Reply.TheVariants as replies
use Rattle.ufs_model.specs.declared.object.Object.TheVariants as objects
use Rattle.ufs_model.proofs.Grants.{found_at, with_draft-set, without_place}
use Rattle.ufs_model.proofs.WellStates.{Goes, ToObject, ToDraft, grant_found, open_there, seen_object, put_object-at, seen_draft, put_draft-at, draft_found}

-- what a reference without a draft goes to
pub there_object : (s : State) (who : ℕ) (ref : Ref) (id : Puid) → Goes s who ref → draft_of s who ref ≡ None → named s who ref ≡ Some id → (o : Object) × (object_at s.graph id ≡ Some o)
there_object s who ref id (ToObject x o name none at) no_draft names = (o, subst (λ y. object_at s.graph y ≡ Some o) (same_Some _ _ (sym name ∙ names)) at)
there_object s who ref id (ToDraft t g d found has) no_draft names = absurd (none-some d (sym no_draft ∙ draft_found s who t g d found has))

module _ (s : State) (who : ℕ) (c : Change) where
  pub draft_changed : (ref : Ref) → IsState s → (at : ℕ) (new : List Grant) → IsDraftPlace s who ref at
      → ((g : Grant) (d : Draft) → slice_get s.grants at ≡ Some g → g.draft ≡ Some d → new ≡ set s.grants at (record g { draft = Some (changed_draft c d) }))
      → record s { grants = new } ≡ changed s who ref c
  draft_changed ref h at new place made =
      let it = grant_found s who place.t place.grant h place.found in
      let sees = seen_draft s who place.t place.grant place.draft place.found place.has in
      let put = put_draft-at s who place.t place.grant place.draft (changed_draft c (seen s who (Through place.t))) place.found place.has in
      let gone = with_draft-set who place.t (changed_draft c place.draft) s.grants at place.grant h.rising place.stands it.0 in
      ap (λ gs. record s { grants = gs }) (made place.grant place.draft place.stands place.has ∙ sym gone)
      ∙ ap (λ (d : Draft). record s { grants = with_draft who place.t (changed_draft c d) s.grants }) (sym sees)
      ∙ sym put ∙ ap (λ r. changed s who r c) (sym place.through)

  pub object_changed : (ref : Ref) (id : Puid) (new : List (Puid × Object)) → Goes s who ref → draft_of s who ref ≡ None → named s who ref ≡ Some id
      → ((o : Object) → object_at s.graph id ≡ Some o → new ≡ insert_entry puid_cmp s.graph.objects id (changed_object c o))
      → record s { graph = record s.graph { objects = new } } ≡ changed s who ref c
  object_changed ref id new to none names made =
      let there = there_object s who ref id to none names in
      let sees = seen_object s who ref id there.0 names none there.1 in
      ap (λ (os : List (Puid × Object)). record s { graph = record s.graph { objects = os } }) (made there.0 there.1)
      ∙ ap (λ (d : Draft). record s { graph = with_object s.graph id (changed_object c d.object) }) (sym sees)
      ∙ sym (put_object-at s who ref id (changed_draft c (seen s who ref)) names none)

-- a slot of an object is one for whatever is put there
filling : (slot : ℕ) (id : Puid) (o : Object) → IsInside (Fill slot None) o → IsInside (Fill slot (Some id)) o
filling slot id (objects.Index i) h = h
filling slot id (objects.File f) h = h

-- with the new object's identifier
abbrev created_at : State → ℕ → Ref → ℕ → Puid → ℕ → Object → Reply × State
created_at s who ref slot x seed o =
    let with_new : State = record s { graph = with_object s.graph x o; drawn = s.drawn + 1 } in
    (replies.Id x, record (put with_new who ref (changed_draft (Fill slot (Some x)) (seen s who ref))) { collection = with_edge (named s who ref) x s.collection })

module _ (s : State) (who : ℕ) (ref : Ref) (into : Puid) (slot : ℕ) (id : Puid) (found : Object) (none : draft_of s who ref ≡ None) (names : named s who ref ≡ Some into)
    (at : object_at s.graph into ≡ Some found) where
  -- the slot is one of the object's
  pub slot_inside : IsInside (Fill slot None) (seen s who ref).object → IsInside (Fill slot (Some id)) found
  slot_inside inside = filling slot id found (subst (λ (d : Draft). IsInside (Fill slot None) d.object) (seen_object s who ref into found names none at) inside)

  -- a new object and its identifier in the slot
  pub created_state : (seed b : ℕ) (o : Object) (first then : List (Puid × Object)) → id ≡ record { block = b; word = word seed (s.drawn + 1) }
      → first ≡ insert_entry puid_cmp s.graph.objects id o → then ≡ insert_entry puid_cmp first into (changed_object (Fill slot (Some id)) found)
      → created seed s who ref slot o b ≡ (replies.Id id, record s { graph = record s.graph { objects = then }; drawn = s.drawn + 1; collection = with_edge (named s who ref) id s.collection })
  created_state seed b o first then is one two =
      let new : State = record s { graph = with_object s.graph id o; drawn = s.drawn + 1 } in
      let d = changed_draft (Fill slot (Some id)) (seen s who ref) in
      let made : d.object ≡ changed_object (Fill slot (Some id)) found = ap (λ (x : Draft). changed_object (Fill slot (Some id)) x.object) (seen_object s who ref into found names none at) in
      let entries = ap (insert_entry puid_cmp (insert_entry puid_cmp s.graph.objects id o) into) made ∙ ap (λ es. insert_entry puid_cmp es into (changed_object (Fill slot (Some id)) found)) (sym one) ∙ sym two in
      ap (λ (x : Puid). created_at s who ref slot x seed o) (sym is)
      ∙ ap (λ (t : State). (replies.Id id, record t { collection = with_edge (named s who ref) id s.collection })) (put_object-at new who ref into d names none)
      ∙ ap (λ es. (replies.Id id, record s { graph = record s.graph { objects = es }; drawn = s.drawn + 1; collection = with_edge (named s who ref) id s.collection })) entries

-- ---- a new object by a draft

module _ (s : State) (who : ℕ) (ref : Ref) (at slot : ℕ) (id : Puid) (place : IsDraftPlace s who ref at) where
  it_stands : (g : Grant) → slice_get s.grants at ≡ Some g → place.grant ≡ g
  it_stands g stands = same_Some _ _ (sym place.stands ∙ stands)

  its_draft : (g : Grant) (d : Draft) → slice_get s.grants at ≡ Some g → g.draft ≡ Some d → place.draft ≡ d
  its_draft g d stands has = same_Some _ _ (sym place.has ∙ ap (λ (x : Grant). x.draft) (it_stands g stands) ∙ has)

  -- the slot is one of the draft's
  pub draft_inside : IsInside (Fill slot None) (seen s who ref).object → (g : Grant) (d : Draft) → slice_get s.grants at ≡ Some g → g.draft ≡ Some d → IsInside (Fill slot (Some id)) d.object
  draft_inside inside g d stands has =
      let sees : seen s who ref ≡ d = ap (seen s who) place.through ∙ seen_draft s who place.t place.grant place.draft place.found place.has ∙ its_draft g d stands has in
      filling slot id d.object (subst (λ (x : Draft). IsInside (Fill slot None) x.object) sees inside)

  pub created_in_draft : IsState s → (seed b : ℕ) (o : Object) (new : State) → id ≡ record { block = b; word = word seed (s.drawn + 1) }
      → ((g : Grant) (d : Draft) → slice_get s.grants at ≡ Some g → g.draft ≡ Some d → new ≡ with_new_in_draft s at g d slot id o)
      → created seed s who ref slot o b ≡ (replies.Id id, record new { drawn = s.drawn + 1; collection = with_edge (named s who ref) id s.collection })
  created_in_draft h seed b o new is made =
      let more : State = record s { graph = with_object s.graph id o; drawn = s.drawn + 1 } in
      let it = grant_found s who place.t place.grant h place.found in
      let sees = seen_draft s who place.t place.grant place.draft place.found place.has in
      let filled = changed_draft (Fill slot (Some id)) (seen s who (Through place.t)) in
      let gone = with_draft-set who place.t (changed_draft (Fill slot (Some id)) place.draft) s.grants at place.grant h.rising place.stands it.0 in
      ap (λ (x : Puid). created_at s who ref slot x seed o) (sym is)
      ∙ ap (λ r. (replies.Id id, record (put more who r (changed_draft (Fill slot (Some id)) (seen s who r))) { collection = with_edge (named s who ref) id s.collection })) place.through
      ∙ ap (λ (t : State). (replies.Id id, record t { collection = with_edge (named s who ref) id s.collection })) (put_draft-at more who place.t place.grant place.draft filled place.found place.has)
      ∙ ap (λ (d : Draft). (replies.Id id, record more { grants = with_draft who place.t (changed_draft (Fill slot (Some id)) d) s.grants; collection = with_edge (named s who ref) id s.collection })) sees
      ∙ ap (λ gs. (replies.Id id, record more { grants = gs; collection = with_edge (named s who ref) id s.collection })) gone
      ∙ ap (λ (t : State). (replies.Id id, record t { drawn = s.drawn + 1; collection = with_edge (named s who ref) id s.collection })) (sym (made place.grant place.draft place.stands place.has))

-- ---- the end of a grant

granted_is : (o : Option Grant) → is_none o ≡ false → (g : Grant) × (o ≡ Some g)
granted_is None h = cc
granted_is (Some g) h = (g, refl)

-- the grant, at its place
pub standing : (s : State) (who : ℕ) (t : Tuid) (at : ℕ) → IsState s → has_no_such_grant s who (Through t) ≡ false → position (is_grant who t) s.grants ≡ Some at
    → (g : Grant) × (slice_get s.grants at ≡ Some g) × (grant_of s who t ≡ Some g)
standing s who t at h granted here =
    let found = granted_is (grant_of s who t) granted in (found.0, sym (found_at (is_grant who t) s.grants at here) ∙ found.1, found.1)

pub closed_state : (s : State) (who : ℕ) (t : Tuid) (commit : Bool) (at : ℕ) (g : Grant) (es : List (Puid × Object)) → IsState s → slice_get s.grants at ≡ Some g → grant_of s who t ≡ Some g
    → (commit ≡ false → es ≡ s.graph.objects) → (g.draft ≡ None → es ≡ s.graph.objects)
    → ((d : Draft) (o : Object) → commit ≡ true → g.draft ≡ Some d → object_at s.graph g.id ≡ Some o → es ≡ insert_entry puid_cmp s.graph.objects g.id d.object)
    → record s { graph = record s.graph { objects = es }; grants = remove s.grants at } ≡ closed s who t commit
closed_state s who t commit at g es h stands found dropped none put =
    let it = grant_found s who t g h found in
    let rest = sym (without_place who t s.grants at g h.rising stands it.0) in
    let o = open_there (object_at s.graph g.id) g.draft it.1 in
    ap (λ (gs : List Grant). record s { graph = record s.graph { objects = es }; grants = gs }) rest
    ∙ ap (λ (graph : Graph). record s { graph = graph; grants = filter (λ x. not (is_grant who t x)) s.grants }) (graph commit o refl)
  where
    with : (d : Option Draft) → g.draft ≡ d → (o : Object) × (object_at s.graph g.id ≡ Some o) → commit ≡ true
        → record s.graph { objects = es } ≡ elim d [ None ↦ s.graph | Some x ↦ with_object s.graph g.id x.object ]
    with None has o yes_commit = ap (λ (os : List (Puid × Object)). record s.graph { objects = os }) (none has)
    with (Some d) has o yes_commit = ap (λ (os : List (Puid × Object)). record s.graph { objects = os }) (put d o.0 yes_commit has o.1)

    graph : (b : Bool) → (o : Object) × (object_at s.graph g.id ≡ Some o) → commit ≡ b → record s.graph { objects = es } ≡ cond b (committed (grant_of s who t) s.graph) s.graph
    graph true o is = with g.draft refl o is ∙ ap (λ (x : Option Grant). committed x s.graph) (sym found)
    graph false o is = ap (λ (os : List (Puid × Object)). record s.graph { objects = os }) (dropped is)
