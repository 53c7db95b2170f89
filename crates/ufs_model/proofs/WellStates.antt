-- What is done to a well-formed state leaves one.
use Rattle.std.proofs.Common.{◌≡◌, inl, inr, ℕ, zero, suc, ◌+◌, List, [], ◌∷◌, set, refl, sym, ◌∙◌, ap, subst, arith, Bool, true, false, cond, not, Some, None, Option}
use Rattle.ufs_model.proofs.Words.{Change, Collection, Direct, Draft, File, FileKind, Fill, Grant, Graph, IsInside, IsState, Object, Overwrite, Puid, Ref, SetSize, State, Through, Tuid, and_from, and_parts, both_ways, changed, changed_draft, changed_object, created, draft_of, draws_of, eq-eqb, eqb-true, filter_map, goes_nowhere, grant_of, granted, has_block, has_no_such_grant, is_among, is_draft_of, is_free_root, is_grant, is_grant_in, is_none, is_object, is_open_so, is_some, is_there, list_all, named, nat_le, nat_tests, not-false, not-true, numbers_rise, object_at, option_and_then, or_cases, or_left, or_right, put, referred, same_kind, same_puid, seen, with_draft, with_edge, with_object, word, ◌==◌}
use Rattle.std.proofs.Common.{length}
use Rattle.cfs_base.specs.declared.kind.FileKind.TheVariants as kinds
use Rattle.ufs_model.specs.declared.object.Index.{Index}
use Rattle.std.proofs.lemmas.Option.{same_Some}
use Rattle.ufs_model.specs.declared.object.Object.TheVariants as objects
use Rattle.ufs_model.specs.Numbers.{has_number}
use Rattle.ufs_model.specs.Object.{filled, leaf_of_slot}
use Rattle.ufs_model.specs.State.{draft_at, draft_pairs}
use Rattle.ufs_model.specs.Refusal.{meets_a_grant}
use Rattle.ufs_model.specs.WellFormed.{are_granted}
use Rattle.ufs_model.proofs.Tests.{all_found, all_weaker}
use Rattle.ufs_model.proofs.Reached.{same_puid_is, same_puid_itself, each_pair}
use Rattle.ufs_model.proofs.Rising.{here, later, with_others}
use Rattle.ufs_model.proofs.Drafts.{its_draft, no_other, draft_put, draft_pair, granted_alone, granted_put, not_open, not_written, replaced_grants, pairs_closed_by}
use Rattle.ufs_model.proofs.Graphs.{object_at-with_object, object_there, refers}
use Rattle.ufs_model.proofs.RootBlocks.{found_still}
use Rattle.ufs_model.proofs.Objects.{IsAlike, IsOfBytes, changed_alike, changed_whole}
use Rattle.ufs_model.proofs.WellGraphs.{graph_refers, object_whole, replaced_keeps, added_keeps, still_there}
use Rattle.ufs_model.proofs.Grants.{with_draft-all, with_draft-draws}

-- a state is well-formed whatever else is remembered
pub beside : (s : State) (moment : Option ℕ) (c : Collection) → IsState s → IsState (record s { stopped = moment; collection = c })
beside s moment c h = record { graph = h.graph; grants = h.grants; closed = h.closed; alone = h.alone; rising = h.rising; drawn = h.drawn }

-- ---- drafts

-- a leaf that is held stays so
held_still : (d : Index) (slot : ℕ) (what : Option Puid) (leaf : ℕ) → has_number leaf d.held ≡ true → has_number leaf (filled d slot what).held ≡ true
held_still d slot None leaf h = h
held_still d slot (Some x) leaf h = with_others leaf (leaf_of_slot slot) d.held h

-- a draft that is changed is one still
changed_draft-of : (o d : Object) (c : Change) → IsInside c d → IsOfBytes c → is_draft_of o d ≡ true → is_draft_of o (changed_object c d) ≡ true
changed_draft-of (objects.Index i) (objects.File d) c inside small h = cc
changed_draft-of (objects.Index i) (objects.Index d) (Fill slot what) inside small h =
    let last = and_parts _ (is_object (objects.Index d)) h in
    let first = and_parts (length d.slots == length i.slots) (list_all (λ leaf. has_number leaf d.held) i.held) last.0 in
    and_from _ _ (and_from _ _ (ap (λ (n : ℕ). n == length i.slots) (changed_alike (Fill slot what) (objects.Index d)) ∙ first.0)
    (all_weaker (λ leaf. has_number leaf d.held) (λ leaf. has_number leaf (filled d slot what).held) i.held (λ leaf. held_still d slot what leaf) first.1))
    (changed_whole (Fill slot what) (objects.Index d) inside small last.1)
changed_draft-of (objects.Index i) (objects.Index d) (Overwrite offset bytes) inside small h = h
changed_draft-of (objects.Index i) (objects.Index d) (SetSize size) inside small h = h
changed_draft-of (objects.File f) (objects.Index i) c inside small h = cc
changed_draft-of (objects.File f) (objects.File d) (Fill slot what) inside small h = h
changed_draft-of (objects.File f) (objects.File d) (Overwrite offset bytes) inside small h =
    let two = and_parts _ (is_object (objects.File d)) h in and_from _ _ two.0 (changed_whole (Overwrite offset bytes) (objects.File d) inside small two.1)
changed_draft-of (objects.File f) (objects.File d) (SetSize size) inside small h =
    let two = and_parts _ (is_object (objects.File d)) h in and_from _ _ two.0 (changed_whole (SetSize size) (objects.File d) inside small two.1)

same_kind-itself : (k : FileKind) → same_kind k k ≡ true
same_kind-itself kinds.Normal = refl
same_kind-itself kinds.Special = refl

-- a file is a draft of itself, and a draft has its kind
file_draft : (f : File) → is_object (objects.File f) ≡ true → is_draft_of (objects.File f) (objects.File f) ≡ true
file_draft f whole = and_from _ _ (and_from (same_kind f.kind f.kind) (f.fill == f.fill) (same_kind-itself f.kind) (eq-eqb f.fill f.fill refl)) whole

kind_is : (a b : FileKind) → same_kind a b ≡ true → a ≡ b
kind_is kinds.Normal kinds.Normal h = refl
kind_is kinds.Normal kinds.Special h = cc
kind_is kinds.Special kinds.Normal h = cc
kind_is kinds.Special kinds.Special h = refl

all_among : (P : ℕ → Bool) (ns : List ℕ) → ((n : ℕ) → has_number n ns ≡ true → P n ≡ true) → list_all P ns ≡ true
all_among P [] each = refl
all_among P (n ∷ ns) each = and_from (P n) (list_all P ns) (each n (here n ns)) (all_among P ns (λ m h. each m (later m n ns h)))

-- an object is a draft of itself
pub self_draft : (o : Object) → is_object o ≡ true → is_draft_of o o ≡ true
self_draft (objects.File f) whole = file_draft f whole
self_draft (objects.Index i) whole = and_from _ _ (and_from _ _ (eq-eqb (length i.slots) (length i.slots) refl) (all_among (λ leaf. has_number leaf i.held) i.held (λ n h. h))) whole

pub draft_alike : (o d : Object) → is_draft_of o d ≡ true → IsAlike o d × (is_object d ≡ true)
draft_alike (objects.File f) (objects.File d) h =
    let last = and_parts _ (is_object (objects.File d)) h in
    let first = and_parts (same_kind d.kind f.kind) (d.fill == f.fill) last.0 in
    ((kind_is d.kind f.kind first.0, eqb-true d.fill f.fill first.1), last.1)
draft_alike (objects.Index i) (objects.Index d) h =
    let last = and_parts _ (is_object (objects.Index d)) h in
    let first = and_parts (length d.slots == length i.slots) (list_all (λ leaf. has_number leaf d.held) i.held) last.0 in
    (eqb-true (length d.slots) (length i.slots) first.0, last.1)
draft_alike (objects.File f) (objects.Index i) h = cc
draft_alike (objects.Index i) (objects.File d) h = cc

pub open_there : (o : Option Object) (d : Option Draft) → is_open_so o d ≡ true → (it : Object) × (o ≡ Some it)
open_there None d h = cc
open_there (Some o) d h = (o, refl)

-- ---- another object of its kind in its place

pub replaced_state : (s : State) (id : Puid) (old new : Object) → IsState s → object_at s.graph id ≡ Some old → IsAlike old new → is_object new ≡ true
    → ((x : Puid) → is_among x (referred new) ≡ true → is_there s.graph x ≡ true) → ((d : Object) → draft_at s.grants id ≡ Some d → is_draft_of new d ≡ true) → IsState (record s { graph = with_object s.graph id new })
replaced_state s id old new h at alike whole refer still = record {
  graph = replaced_keeps s.graph id new h.graph whole old at alike refer;
  grants = replaced_grants s.graph id new s.grants (granted_alone s.grants h.alone) h.grants still;
  closed = all_weaker (λ e. is_there s.graph e.1) (λ e. is_there (with_object s.graph id new) e.1) (draft_pairs s.grants) (λ e there. still_there s.graph id new e.1 there) h.closed;
  alone = h.alone;
  rising = h.rising;
  drawn = h.drawn;
}

-- ---- where a change goes

-- it goes to the object that the reference names, or to the draft of the grant
pub data Goes (s : State) (who : ℕ) : Ref → Type 0 where
  ToObject : {ref : Ref} (id : Puid) (o : Object) → named s who ref ≡ Some id → draft_of s who ref ≡ None → object_at s.graph id ≡ Some o → Goes s who ref
  ToDraft : (t : Tuid) (g : Grant) (d : Draft) → grant_of s who t ≡ Some g → g.draft ≡ Some d → Goes s who (Through t)

pub grant_found : (s : State) (who : ℕ) (t : Tuid) (g : Grant) → IsState s → grant_of s who t ≡ Some g → (is_grant who t g ≡ true) × (is_grant_in s.graph g ≡ true)
grant_found s who t g h found = all_found (is_grant_in s.graph) (is_grant who t) s.grants g found h.grants

pub goes : (s : State) (who : ℕ) (ref : Ref) → IsState s → has_no_such_grant s who ref ≡ false → goes_nowhere s ref ≡ false → Goes s who ref
goes s who (Direct id) h granted there = let at = object_there s.graph id (not-false (is_there s.graph id) there) in ToObject id at.0 refl refl at.1
goes s who (Through t) h granted there = to (grant_of s who t) refl
  where
    through : (g : Grant) (d : Option Draft) → grant_of s who t ≡ Some g → g.draft ≡ d → Goes s who (Through t)
    through g (Some d) found has = ToDraft t g d found has
    through g None found has =
        let at = open_there (object_at s.graph g.id) g.draft (grant_found s who t g h found).1 in
        ToObject g.id at.0 (ap (λ o. option_and_then (λ (x : Grant). Some x.id) o) found) (ap (λ o. option_and_then (λ (x : Grant). x.draft) o) found ∙ has) at.1

    to : (found : Option Grant) → grant_of s who t ≡ found → Goes s who (Through t)
    to None found = let none : is_none (grant_of s who t) ≡ true = ap is_none found in cc
    to (Some g) found = through g g.draft found refl

module _ (s : State) (who : ℕ) where
  pub seen_object : (ref : Ref) (id : Puid) (o : Object) → named s who ref ≡ Some id → draft_of s who ref ≡ None → object_at s.graph id ≡ Some o → seen s who ref ≡ record { object = o; fresh = [] }
  seen_object ref id o name none at = rw (none, name, at) refl

  pub put_object-at : (ref : Ref) (id : Puid) (d : Draft) → named s who ref ≡ Some id → draft_of s who ref ≡ None → put s who ref d ≡ record s { graph = with_object s.graph id d.object }
  put_object-at ref id d name none = rw (none, name, put) refl

  pub draft_found : (t : Tuid) (g : Grant) (d : Draft) → grant_of s who t ≡ Some g → g.draft ≡ Some d → draft_of s who (Through t) ≡ Some d
  draft_found t g d found has = ap (λ o. option_and_then (λ (x : Grant). x.draft) o) found ∙ has

  pub seen_draft : (t : Tuid) (g : Grant) (d : Draft) → grant_of s who t ≡ Some g → g.draft ≡ Some d → seen s who (Through t) ≡ d
  seen_draft t g d found has = rw (draft_found t g d found has) refl

  pub put_draft-at : (t : Tuid) (g : Grant) (d new : Draft) → grant_of s who t ≡ Some g → g.draft ≡ Some d → put s who (Through t) new ≡ record s { grants = with_draft who t new s.grants }
  put_draft-at t g d new found has = rw (draft_found t g d found has, put) refl

-- an object to which a reference goes, and not to its draft, has none
abbrev pub HasNoOther : State → ℕ → Ref → Type 0
HasNoOther s who ref = (id : Puid) → named s who ref ≡ Some id → draft_of s who ref ≡ None → draft_at s.grants id ≡ None

pub has_no_other : (s : State) (who : ℕ) (ref : Ref) (changes : Bool) → IsState s → meets_a_grant s changes ref ≡ false → HasNoOther s who ref
has_no_other s who (Direct x) changes h free id is none = let same : x ≡ id = same_Some x id is in subst (λ (k : Puid). draft_at s.grants k ≡ None) same (undrafted changes free)
  where
    undrafted : (changes : Bool) → meets_a_grant s changes (Direct x) ≡ false → draft_at s.grants x ≡ None
    undrafted true free = not_open s.grants x free
    undrafted false free = not_written s.grants x h.alone free
has_no_other s who (Through t) changes h free id is none = at (grant_of s who t) refl
  where
    at : (o : Option Grant) → grant_of s who t ≡ o → draft_at s.grants id ≡ None
    at None found = (let no : None ≡ Some id = rw found at is in cc)
    at (Some g) found = subst (λ (k : Puid). draft_at s.grants k ≡ None) (same_Some g.id id (rw found at is)) (no_other (is_grant who t) g s.grants (granted_alone s.grants h.alone) found (rw found at none))

-- ---- a change

-- what it puts into a slot is there
abbrev pub IsKnown : Graph → Change → Type 0
IsKnown g (Fill slot None) = Unit {0}
IsKnown g (Fill slot (Some id)) = is_there g id ≡ true
IsKnown g (Overwrite offset bytes) = Unit {0}
IsKnown g (SetSize size) = Unit {0}

referred_set : (M : Puid → Bool) (slots : List (Option Puid)) (slot : ℕ) (what : Option Puid) → ((x : Puid) → what ≡ Some x → M x ≡ true)
    → ((x : Puid) → is_among x (filter_map (λ y. y) slots) ≡ true → M x ≡ true) → (x : Puid) → is_among x (filter_map (λ y. y) (set slots slot what)) ≡ true → M x ≡ true
referred_set M [] slot what new old x h = cc
referred_set M (y ∷ ys) zero None new old x h = old x (skip y h)
  where
    skip : (y : Option Puid) → is_among x (filter_map (λ z. z) ys) ≡ true → is_among x (filter_map (λ z. z) (y ∷ ys)) ≡ true
    skip None h = h
    skip (Some z) h = or_right (same_puid x z) _ h
referred_set M (y ∷ ys) zero (Some id) new old x h = elim (or_cases (same_puid x id) (is_among x (filter_map (λ z. z) ys)) h) [
  | inl here ↦ rw (same_puid_is x id here) (new id refl)
  | inr later ↦ old x (skip y later)
]
  where
    skip : (y : Option Puid) → is_among x (filter_map (λ z. z) ys) ≡ true → is_among x (filter_map (λ z. z) (y ∷ ys)) ≡ true
    skip None h = h
    skip (Some z) h = or_right (same_puid x z) _ h
referred_set M (None ∷ ys) (suc slot) what new old x h = referred_set M ys slot what new old x h
referred_set M (Some z ∷ ys) (suc slot) what new old x h = elim (or_cases (same_puid x z) (is_among x (filter_map (λ y. y) (set ys slot what))) h) [
  | inl here ↦ old x (or_left (same_puid x z) _ here)
  | inr later ↦ referred_set M ys slot what new (λ y in_ys. old y (or_right (same_puid y z) _ in_ys)) x later
]

changed_refers : (g : Graph) (c : Change) (o : Object) → IsKnown g c → ((x : Puid) → is_among x (referred o) ≡ true → is_there g x ≡ true)
    → (x : Puid) → is_among x (referred (changed_object c o)) ≡ true → is_there g x ≡ true
changed_refers g (Fill slot None) (objects.Index i) known old = referred_set (is_there g) i.slots slot None (λ x h. cc) old
changed_refers g (Fill slot (Some id)) (objects.Index i) known old =
    referred_set (is_there g) i.slots slot (Some id) (λ x h. let same : id ≡ x = cc in subst (λ (y : Puid). is_there g y ≡ true) same known) old
changed_refers g (Fill slot what) (objects.File f) known old = old
changed_refers g (Overwrite offset bytes) (objects.File f) known old = old
changed_refers g (Overwrite offset bytes) (objects.Index i) known old = old
changed_refers g (SetSize size) (objects.File f) known old = old
changed_refers g (SetSize size) (objects.Index i) known old = old

pub changed_keeps : (s : State) (who : ℕ) (ref : Ref) (c : Change) → IsState s → Goes s who ref → HasNoOther s who ref → IsInside c (seen s who ref).object → IsOfBytes c → IsKnown s.graph c → IsState (changed s who ref c)
changed_keeps s who ref c h (ToObject id o name none at) others inside small known =
    let sees = seen_object s who ref id o name none at in
    let inside' : IsInside c o = subst (λ (d : Draft). IsInside c d.object) sees inside in
    let is : changed s who ref c ≡ record s { graph = with_object s.graph id (changed_object c o) } =
    put_object-at s who ref id (changed_draft c (seen s who ref)) name none ∙ ap (λ (d : Draft). record s { graph = with_object s.graph id (changed_object c d.object) }) sees in
    subst IsState (sym is)
    (replaced_state s id o (changed_object c o) h at (changed_alike c o) (changed_whole c o inside' small (object_whole s.graph h.graph id o at))
    (changed_refers s.graph c o known (λ x r. graph_refers s.graph h.graph id x (ap (λ there. refers there x) at ∙ r))) (λ d is. (let no : None ≡ Some d = sym (others id name none) ∙ is in cc)))
changed_keeps s who ref c h (ToDraft t g d found has) others inside small known =
    let sees = seen_draft s who t g d found has in
    let it = grant_found s who t g h found in
    let at = open_there (object_at s.graph g.id) g.draft it.1 in
    let new = changed_draft c d in
    let inside' : IsInside c d.object = subst (λ (x : Draft). IsInside c x.object) sees inside in
    let had : is_open_so (object_at s.graph g.id) (Some d) ≡ true = sym (ap (is_open_so (object_at s.graph g.id)) has) ∙ it.1 in
    let still : is_open_so (object_at s.graph g.id) (Some new) ≡ true =
    rw at.1 (changed_draft-of at.0 d.object c inside' small (sym (ap (λ o. is_open_so o (Some d)) at.1) ∙ had)) in
    let is : changed s who (Through t) c ≡ record s { grants = with_draft who t new s.grants } =
    put_draft-at s who t g d (changed_draft c (seen s who (Through t))) found has ∙ ap (λ (x : Draft). record s { grants = with_draft who t (changed_draft c x) s.grants }) sees in
    let granted : are_granted (with_draft who t new s.grants) ≡ true = granted_put who t s.grants g d new h.alone h.rising found has in
    let alone = granted_alone s.grants h.alone in
    let was : (i x : Puid) → refers (draft_at s.grants i) x ≡ true → is_there s.graph x ≡ true = λ i x r. each_pair (λ _. is_there s.graph) (draft_pairs s.grants) i x h.closed (draft_pair s.grants i x r) in
    let refer : (i x : Puid) → refers (draft_at (with_draft who t new s.grants) i) x ≡ true → is_there s.graph x ≡ true = λ i x r.
    elim (same_puid i g.id) as (λ b. refers (cond b (Some new.object) (draft_at s.grants i)) x ≡ true → is_there s.graph x ≡ true) [
      | true ↦ λ now. changed_refers s.graph c d.object known (λ y in_d. was g.id y (ap (λ o. refers o y) (its_draft (is_grant who t) g s.grants d alone found has) ∙ in_d)) x now
      | false ↦ λ old. was i x old
    ] (ap (λ o. refers o x) (sym (draft_put who t s.grants g d new i alone h.rising found has)) ∙ r) in
    subst IsState (sym is) (record {
      graph = h.graph;
      grants = with_draft-all who t new (is_grant_in s.graph) s.grants g h.rising found it.0 h.grants still;
      closed = pairs_closed_by (is_there s.graph) (with_draft who t new s.grants) (granted_alone (with_draft who t new s.grants) granted) refer;
      alone = granted;
      rising = ap numbers_rise (with_draft-draws who t new s.grants) ∙ h.rising;
      drawn = ap (list_all (λ draw. nat_le draw s.drawn)) (with_draft-draws who t new s.grants) ∙ h.drawn;
    })

-- ---- a new object, and its identifier in a slot

module _ (s : State) (id : Puid) (o : Object) (free : is_free_root s.graph id.block ≡ true) where
  abbrev more : State
  more = record s { graph = with_object s.graph id o; drawn = s.drawn + 1 }

  unused : has_block s.graph.objects id.block ≡ false
  unused = not-true (has_block s.graph.objects id.block) (and_parts (not (id.block == 0)) (not (has_block s.graph.objects id.block)) free).1

  kept_object : (x : Puid) (old : Object) → object_at s.graph x ≡ Some old → object_at (with_object s.graph id o) x ≡ Some old
  kept_object x old at = found_still x id s.graph.objects old o at unused

  pub added_state : IsState s → is_object o ≡ true → ((x : Puid) → is_among x (referred o) ≡ false) → IsState more
  added_state h whole bare = record {
    graph = added_keeps s.graph id o h.graph whole free (λ x r. absurd (both_ways (is_among x (referred o)) (bare x) r));
    grants = all_weaker (is_grant_in s.graph) (is_grant_in (with_object s.graph id o)) s.grants
        (λ g is. let at = open_there (object_at s.graph g.id) g.draft is in ap (λ old. is_open_so old g.draft) (kept_object g.id at.0 at.1 ∙ sym at.1) ∙ is) h.grants;
    closed = all_weaker (λ e. is_there s.graph e.1) (λ e. is_there (with_object s.graph id o) e.1) (draft_pairs s.grants) (λ e there. still_there s.graph id o e.1 there) h.closed;
    alone = h.alone;
    rising = h.rising;
    drawn = all_weaker (λ draw. nat_le draw s.drawn) (λ draw. nat_le draw (s.drawn + 1)) (draws_of s.grants) (λ draw le. grind (arith, nat_tests)) h.drawn;
  }

  -- what a reference goes to is seen as before
  pub goes_still : (who : ℕ) (ref : Ref) → Goes s who ref → Goes more who ref × (seen s who ref ≡ seen more who ref)
  goes_still who ref (ToObject x old name none at) =
      (ToObject x old name none (kept_object x old at), seen_object s who ref x old name none at ∙ sym (seen_object more who ref x old name none (kept_object x old at)))
  goes_still who ref (ToDraft t g d found has) = (ToDraft t g d found has, seen_draft s who t g d found has ∙ sym (seen_draft more who t g d found has))

pub created_keeps : (seed : ℕ) (s : State) (who : ℕ) (index : Ref) (slot : ℕ) (o : Object) (b : ℕ) → IsState s → Goes s who index → HasNoOther s who index → IsInside (Fill slot None) (seen s who index).object
    → is_object o ≡ true → ((x : Puid) → is_among x (referred o) ≡ false) → is_free_root s.graph b ≡ true → IsState (created seed s who index slot o b).1
created_keeps seed s who index slot o b h to others inside whole bare free =
    let id : Puid = record { block = b; word = word seed (s.drawn + 1) } in
    let c = Fill slot (Some id) in
    let still = goes_still s id o free who index to in
    let there : is_there (with_object s.graph id o) id ≡ true = ap is_some (object_at-with_object s.graph id o id ∙ ap (λ b. cond b (Some o) (object_at s.graph id)) (same_puid_itself id)) in
    let one = changed_keeps (more s id o free) who index c (added_state s id o free h whole bare) still.0 (still_others index others) (subst (λ (d : Draft). IsInside c d.object) still.1 (filling (seen s who index).object inside)) tt there in
    let filled : State = put (more s id o free) who index (changed_draft c (seen s who index)) in
    beside filled filled.stopped (with_edge (named s who index) id s.collection) (subst (λ d. IsState (put (more s id o free) who index (changed_draft c d))) (sym still.1) one)
  where
    still_others : (r : Ref) → HasNoOther s who r → HasNoOther (more s (record { block = b; word = word seed (s.drawn + 1) }) o free) who r
    still_others (Direct x) others = others
    still_others (Through x) others = others

    filling : (seen : Object) → IsInside (Fill slot None) seen → IsInside (Fill slot (Some (record { block = b; word = word seed (s.drawn + 1) }))) seen
    filling (objects.Index i) h = h
    filling (objects.File f) h = h
