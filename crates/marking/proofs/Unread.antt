-- How many steps on leaves of drafts may still come: no change raises it but by its rescues.
use Rattle.marking.proofs.Words.{Change, Colours, Equal, Fill, Graph, Greater, Less, Object, Overwrite, Puid, Rescue, SetSize, State, Waits, and_parts, changed_object, draft_at, ids_of, index_leaves, insert_entry, is_at, is_eq, is_some, kind_standing, leaf_of_slot, list_all, match_ordering, nat_le, nat_lt, nat_tests, object_at, object_at-with_object, own_part, puid_cmp, rises, same_puid, same_puid_is, same_puid_itself, sum_by, sum_by-cons, unread, unread_at, unread_of, with_number, with_object}
use Rattle.std.proofs.Common.{◌≡◌, ℕ, ◌+◌, ◌≤◌, List, [], ◌∷◌, length, refl, sym, ◌∙◌, ap, subst, arith, Bool, true, false, cond, Option, Some, None}
use Rattle.std.specs.Prelude.{count_by}
use Rattle.std.specs.Ordering.{is_lt}
use Rattle.std.specs.Map.{keys_of, set_value}
use Rattle.ufs_model.specs.declared.object.Object.TheVariants as objects
use Rattle.ufs_model.specs.Need.{one_if}
use Rattle.ufs_model.proofs.Entries.{insert_entry-there}
use Rattle.ufs_model.proofs.Graphs.{sorted_from_rises}
use Rattle.marking.specs.Pace.{drafted_leaves, reading_at}
use Rattle.marking.proofs.Leaves.{no_file}
use Rattle.marking.proofs.Sums.{within_sum, sum_more, with_more}
use Rattle.marking.proofs.Wells.{IsWell}

-- ---- one object

-- leaves by which no sum is less
abbrev Holds : List ℕ → List ℕ → Type 0
Holds ns ms = (f : ℕ → ℕ) → sum_by f ns ≤ sum_by f ms

unread_within : (k : Option ℕ) (ns ms : List ℕ) (b : Bool) → Holds ns ms → unread_of false k ns ≤ unread_of b k ms
unread_within None ns ms b le = omega arith
unread_within (Some cursor) ns ms b le = elim (nat_lt cursor own_part) as (λ t. cond t (count_by (λ leaf. nat_le cursor leaf) ns + 0) 0 ≤ cond t (count_by (λ leaf. nat_le cursor leaf) ms + one_if b) 0) [
  | true ↦ let few = le (λ leaf. cond (nat_le cursor leaf) 1 0) in omega (arith, few)
  | false ↦ omega arith
]

unread_begun : (k : Option ℕ) (b : Bool) (ns : List ℕ) → unread_of b k ns ≤ unread_of false k ns + 1
unread_begun None b ns = omega arith
unread_begun (Some cursor) b ns = elim (nat_lt cursor own_part) as (λ t. cond t (count_by (λ leaf. nat_le cursor leaf) ns + one_if b) 0 ≤ cond t (count_by (λ leaf. nat_le cursor leaf) ns + 0) 0 + 1) [
  | true ↦ one b
  | false ↦ omega arith
]
  where
    one : (b : Bool) → count_by (λ leaf. nat_le cursor leaf) ns + one_if b ≤ count_by (λ leaf. nat_le cursor leaf) ns + 0 + 1
    one true = omega arith
    one false = omega arith

at_most_one : (cursor leaf : ℕ) → cond (nat_le cursor leaf) 1 0 ≤ 1
at_most_one cursor leaf = grind (arith, nat_tests)

unread_filled : (b : Bool) (k : Option ℕ) (leaf : ℕ) (ns : List ℕ) → unread_of b k (with_number leaf ns) ≤ unread_of b k ns + 1
unread_filled b None leaf ns = omega arith
unread_filled b (Some cursor) leaf ns = elim (nat_lt cursor own_part) as (λ t. cond t (count_by (λ l. nat_le cursor l) (with_number leaf ns) + one_if b) 0 ≤ cond t (count_by (λ l. nat_le cursor l) ns + one_if b) 0 + 1) [
  | true ↦ let more = with_more (λ l. cond (nat_le cursor l) 1 0) leaf ns in omega (arith, more, at_most_one cursor leaf)
  | false ↦ omega arith
]

-- what a change puts into a slot
abbrev pub added : Change → Option Puid
added (Fill slot what) = what
added (Overwrite offset bytes) = None
added (SetSize size) = None

pub unread_changed : (b : Bool) (k : Option ℕ) (c : Change) (o : Object) → unread_of b k (index_leaves (changed_object c o)) ≤ unread_of b k (index_leaves o) + one_if (is_some (added c))
unread_changed b k (Fill slot None) (objects.Index i) = omega arith
unread_changed b k (Fill slot (Some x)) (objects.Index i) = unread_filled b k (leaf_of_slot slot) i.held
unread_changed b k (Fill slot what) (objects.File f) = omega arith
unread_changed b k (Overwrite offset bytes) (objects.Index i) = omega arith
unread_changed b k (Overwrite offset bytes) (objects.File f) = omega arith
unread_changed b k (SetSize size) (objects.Index i) = omega arith
unread_changed b k (SetSize size) (objects.File f) = omega arith

-- who waits is counted
pub some_wait : (more : List Rescue) (index : Option Puid) (x : Puid) → Waits more index x → 1 ≤ length more
some_wait [] index x h = absurd h
some_wait (r ∷ rs) index x h = omega arith

-- ---- sums over identifiers

module _ (f h : Puid → ℕ) (k : Puid) (n : ℕ) (others : (id : Puid) → same_puid id k ≡ false → f id ≤ h id) (here : f k ≤ h k + n) where
  -- those below all that follow are others
  above_others : (ids : List Puid) → list_all (λ y. is_lt (puid_cmp k y)) ids ≡ true → sum_by f ids ≤ sum_by h ids
  above_others [] all = omega arith
  above_others (y ∷ ys) all =
      let two = and_parts (is_lt (puid_cmp k y)) (list_all (λ z. is_lt (puid_cmp k z)) ys) all in
      omega (arith, others y (other y two.0), above_others ys two.1, sum_by-cons f y ys, sum_by-cons h y ys)
    where
      other : (y : Puid) → is_lt (puid_cmp k y) ≡ true → same_puid y k ≡ false
      other y less = elim (same_puid y k) as (λ b. same_puid y k ≡ b → b ≡ false) [
        | true ↦ λ same. (let loop : is_lt (puid_cmp k k) ≡ true = subst (λ (z : Puid). is_lt (puid_cmp k z) ≡ true) (same_puid_is y k same) less in
            let equal : is_eq (puid_cmp k k) ≡ true = same_puid_itself k in absurd (both (puid_cmp k k) loop equal))
        | false ↦ λ other. refl
      ] refl
        where
          both : (r : _) → is_lt r ≡ true → is_eq r ≡ true → ⊥
          both Less less equal = cc
          both Equal less equal = cc
          both Greater less equal = cc

  pub one_differs : (ids : List Puid) → rises ids ≡ true → sum_by f ids ≤ sum_by h ids + n
  one_differs [] up = omega arith
  one_differs (y ∷ ys) up =
      let two = and_parts (list_all (λ z. is_lt (puid_cmp y z)) ys) (rises ys) up in
      elim (same_puid y k) as (λ b. same_puid y k ≡ b → sum_by f (y ∷ ys) ≤ sum_by h (y ∷ ys) + n) [
        | true ↦ λ same.
            let is = same_puid_is y k same in
            let first : f y ≤ h y + n = subst (λ (z : Puid). f z ≤ h z + n) (sym is) here in
            let rest : sum_by f ys ≤ sum_by h ys = above_others ys (subst (λ (z : Puid). list_all (λ w. is_lt (puid_cmp z w)) ys ≡ true) is two.0) in
            omega (arith, first, rest, sum_by-cons f y ys, sum_by-cons h y ys)
        | false ↦ λ other. omega (arith, others y other, one_differs ys two.1, sum_by-cons f y ys, sum_by-cons h y ys)
      ] refl

-- an object that is replaced keeps its identifier
keys_kept : (p : Puid → Bool) (es : List (Puid × Object)) (o : Object) → keys_of (set_value p es o) ≡ keys_of es
keys_kept p [] o = refl
keys_kept p (e ∷ es) o = elim (p e.0) as (λ t. keys_of (cond t ((e.0, o) ∷ es) (e ∷ set_value p es o)) ≡ keys_of (e ∷ es)) [ true ↦ refl | false ↦ ap (λ (ids : List Puid). e.0 ∷ ids) (keys_kept p es o) ]

ids_kept : (g : Graph) (k : Puid) (old o : Object) → rises (ids_of g) ≡ true → object_at g k ≡ Some old → ids_of (with_object g k o) ≡ ids_of g
ids_kept g k old o up at = ap keys_of (insert_entry-there k g.objects old o (sorted_from_rises (ids_of g) up) at) ∙ keys_kept (is_at (puid_cmp k)) g.objects o

ids_more : (f : Puid → ℕ) (k : Puid) (o : Object) (es : List (Puid × Object)) → sum_by f (keys_of (insert_entry puid_cmp es k o)) ≤ sum_by f (keys_of es) + f k
ids_more f k o [] = omega (arith, sum_by-cons f k [])
ids_more f k o (e ∷ es) = elim (puid_cmp k e.0) as (λ r. sum_by f (keys_of (match_ordering r ((k, o) ∷ e ∷ es) ((e.0, o) ∷ es) (e ∷ insert_entry puid_cmp es k o))) ≤ sum_by f (e.0 ∷ keys_of es) + f k) [
  | Less ↦ omega (arith, sum_by-cons f k (e.0 ∷ keys_of es))
  | Equal ↦ omega arith
  | Greater ↦ omega (arith, sum_by-cons f e.0 (keys_of es), sum_by-cons f e.0 (keys_of (insert_entry puid_cmp es k o)), ids_more f k o es)
]

-- ---- what happens meanwhile

abbrev pub at_of : Option Object → Option Object → Option ℕ → ℕ
at_of draft own k = unread_of (is_some draft) k (drafted_leaves draft own)

-- where nothing is held nothing is to be read
pub nothing_left : (r : Option ℕ) → unread_of false r [] ≡ 0
nothing_left None = refl
nothing_left (Some cursor) = let zero_is : (b : Bool) → ◌≡◌ {A = ℕ} (cond b 0 0) 0 = λ b. elim b as (λ t. ◌≡◌ {A = ℕ} (cond t 0 0) 0) [ true ↦ refl | false ↦ refl ] in zero_is (nat_lt cursor own_part)

pub unread_least : (r : Option ℕ) (own : Option Object) → unread_of false r [] ≤ at_of None own r
unread_least r own = let none = nothing_left r in omega (arith, none)

module _ (s t : State) (n : ℕ) where
  -- one object or its draft changed
  pub unread_one : rises (ids_of s.graph) ≡ true → (k : Puid) → ids_of t.graph ≡ ids_of s.graph → ((id : Puid) (r : Option ℕ) → same_puid id k ≡ false → at_of (draft_at t.grants id) (object_at t.graph id) r ≤ at_of (draft_at s.grants id) (object_at s.graph id) r)
      → ((r : Option ℕ) → at_of (draft_at t.grants k) (object_at t.graph k) r ≤ at_of (draft_at s.grants k) (object_at s.graph k) r + n) → (c : Colours) → unread t c ≤ unread s c + n
  unread_one up k ids others here c =
      subst (λ (l : List Puid). sum_by (unread_at t c) l ≤ unread s c + n) (sym ids)
      (one_differs (unread_at t c) (unread_at s c) k n (λ id other. others id (reading_at c id) other) (here (reading_at c k)) (ids_of s.graph) up)

  -- no object or draft changed, but that an object was made
  pub unread_all : ((c : Colours) → unread t c ≤ sum_by (unread_at t c) (ids_of s.graph)) → ((id : Puid) (r : Option ℕ) → at_of (draft_at t.grants id) (object_at t.graph id) r ≤ at_of (draft_at s.grants id) (object_at s.graph id) r) → (c : Colours) → unread t c ≤ unread s c + n
  unread_all ids each c = omega (arith, ids c, sum_more (unread_at t c) (unread_at s c) (λ id. each id (reading_at c id)) (ids_of s.graph))

-- where drafts end, without what they hold more
pub unread_shed : (s t : State) → IsWell s → (i : Puid) → ((o : Object) → draft_at t.grants i ≡ Some o → draft_at s.grants i ≡ Some o) → (r : Option ℕ)
    → at_of (draft_at t.grants i) (object_at s.graph i) r ≤ at_of (draft_at s.grants i) (object_at s.graph i) r
unread_shed s t well i drafts r = which (draft_at t.grants i) refl (draft_at s.grants i) refl
  where
    which : (dt : Option Object) → draft_at t.grants i ≡ dt → (ds : Option Object) → draft_at s.grants i ≡ ds → at_of dt (object_at s.graph i) r ≤ at_of ds (object_at s.graph i) r
    which (Some o) now ds was = let same : ds ≡ Some o = sym was ∙ drafts o now in subst (λ (d : Option Object). at_of (Some o) (object_at s.graph i) r ≤ at_of d (object_at s.graph i) r) (sym same) (omega arith)
    which None now None was = omega arith
    which None now (Some d) was = own (object_at s.graph i) refl d was
      where
        own : (o : Option Object) → object_at s.graph i ≡ o → (d : Object) → draft_at s.grants i ≡ Some d → at_of None o r ≤ at_of (Some d) o r
        own None there d was = unread_within r [] (index_leaves d) true (λ f. omega arith)
        own (Some (objects.File f)) there d was = unread_within r [] (index_leaves d) true (λ f. omega arith)
        own (Some (objects.Index j)) there (objects.File f) was = absurd (no_file f.kind (sym (sym (ap kind_standing there) ∙ well.kinds i (objects.File f) was)))
        own (Some (objects.Index j)) there (objects.Index d) was = unread_within r j.held d.held true (λ f. within_sum f j.held d.held (well.rising i j there) (well.draft_rising i d was) (well.holds i j d there was))

-- a draft that becomes its object
pub unread_committed : (d : Object) (draft : Option Object) → ((o : Object) → draft ≡ Some o → o ≡ d) → (own : Option Object) (r : Option ℕ) → at_of draft (Some d) r ≤ at_of (Some d) own r
unread_committed d None is own r = unread_within r (index_leaves d) (index_leaves d) true (λ f. omega arith)
unread_committed d (Some o) is own r = subst (λ (x : Object). at_of (Some x) (Some d) r ≤ at_of (Some d) own r) (sym (is o refl)) (omega arith)

-- a draft that begins
pub unread_opened : (draft : Option Object) (own : Option Object) → ((o : Object) → draft ≡ Some o → own ≡ Some o) → (r : Option ℕ) → at_of draft own r ≤ at_of None own r + 1
unread_opened None own is r = omega arith
unread_opened (Some o) own is r = subst (λ (x : Option Object). at_of (Some o) x r ≤ at_of None x r + 1) (sym (is o refl)) (unread_begun r true (index_leaves o))

pub ids_same : (s t : State) (k : Puid) (old o : Object) → rises (ids_of s.graph) ≡ true → object_at s.graph k ≡ Some old → t.graph ≡ with_object s.graph k o → ids_of t.graph ≡ ids_of s.graph
ids_same s t k old o up at is = ap ids_of is ∙ ids_kept s.graph k old o up at

-- an object that is made holds nothing
pub unread_made : (s t : State) (k : Puid) (o : Object) → t.graph ≡ with_object s.graph k o → index_leaves o ≡ [] → draft_at t.grants k ≡ None → (c : Colours) → unread t c ≤ sum_by (unread_at t c) (ids_of s.graph)
unread_made s t k o is empty none c =
    let more : unread t c ≤ sum_by (unread_at t c) (ids_of s.graph) + unread_at t c k = subst (λ (g : Graph). sum_by (unread_at t c) (ids_of g) ≤ sum_by (unread_at t c) (ids_of s.graph) + unread_at t c k) (sym is) (ids_more (unread_at t c) k o s.graph.objects) in
    let there : object_at t.graph k ≡ Some o = ap (λ (g : Graph). object_at g k) is ∙ object_at-with_object s.graph k o k ∙ rw (same_puid_itself k) refl in
    let bare : unread_at t c k ≡ unread_of false (reading_at c k) [] = rw (none, there, empty) refl in
    let none = nothing_left (reading_at c k) in omega (arith, more, bare, none)
