-- What a graph has at an identifier, after a change too, and what refers to what in it.
use Rattle.std.proofs.Common.{◌≡◌, List, [], ◌∷◌, length, refl, sym, ◌∙◌, ap, subst, Bool, true, false, cond, not, ◌&&◌, ◌||◌, Option, Some, None, map}
use Rattle.ufs_model.proofs.Words.{AllByRecursion, Equal, Graph, Greater, Less, Object, Ordering, Puid, and_from, and_parts, filter, flat_map, graph_pairs, has_pair, ids_of, insert_entry, is_among, is_at, is_lt, is_some, is_some-lookup, is_there, keys_of, length-map, list_all, list_any-append, lookup, lookup-filter-keys, match_ordering, none-some, object_at, ordering_reverse, puid_cmp, referred, rises, same_Some, same_puid, with_object, without}
use Rattle.std.specs.List.Sorted.{IsStrictlySortedBy}
use Rattle.ufs_model.proofs.Entries.{puid_total, lookup-insert_entry, lookup-insert_same}
use Rattle.ufs_model.proofs.Tests.{all_filter}
use Rattle.ufs_model.proofs.Reached.{exact_puid, same_puid_is, same_puid_itself}

-- ---- what stands at an identifier

abbrev pub found : Puid → List (Puid × Object) → Option Object
found x es = lookup (is_at (puid_cmp x)) es

-- what is put somewhere stands there, and nowhere else
pub object_at-with_object : (g : Graph) (id : Puid) (o : Object) (x : Puid) → object_at (with_object g id o) x ≡ cond (same_puid x id) (Some o) (object_at g x)
object_at-with_object g id o x =
    elim (same_puid x id) as (λ b. same_puid x id ≡ b → object_at (with_object g id o) x ≡ cond b (Some o) (object_at g x)) [
      | true ↦ λ same. rw (same_puid_is x id same) (lookup-insert_same id g.objects o)
      | false ↦ λ other. lookup-insert_entry x id g.objects o other
    ] refl

-- of the entries that pass a test of identifiers, those that fail it are gone
pub found-filter : (M : Puid → Bool) (es : List (Puid × Object)) (x : Puid) → found x (filter (λ e. M e.0) es) ≡ cond (M x) (found x es) None
found-filter M es x = lookup-filter-keys (is_at (puid_cmp x)) M (M x) (λ k h. ap M (sym (same_puid_is x k h))) es

-- of what is taken nothing stays, and all else stays
pub object_at-without : (g : Graph) (ids : List Puid) (x : Puid) → object_at (without g ids) x ≡ cond (not (is_among x ids)) (object_at g x) None
object_at-without g ids x = found-filter (λ k. not (is_among k ids)) g.objects x

-- an object stands at each identifier of the graph, and nowhere else
pub is_there-ids : (g : Graph) (x : Puid) → is_there g x ≡ is_among x (ids_of g)
is_there-ids g x = is_some-lookup (is_at (puid_cmp x)) g.objects

pub there_from : (g : Graph) (x : Puid) (o : Object) → object_at g x ≡ Some o → is_there g x ≡ true
there_from g x o h = ap is_some h

pub object_there : (g : Graph) (x : Puid) → is_there g x ≡ true → (o : Object) × (object_at g x ≡ Some o)
object_there g x h = at (object_at g x) refl h
  where
    at : (here : Option Object) → object_at g x ≡ here → is_some here ≡ true → (o : Object) × (object_at g x ≡ Some o)
    at None is there = cc
    at (Some o) is there = (o, is)

pub ids-count : (g : Graph) → length (ids_of g) ≡ length g.objects
ids-count g = length-map g.objects (λ (e : Puid × Object). e.0)

-- ---- rising identifiers

less_only : (r : Ordering) → is_lt r ≡ true → r ≡ Less
less_only Less h = refl
less_only Equal h = cc
less_only Greater h = cc

abbrev below : Puid → List Puid → Bool
below k ids = list_all (λ y. is_lt (puid_cmp k y)) ids

pub sorted_from_rises : (ids : List Puid) → rises ids ≡ true → IsStrictlySortedBy puid_cmp ids
unfolding IsStrictlySortedBy
sorted_from_rises [] up = tt
sorted_from_rises (x ∷ ids) up = let two = and_parts (below x ids) (rises ids) up in (each ids two.0, sorted_from_rises ids two.1)
  where
    each : (ys : List Puid) → below x ys ≡ true → AllByRecursion (λ y. puid_cmp x y ≡ Less) ys
    each [] h = tt
    each (y ∷ ys) h = let two = and_parts (is_lt (puid_cmp x y)) (below x ys) h in (less_only (puid_cmp x y) two.0, each ys two.1)

pub rises-filter : (M : Puid → Bool) (ids : List Puid) → rises ids ≡ true → rises (filter M ids) ≡ true
rises-filter M [] up = refl
rises-filter M (x ∷ ids) up =
    let two = and_parts (below x ids) (rises ids) up in
    elim (M x) as (λ b. rises (cond b (x ∷ filter M ids) (filter M ids)) ≡ true) [
      | true ↦ and_from _ (rises (filter M ids)) (all_filter (λ y. is_lt (puid_cmp x y)) M ids two.0) (rises-filter M ids two.1)
      | false ↦ rises-filter M ids two.1
    ]

pub keys_of-filter : (M : Puid → Bool) (es : List (Puid × Object)) → keys_of (filter (λ e. M e.0) es) ≡ filter M (keys_of es)
keys_of-filter M [] = refl
keys_of-filter M (e ∷ es) =
    elim (M e.0) as (λ b. keys_of (cond b (e ∷ filter (λ d. M d.0) es) (filter (λ d. M d.0) es)) ≡ cond b (e.0 ∷ filter M (keys_of es)) (filter M (keys_of es))) [
      | true ↦ ap (λ ks. e.0 ∷ ks) (keys_of-filter M es)
      | false ↦ keys_of-filter M es
    ]

-- the entries that pass a test of identifiers rise too
pub rises-entries : (M : Puid → Bool) (es : List (Puid × Object)) → rises (keys_of es) ≡ true → rises (keys_of (filter (λ e. M e.0) es)) ≡ true
rises-entries M es up = rw (keys_of-filter M es) (rises-filter M (keys_of es) up)

-- nothing stands at what is below all
none_below : (k : Puid) (es : List (Puid × Object)) → below k (keys_of es) ≡ true → found k es ≡ None
none_below k [] h = refl
none_below k (e ∷ es) h =
    let two = and_parts (is_lt (puid_cmp k e.0)) (below k (keys_of es)) h in
    rw (less_only (puid_cmp k e.0) two.0) (none_below k es two.1)

below_lower : (k d : Puid) (ids : List Puid) → puid_cmp k d ≡ Less → below d ids ≡ true → below k ids ≡ true
below_lower k d [] less h = refl
below_lower k d (y ∷ ys) less h =
    let two = and_parts (is_lt (puid_cmp d y)) (below d ys) h in
    and_from (is_lt (puid_cmp k y)) (below k ys) (ap is_lt (puid_total.trans k d y less (less_only (puid_cmp d y) two.0))) (below_lower k d ys less two.1)

-- ---- one more at its place

below_with : (d k : Puid) (o : Object) (es : List (Puid × Object)) → puid_cmp d k ≡ Less → below d (keys_of es) ≡ true → below d (keys_of (insert_entry puid_cmp es k o)) ≡ true
below_with d k o [] less up = rw less refl
below_with d k o (e ∷ es) less up =
    let two = and_parts (is_lt (puid_cmp d e.0)) (below d (keys_of es)) up in
    elim (puid_cmp k e.0) as (λ r. below d (keys_of (match_ordering r ((k, o) ∷ e ∷ es) ((e.0, o) ∷ es) (e ∷ insert_entry puid_cmp es k o))) ≡ true) [
      | Less ↦ and_from (is_lt (puid_cmp d k)) (below d (keys_of (e ∷ es))) (ap is_lt less) up
      | Equal ↦ up
      | Greater ↦ and_from (is_lt (puid_cmp d e.0)) (below d (keys_of (insert_entry puid_cmp es k o))) two.0 (below_with d k o es less two.1)
    ]

rises-insert : (k : Puid) (o : Object) (es : List (Puid × Object)) → rises (keys_of es) ≡ true → rises (keys_of (insert_entry puid_cmp es k o)) ≡ true
rises-insert k o [] up = refl
rises-insert k o (e ∷ es) up =
    let two = and_parts (below e.0 (keys_of es)) (rises (keys_of es)) up in
    elim (puid_cmp k e.0) as (λ r. puid_cmp k e.0 ≡ r → rises (keys_of (match_ordering r ((k, o) ∷ e ∷ es) ((e.0, o) ∷ es) (e ∷ insert_entry puid_cmp es k o))) ≡ true) [
      | Less ↦ λ is. and_from (below k (keys_of (e ∷ es))) (rises (keys_of (e ∷ es))) (and_from (is_lt (puid_cmp k e.0)) (below k (keys_of es)) (ap is_lt is) (below_lower k e.0 (keys_of es) is two.0)) up
      | Equal ↦ λ is. up
      | Greater ↦ λ is. and_from (below e.0 (keys_of (insert_entry puid_cmp es k o))) (rises (keys_of (insert_entry puid_cmp es k o)))
          (below_with e.0 k o es (puid_total.antisymm e.0 k ∙ ap ordering_reverse is) two.0) (rises-insert k o es two.1)
    ] refl

-- with an object more or another, the identifiers rise
pub rises-with_object : (g : Graph) (id : Puid) (o : Object) → rises (ids_of g) ≡ true → rises (ids_of (with_object g id o)) ≡ true
rises-with_object g id o up = rises-insert id o g.objects up

-- and without some of its objects
pub rises-without : (g : Graph) (ids : List Puid) → rises (ids_of g) ≡ true → rises (ids_of (without g ids)) ≡ true
rises-without g ids up = rises-entries (λ k. not (is_among k ids)) g.objects up

-- ---- lists of rising identifiers with the same look-ups are one

found_head : (e : Puid × Object) (es : List (Puid × Object)) → found e.0 (e ∷ es) ≡ Some e.1
found_head e es = rw (same_puid_itself e.0) refl

none_at_lower : (k : Puid) (f : Puid × Object) (fs : List (Puid × Object)) → puid_cmp k f.0 ≡ Less → rises (keys_of (f ∷ fs)) ≡ true → found k (f ∷ fs) ≡ None
none_at_lower k f fs less up =
    let two = and_parts (below f.0 (keys_of fs)) (rises (keys_of fs)) up in
    none_below k (f ∷ fs) (and_from (is_lt (puid_cmp k f.0)) (below k (keys_of fs)) (ap is_lt less) (below_lower k f.0 (keys_of fs) less two.0))

same_head : (e f : Puid × Object) (es fs : List (Puid × Object)) → rises (keys_of (e ∷ es)) ≡ true → rises (keys_of (f ∷ fs)) ≡ true
    → ((x : Puid) → found x (e ∷ es) ≡ found x (f ∷ fs)) → e.0 ≡ f.0
same_head e f es fs up down same =
    elim (puid_cmp e.0 f.0) as (λ r. puid_cmp e.0 f.0 ≡ r → e.0 ≡ f.0) [
      | Less ↦ λ is. absurd (none-some e.1 (sym (none_at_lower e.0 f fs is down) ∙ sym (same e.0) ∙ found_head e es))
      | Equal ↦ λ is. exact_puid e.0 f.0 is
      | Greater ↦ λ is. absurd (none-some f.1 (sym (none_at_lower f.0 e es (puid_total.antisymm f.0 e.0 ∙ ap ordering_reverse is) up) ∙ same f.0 ∙ found_head f fs))
    ] refl

same_tail : (k : Puid) (o p : Object) (es fs : List (Puid × Object)) → below k (keys_of es) ≡ true → below k (keys_of fs) ≡ true → (x : Puid)
    → cond (same_puid x k) (Some o) (found x es) ≡ cond (same_puid x k) (Some p) (found x fs) → found x es ≡ found x fs
same_tail k o p es fs up down x h =
    elim (same_puid x k) as (λ b. same_puid x k ≡ b → cond b (Some o) (found x es) ≡ cond b (Some p) (found x fs) → found x es ≡ found x fs) [
      | true ↦ λ is _. rw (same_puid_is x k is) (none_below k es up ∙ sym (none_below k fs down))
      | false ↦ λ is q. q
    ] refl h

pub same_entries : (es fs : List (Puid × Object)) → rises (keys_of es) ≡ true → rises (keys_of fs) ≡ true → ((x : Puid) → found x es ≡ found x fs) → es ≡ fs
same_entries [] [] up down same = refl
same_entries [] (f ∷ fs) up down same = absurd (none-some f.1 (same f.0 ∙ found_head f fs))
same_entries (e ∷ es) [] up down same = absurd (none-some e.1 (sym (same e.0) ∙ found_head e es))
same_entries (e ∷ es) (f ∷ fs) up down same =
    let head = same_head e f es fs up down same in
    let ups = and_parts (below e.0 (keys_of es)) (rises (keys_of es)) up in
    let downs = and_parts (below f.0 (keys_of fs)) (rises (keys_of fs)) down in
    let value : e.1 ≡ f.1 = same_Some _ _ (sym (found_head e es) ∙ same e.0 ∙ ap (λ k. found k (f ∷ fs)) head ∙ found_head f fs) in
    let tail : es ≡ fs = same_entries es fs ups.1 downs.1 (λ x. same_tail e.0 e.1 f.1 es fs ups.0 (rw head downs.0) x
    (subst (λ (k : Puid). found x (e ∷ es) ≡ cond (same_puid x k) (Some f.1) (found x fs)) (sym head) (same x))) in
    λ i. (head i, value i) ∷ tail i

-- ---- what refers to what

abbrev pub refers : Option Object → Puid → Bool
refers None x = false
refers (Some o) x = is_among x (referred o)

abbrev entry_pairs : Puid → Object → List (Puid × Puid)
entry_pairs j o = map (λ y. (j, y)) (referred o)

abbrev all_pairs : List (Puid × Object) → List (Puid × Puid)
all_pairs es = flat_map (λ e. entry_pairs e.0 e.1) es

and_none : (s : Bool) → false ≡ (s && false)
and_none true = refl
and_none false = refl

and_either : (s t u : Bool) → ((s && t) || (s && u)) ≡ (s && (t || u))
and_either true t u = refl
and_either false t u = refl

or_none : (s : Bool) → (s || false) ≡ s
or_none true = refl
or_none false = refl

pub pairs_of_one : (i x j : Puid) (ids : List Puid) → has_pair (map (λ y. (j, y)) ids) i x ≡ (same_puid i j && is_among x ids)
pairs_of_one i x j [] = and_none (same_puid i j)
pairs_of_one i x j (y ∷ ys) = ap (λ r. (same_puid i j && same_puid x y) || r) (pairs_of_one i x j ys) ∙ and_either (same_puid i j) (same_puid x y) (is_among x ys)

pairs_head : (i x : Puid) (e : Puid × Object) (es : List (Puid × Object)) → has_pair (all_pairs (e ∷ es)) i x ≡ ((same_puid i e.0 && is_among x (referred e.1)) || has_pair (all_pairs es) i x)
pairs_head i x e es =
    list_any-append (λ (p : Puid × Puid). same_puid i p.0 && same_puid x p.1) (entry_pairs e.0 e.1) (all_pairs es)
    ∙ ap (λ r. r || has_pair (all_pairs es) i x) (pairs_of_one i x e.0 (referred e.1))

-- a pair of a graph comes from an index that stands there and refers to the other, and conversely
entry_refers : (es : List (Puid × Object)) → rises (keys_of es) ≡ true → (i x : Puid) → has_pair (all_pairs es) i x ≡ refers (found i es) x
entry_refers [] up i x = refl
entry_refers (e ∷ es) up i x =
    let two = and_parts (below e.0 (keys_of es)) (rises (keys_of es)) up in
    let rest = entry_refers es two.1 i x in
    pairs_head i x e es ∙ elim (same_puid i e.0) as (λ b. same_puid i e.0 ≡ b → ((b && is_among x (referred e.1)) || has_pair (all_pairs es) i x) ≡ refers (cond b (Some e.1) (found i es)) x) [
      | true ↦ λ is. let none : found i es ≡ None = rw (same_puid_is i e.0 is) (none_below e.0 es two.0) in
          ap (λ r. is_among x (referred e.1) || r) (rest ∙ ap (λ o. refers o x) none) ∙ or_none (is_among x (referred e.1))
      | false ↦ λ is. rest
    ] refl

pub has_pair-refers : (g : Graph) → rises (ids_of g) ≡ true → (i x : Puid) → has_pair (graph_pairs g) i x ≡ refers (object_at g i) x
has_pair-refers g up i x = entry_refers g.objects up i x

pub pair_from_index : (g : Graph) (i x : Puid) → rises (ids_of g) ≡ true → has_pair (graph_pairs g) i x ≡ true → (o : Object) × (object_at g i ≡ Some o) × (is_among x (referred o) ≡ true)
pair_from_index g i x up h = at (object_at g i) refl (sym (has_pair-refers g up i x) ∙ h)
  where
    at : (here : Option Object) → object_at g i ≡ here → refers here x ≡ true → (o : Object) × (object_at g i ≡ Some o) × (is_among x (referred o) ≡ true)
    at None is there = cc
    at (Some o) is there = (o, is, there)

pub index_has_pair : (g : Graph) (i x : Puid) (o : Object) → rises (ids_of g) ≡ true → object_at g i ≡ Some o → is_among x (referred o) ≡ true → has_pair (graph_pairs g) i x ≡ true
index_has_pair g i x o up is h = has_pair-refers g up i x ∙ ap (λ here. refers here x) is ∙ h
