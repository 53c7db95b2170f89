-- The objects of a graph, each found by its identifier: their root blocks differ, and what is summed over them.
use Rattle.std.proofs.Common.{◌≡◌, ◌≢◌, inl, inr, ℕ, ◌+◌, List, [], ◌∷◌, ◌++◌, length, length-append, Bool, true, false, cond, ◌&&◌, ◌||◌, Option, Some, None, refl, sym, ◌∙◌, ap, subst, arith, ◌==◌}
use Rattle.vol_owners.proofs.Words.{BlockState, Drafts, Equal, Graph, Greater, Holds, Image, IsMadeBy, Less, Object, Ordering, Puid, and_parts, both_ways, created_if, entry_in, eq-eqb, eqb-true, false_from_ne_true, found, has_block, has_number, here, ids_of, is_among, is_eq, is_lt, is_placed, is_there-ids, keys_of, list_all, list_any, object_at, object_at-with_object, one_of, option_to_list, or_cases, or_left, or_right, owner_of, puid_cmp, range_with_len, rises, same_Some, same_block, same_puid, same_puid_is, same_puid_itself, sum_by, sum_by-cons, there_from, with_object}
use Rattle.vol_owners.proofs.Differ.{Differ, append_differ, has-append}
use Rattle.vol_owners.proofs.Sums.{count_in, run_zeros, sum_both, sum_each}
use Rattle.vol_owners.proofs.Owned.{count_of}

-- ---- rising identifiers

abbrev below : Puid → List Puid → Bool
below k ids = list_all (λ y. is_lt (puid_cmp k y)) ids

less_is_other : (k x : Puid) → is_lt (puid_cmp k x) ≡ true → k ≢ x
less_is_other k x less same = at (puid_cmp k k) (subst (λ (y : Puid). is_lt (puid_cmp k y) ≡ true) (sym same) less) (same_puid_itself k)
  where
    at : (r : Ordering) → is_lt r ≡ true → is_eq r ≡ true → ⊥
    at Less lt eq = cc
    at Equal lt eq = cc
    at Greater lt eq = cc

apart_above : (k x : Puid) → is_lt (puid_cmp k x) ≡ true → same_puid x k ≡ false
apart_above k x less = false_from_ne_true _ (λ same. less_is_other k x less (sym (same_puid_is x k same)))

none_among : (k : Puid) (ids : List Puid) → below k ids ≡ true → is_among k ids ≡ false
none_among k [] low = refl
none_among k (x ∷ ids) low =
    let two = and_parts _ _ low in
    let apart : same_puid k x ≡ false = false_from_ne_true _ (λ same. less_is_other k x two.0 (same_puid_is k x same)) in
    rw (apart, none_among k ids two.1) refl

-- ---- each entry is found

abbrev EachFound : List (Puid × Object) → List (Puid × Object) → Type 0
EachFound all [] = Unit {0}
EachFound all (d ∷ ds) = (found d.0 all ≡ Some d.1) × EachFound all ds

each_found : (es : List (Puid × Object)) → rises (keys_of es) ≡ true → EachFound es es
each_found [] up = tt
each_found (e ∷ es) up =
    let two = and_parts _ _ up in
    (ap (λ (b : Bool). cond b (Some e.1) (found e.0 es)) (same_puid_itself e.0), still es two.0 (each_found es two.1))
  where
    still : (ds : List (Puid × Object)) → below e.0 (keys_of ds) ≡ true → EachFound es ds → EachFound (e ∷ es) ds
    still [] low h = tt
    still (d ∷ ds) low h =
        let two = and_parts _ _ low in
        (ap (λ (b : Bool). cond b (Some e.1) (found d.0 es)) (apart_above e.0 d.0 two.0) ∙ h.0, still ds two.1 h.1)

-- ---- root blocks

module _ (g : Graph) (up : rises (ids_of g) ≡ true) where
  -- of a root block of the graph there is the object
  pub object_of_block : (r : ℕ) → has_block g.objects r ≡ true → (id : Puid) × (o : Object) × (object_at g id ≡ Some o) × (id.block ≡ r)
  object_of_block r h = at g.objects (each_found g.objects up) h
    where
      at : (es : List (Puid × Object)) → EachFound g.objects es → has_block es r ≡ true → (id : Puid) × (o : Object) × (object_at g id ≡ Some o) × (id.block ≡ r)
      at [] f q = cc
      at (e ∷ es) f q = elim (or_cases (e.0.block == r) (has_block es r) q) [
        | inl here ↦ (e.0, e.1, f.0, eqb-true e.0.block r here)
        | inr rest ↦ at es f.1 rest
      ]

  -- sums over all objects
  pub sum_objects : (f k : Puid × Object → ℕ) → ((x : Puid) (o : Object) → object_at g x ≡ Some o → f (x, o) ≡ k (x, o)) → sum_by f g.objects ≡ sum_by k g.objects
  sum_objects f k same = at g.objects (each_found g.objects up)
    where
      at : (es : List (Puid × Object)) → EachFound g.objects es → sum_by f es ≡ sum_by k es
      at [] h = refl
      at (e ∷ es) h = omega (arith, sum_by-cons f e es, sum_by-cons k e es, same e.0 e.1 h.0, at es h.1)

abbrev BlocksApart : List (Puid × Object) → Type 0
BlocksApart [] = Unit {0}
BlocksApart (e ∷ es) = (has_block es e.0.block ≡ false) × BlocksApart es

-- objects that an image holds have different root blocks
blocks_apart : (image : Image) (g : Graph) → Holds image g → rises (ids_of g) ≡ true → BlocksApart g.objects
blocks_apart image g holds up = at g.objects up (each_found g.objects up)
  where
    at : (es : List (Puid × Object)) → rises (keys_of es) ≡ true → EachFound g.objects es → BlocksApart es
    at [] rise f = tt
    at (e ∷ es) rise f =
        let two = and_parts _ _ rise in
        (false_from_ne_true _ (other es two.0 f.1), at es two.1 f.1)
      where
        other : (ds : List (Puid × Object)) → below e.0 (keys_of ds) ≡ true → EachFound g.objects ds → has_block ds e.0.block ≡ true → ⊥
        other [] low h has = cc
        other (d ∷ ds) low h has =
            let two = and_parts _ _ low in
            elim (or_cases _ _ has) [
              | inl is ↦ less_is_other e.0 d.0 two.0 (sym (same_block image (length image) d.0 e.0 d.1 e.1 (holds.objects d.0 d.1 h.0) (holds.objects e.0 e.1 f.0) (eqb-true d.0.block e.0.block is)))
              | inr rest ↦ other ds two.1 h.1 rest
            ]

-- an object's root block is one of the graph's
pub block_there : (g : Graph) (x : Puid) (o : Object) → object_at g x ≡ Some o → has_block g.objects x.block ≡ true
block_there g x o at = among (ids_of g) (sym (is_there-ids g x) ∙ there_from g x o at)
  where
    among : (ids : List Puid) → is_among x ids ≡ true → list_any (λ id. id.block == x.block) ids ≡ true
    among [] h = h
    among (y ∷ ids) h = elim (or_cases (same_puid x y) (is_among x ids) h) [
      | inl same ↦ or_left _ _ (eq-eqb y.block x.block (ap (λ (p : Puid). p.block) (sym (same_puid_is x y same))))
      | inr rest ↦ or_right _ _ (among ids rest)
    ]

-- ---- one object put

pub object_at_put : (g : Graph) (id : Puid) (o : Object) → object_at (with_object g id o) id ≡ Some o
object_at_put g id o = object_at-with_object g id o id ∙ ap (λ (t : Bool). cond t (Some o) (object_at g id)) (same_puid_itself id)

-- what holds of it, and of all others as they were
pub each_put : (g : Graph) (id : Puid) (o : Object) (P : Puid → Object → Type 0) → P id o → ((x : Puid) (p : Object) → object_at g x ≡ Some p → same_puid x id ≡ false → P x p) → (x : Puid) (p : Object) → object_at (with_object g id o) x ≡ Some p → P x p
each_put g id o P here other x p found = elim (same_puid x id) as (λ t. same_puid x id ≡ t → cond t (Some o) (object_at g x) ≡ Some p → P x p) [
  | true ↦ λ is h. subst (λ (q : Object). P x q) (same_Some _ _ h) (subst (λ (y : Puid). P y o) (sym (same_puid_is x id is)) here)
  | false ↦ λ apart there. other x p there apart
] refl (sym (object_at-with_object g id o x) ∙ found)

-- ---- blocks of all objects

abbrev owned_of : (ℕ → Bool) → Image → List (Puid × Object) → ℕ → Bool
owned_of P image es n = P n && has_block es (owner_of (entry_in image n))

-- of the blocks that pass a test those with this owner
abbrev pub count_owned : (ℕ → Bool) → Image → ℕ → ℕ
count_owned P image r = count_in (λ n. P n && (r == owner_of (entry_in image n))) 0 (length image)

-- the blocks with an owner in a graph that pass a test, object by object
pub owned_sum_by : (P : ℕ → Bool) (image : Image) (g : Graph) → Holds image g → rises (ids_of g) ≡ true
    → count_in (λ n. P n && has_block g.objects (owner_of (entry_in image n))) 0 (length image) ≡ sum_by (λ e. count_owned P image e.0.block) g.objects
owned_sum_by P image g holds up = at g.objects (blocks_apart image g holds up)
  where
    one_or : (p b c : Bool) → (b ≡ true → c ≡ false) → one_of (p && (b || c)) ≡ one_of (p && b) + one_of (p && c)
    one_or false b c apart = refl
    one_or true false c apart = omega arith
    one_or true true c apart = rw (apart refl) refl

    at : (es : List (Puid × Object)) → BlocksApart es → count_in (owned_of P image es) 0 (length image) ≡ sum_by (λ e. count_owned P image e.0.block) es
    at [] apart = run_zeros (λ n. one_of (owned_of P image [] n)) 0 (length image) (λ n. none (P n))
      where
        none : (p : Bool) → one_of (p && false) ≡ 0
        none true = refl
        none false = refl
    at (e ∷ es) apart =
        let split : count_in (owned_of P image (e ∷ es)) 0 (length image) ≡ count_owned P image e.0.block + count_in (owned_of P image es) 0 (length image) =
        sum_each (λ n. one_of (owned_of P image (e ∷ es) n)) (λ n. one_of (P n && (e.0.block == owner_of (entry_in image n))) + one_of (owned_of P image es n)) (range_with_len 0 (length image))
        (λ n. one_or (P n) (e.0.block == owner_of (entry_in image n)) (has_block es (owner_of (entry_in image n)))
        (λ is. subst (λ (b : ℕ). has_block es b ≡ false) (eqb-true e.0.block (owner_of (entry_in image n)) is) apart.0))
        ∙ sum_both (λ n. one_of (P n && (e.0.block == owner_of (entry_in image n)))) (λ n. one_of (owned_of P image es n)) (range_with_len 0 (length image)) in
        omega (arith, split, at es apart.1, sum_by-cons (λ (x : Puid × Object). count_owned P image x.0.block) e es)

-- the same of those in some state
pub owned_sum : (test : BlockState → Bool) (image : Image) (g : Graph) → Holds image g → rises (ids_of g) ≡ true
    → count_in (λ n. is_placed test (entry_in image n) && has_block g.objects (owner_of (entry_in image n))) 0 (length image) ≡ sum_by (λ e. count_of test image e.0.block) g.objects
owned_sum test image g holds up = owned_sum_by (λ n. is_placed test (entry_in image n)) image g holds up

-- ---- sums over identifiers

pub sum_ids : (f : Puid → ℕ) (es : List (Puid × Object)) → sum_by f (keys_of es) ≡ sum_by (λ e. f e.0) es
sum_ids f [] = refl
sum_ids f (e ∷ es) = omega (arith, sum_by-cons f e.0 (keys_of es), sum_by-cons (λ (x : Puid × Object). f x.0) e es, sum_ids f es)

pub differs : (x y : Puid) → same_puid x y ≡ false → same_puid y x ≡ false
differs x y other = false_from_ne_true _ (λ is. both_ways _ other (subst (λ (z : Puid). same_puid z y ≡ true) (same_puid_is y x is) (same_puid_itself y)))

module _ (f k : Puid → ℕ) (id : Puid) (others : (x : Puid) → same_puid x id ≡ false → f x ≡ k x) where
  sum_above : (ids : List Puid) → below id ids ≡ true → sum_by f ids ≡ sum_by k ids
  sum_above [] low = refl
  sum_above (x ∷ ids) low =
      let two = and_parts (is_lt (puid_cmp id x)) (below id ids) low in
      omega (arith, sum_by-cons f x ids, sum_by-cons k x ids, others x (apart_above id x two.0), sum_above ids two.1)

  -- two that differ at one
  pub sum_but_one : (ids : List Puid) → rises ids ≡ true → is_among id ids ≡ true → sum_by f ids + k id ≡ sum_by k ids + f id
  sum_but_one [] up among = cc
  sum_but_one (x ∷ ids) up among =
      let two = and_parts (below x ids) (rises ids) up in
      elim (same_puid id x) as (λ b. same_puid id x ≡ b → sum_by f (x ∷ ids) + k id ≡ sum_by k (x ∷ ids) + f id) [
        | true ↦ λ is.
            let one = same_puid_is id x is in
            let rest = sum_above ids (subst (λ (y : Puid). below y ids ≡ true) (sym one) two.0) in
            omega (arith, sum_by-cons f x ids, sum_by-cons k x ids, rest, ap f one, ap k one)
        | false ↦ λ other.
            let rest = sum_but_one ids two.1 (sym (ap (λ (b : Bool). b || is_among id ids) other) ∙ among) in
            omega (arith, sum_by-cons f x ids, sum_by-cons k x ids, rest, others x (differs id x other))
      ] refl

-- ---- the roots that drafts make, object by object

-- the root that there is, if there is one
pub option_is : (c : Option ℕ) (n : ℕ) → has_number n (option_to_list c) ≡ true → c ≡ Some n
option_is None n h = cc
option_is (Some c) n h = elim (or_cases (c == n) false h) [ inl is ↦ ap Some (eqb-true c n is) | inr never ↦ cc ]

module _ (ds : Drafts) where
  abbrev pub roots_made : List Puid → List ℕ
  roots_made [] = []
  roots_made (x ∷ ids) = option_to_list (created_if (ds x)) ++ roots_made ids

  option_differs : (c : Option ℕ) → Differ (option_to_list c)
  option_differs None = tt
  option_differs (Some c) = (refl, tt)

  pub in_made : (n : ℕ) (ids : List Puid) → has_number n (roots_made ids) ≡ true → (x : Puid) × (is_among x ids ≡ true) × (created_if (ds x) ≡ Some n)
  in_made n [] h = cc
  in_made n (x ∷ ids) h = elim (or_cases _ _ (sym (has-append n (option_to_list (created_if (ds x))) (roots_made ids)) ∙ h)) [
    | inl is ↦ (x, or_left _ _ (same_puid_itself x), option_is (created_if (ds x)) n is)
    | inr rest ↦ let more = in_made n ids rest in (more.0, or_right _ _ more.1, more.2)
  ]

  pub to_made : (n : ℕ) (x : Puid) (ids : List Puid) → is_among x ids ≡ true → created_if (ds x) ≡ Some n → has_number n (roots_made ids) ≡ true
  to_made n x [] among makes = cc
  to_made n x (y ∷ ids) among makes =
      has-append n (option_to_list (created_if (ds y))) (roots_made ids)
      ∙ elim (or_cases (same_puid x y) (is_among x ids) among) [
        | inl is ↦ or_left _ _ (subst (λ (c : Option ℕ). has_number n (option_to_list c) ≡ true) (sym makes ∙ ap (λ (z : Puid). created_if (ds z)) (same_puid_is x y is)) (here n []))
        | inr rest ↦ or_right _ _ (to_made n x ids rest makes)
      ]

  pub made_differ : ((c : ℕ) (x y : IsMadeBy ds c) → x.id ≡ y.id) → (ids : List Puid) → rises ids ≡ true → Differ (roots_made ids)
  made_differ once [] up = tt
  made_differ once (x ∷ ids) up =
      let two = and_parts (below x ids) (rises ids) up in
      append_differ (option_to_list (created_if (ds x))) (roots_made ids) (option_differs (created_if (ds x))) (made_differ once ids two.1) (λ n is rest.
      let more = in_made n ids rest in
      let one : more.0 ≡ x = once n (record { id = more.0; makes = more.2 }) (record { id = x; makes = option_is (created_if (ds x)) n is }) in
      both_ways _ (none_among x ids two.0) (subst (λ (y : Puid). is_among y ids ≡ true) one more.1))

  pub made_length : (ids : List Puid) → length (roots_made ids) ≡ sum_by (λ id. length (option_to_list (created_if (ds id)))) ids
  made_length [] = refl
  made_length (x ∷ ids) =
      omega (arith, length-append (option_to_list (created_if (ds x))) (roots_made ids), sum_by-cons (λ (y : Puid). length (option_to_list (created_if (ds y)))) x ids, made_length ids)
