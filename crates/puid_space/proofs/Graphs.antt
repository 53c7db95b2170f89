-- The kinds of a graph's objects, and what a graph's changes do to them.
use Rattle.std.proofs.Common.{◌≡◌, List, [], ◌∷◌, refl, sym, ap, ◌∙◌, arith, Some, None, Bool, true, false, cond, not, ◌&&◌, ◌||◌, ℕ}
use Rattle.puid_space.proofs.Words.{Equal, Greater, Kind, Less, Object, Puid, and_parts, filter, insert_entry, is_among, is_at, is_eq, is_lt, kept_by, keys_of, directory_kind, object_kind, kinds_in, list_all, lookup, match_ordering, nat_tests, option_map, puid_cmp, rises, same_puid, taken_by}

pub keys_of-kinds_in : (es : List (Puid × Object)) → keys_of (kinds_in es) ≡ keys_of es
keys_of-kinds_in [] = refl
keys_of-kinds_in (e ∷ es) = ap (λ ids. e.0 ∷ ids) (keys_of-kinds_in es)

pub directory_kind-kinds_in : (es : List (Puid × Object)) (id : Puid) → directory_kind (kinds_in es) id ≡ option_map object_kind (lookup (is_at (puid_cmp id)) es)
directory_kind-kinds_in [] id = refl
directory_kind-kinds_in (e ∷ es) id =
    elim (is_eq (puid_cmp id e.0)) as (λ t. cond t (Some (object_kind e.1)) (directory_kind (kinds_in es) id) ≡ option_map object_kind (cond t (Some e.1) (lookup (is_at (puid_cmp id)) es))) [
      | true ↦ refl
      | false ↦ directory_kind-kinds_in es id
    ]

pub kinds_in-insert_entry : (es : List (Puid × Object)) (id : Puid) (o : Object) → kinds_in (insert_entry puid_cmp es id o) ≡ insert_entry puid_cmp (kinds_in es) id (object_kind o)
kinds_in-insert_entry [] id o = refl
kinds_in-insert_entry (e ∷ es) id o =
    elim (puid_cmp id e.0) as (λ r. kinds_in (match_ordering r ((id, o) ∷ e ∷ es) ((e.0, o) ∷ es) (e ∷ insert_entry puid_cmp es id o))
    ≡ match_ordering r ((id, object_kind o) ∷ (e.0, object_kind e.1) ∷ kinds_in es) ((e.0, object_kind o) ∷ kinds_in es) ((e.0, object_kind e.1) ∷ insert_entry puid_cmp (kinds_in es) id (object_kind o))) [
      | Less ↦ refl
      | Equal ↦ refl
      | Greater ↦ ap (λ rest. (e.0, object_kind e.1) ∷ rest) (kinds_in-insert_entry es id o)
    ]

-- nothing is found before the first
not_found : (id x : Puid) (named : List (Puid × Kind)) → puid_cmp id x ≡ Less → list_all (λ y. is_lt (puid_cmp x y)) (keys_of named) ≡ true → directory_kind named id ≡ None
not_found id x [] less all = refl
not_found id x (e ∷ named) less all =
    let both = and_parts (is_lt (puid_cmp x e.0)) (list_all (λ y. is_lt (puid_cmp x y)) (keys_of named)) all in
    rw (other id x e.0 less both.0) (not_found id x named less both.1)
  where
    other : (a b c : Puid) → puid_cmp a b ≡ Less → is_lt (puid_cmp b c) ≡ true → is_eq (puid_cmp a c) ≡ false
    other a b c h k = grind (arith, nat_tests)

-- where one of this kind is found already, all stays
pub insert_entry-same : (named : List (Puid × Kind)) (id : Puid) (kind : Kind) → rises (keys_of named) ≡ true → directory_kind named id ≡ Some kind → insert_entry puid_cmp named id kind ≡ named
insert_entry-same [] id kind sorted found = cc
insert_entry-same (e ∷ named) id kind sorted found =
    elim (puid_cmp id e.0) as (λ r. puid_cmp id e.0 ≡ r → match_ordering r ((id, kind) ∷ e ∷ named) ((e.0, kind) ∷ named) (e ∷ insert_entry puid_cmp named id kind) ≡ e ∷ named) [
      | Less ↦ λ is.
          let none = not_found id e.0 named is (and_parts _ _ sorted).0 in
          let found' : directory_kind named id ≡ Some kind = rw is at found in absurd (cc)
      | Equal ↦ λ is. let found' : Some e.1 ≡ Some kind = rw is at found in let same : e.1 ≡ kind = cc in ap (λ k. (e.0, k) ∷ named) (sym same)
      | Greater ↦ λ is. ap (λ rest. e ∷ rest) (insert_entry-same named id kind (and_parts _ _ sorted).1 (rw is at found))
    ] refl

pub kinds_in-filter : (p : Puid → Bool) (es : List (Puid × Object)) → kinds_in (filter (λ e. p e.0) es) ≡ filter (λ e. p e.0) (kinds_in es)
kinds_in-filter p [] = refl
kinds_in-filter p (e ∷ es) =
    elim (p e.0) as (λ t. kinds_in (cond t (e ∷ filter (λ e. p e.0) es) (filter (λ e. p e.0) es)) ≡ cond t ((e.0, object_kind e.1) ∷ filter (λ e. p e.0) (kinds_in es)) (filter (λ e. p e.0) (kinds_in es))) [
      | true ↦ ap (λ rest. (e.0, object_kind e.1) ∷ rest) (kinds_in-filter p es)
      | false ↦ kinds_in-filter p es
    ]

-- ---- those that are taken out

same_block : (x y : Puid) → same_puid x y ≡ true → x.block ≡ y.block
same_block x y h = grind (arith, nat_tests)

-- an identifier is taken out exactly where it is there and its block fails the test
among-taken_by : (test : ℕ → Bool) (x : Puid) (named : List (Puid × Kind)) → is_among x (taken_by test named) ≡ (not (test x.block) && is_among x (keys_of named))
among-taken_by test x [] = neither (not (test x.block))
  where
    neither : (t : Bool) → false ≡ (t && false)
    neither true = refl
    neither false = refl
among-taken_by test x (e ∷ named) =
    elim (test e.0.block) as (λ t. test e.0.block ≡ t
    → is_among x (keys_of (cond (not t) (e ∷ filter (λ e. not (test e.0.block)) named) (filter (λ e. not (test e.0.block)) named))) ≡ (not (test x.block) && (same_puid x e.0 || is_among x (keys_of named)))) [
      | true ↦ λ is. among-taken_by test x named ∙ passes _ _ _ (λ same. ap test (same_block x e.0 same) ∙ is)
      | false ↦ λ is. ap (λ rest. same_puid x e.0 || rest) (among-taken_by test x named) ∙ fails _ _ _ (λ same. ap test (same_block x e.0 same) ∙ is)
    ] refl
  where
    passes : (k s r : Bool) → (s ≡ true → k ≡ true) → (not k && r) ≡ (not k && (s || r))
    passes true s r h = refl
    passes false true r h = absurd (let yes : false ≡ true = h refl in cc)
    passes false false r h = refl

    fails : (k s r : Bool) → (s ≡ true → k ≡ false) → (s || (not k && r)) ≡ (not k && (s || r))
    fails true true r h = absurd (let no : true ≡ false = h refl in cc)
    fails true false r h = refl
    fails false s r h = refl

left_of : (test : ℕ → Bool) (all named : List (Puid × Kind)) → ((x : Puid) → is_among x (keys_of named) ≡ true → is_among x (keys_of all) ≡ true)
    → filter (λ e. not (is_among e.0 (taken_by test all))) named ≡ kept_by test named
left_of test all [] within = refl
left_of test all (e ∷ named) within =
    let there = within e.0 (either_way (same_puid e.0 e.0) _ (same_itself e.0)) in
    rw (stays (test e.0.block) (is_among e.0 (taken_by test all)) (is_among e.0 (keys_of all)) (among-taken_by test e.0 all) there)
    (ap (λ rest. cond (test e.0.block) (e ∷ rest) rest) (left_of test all named (λ x h. within x (either_later _ _ h))))
  where
    either_way : (t u : Bool) → t ≡ true → (t || u) ≡ true
    either_way true u h = refl
    either_way false u h = cc

    either_later : (t u : Bool) → u ≡ true → (t || u) ≡ true
    either_later true u h = refl
    either_later false u h = h

    same_itself : (x : Puid) → same_puid x x ≡ true
    same_itself x = grind (arith, nat_tests)

    stays : (t a u : Bool) → a ≡ (not t && u) → u ≡ true → not a ≡ t
    stays true a u is all = rw is refl
    stays false a u is all = rw (is, all) refl

-- what is left where these are taken out
pub left_by_taken : (test : ℕ → Bool) (named : List (Puid × Kind)) → filter (λ e. not (is_among e.0 (taken_by test named))) named ≡ kept_by test named
left_by_taken test named = left_of test named named (λ x h. h)
