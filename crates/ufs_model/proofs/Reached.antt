-- What is reached: it stays within each closed set that has the starts, and is closed where each pair leads to one of a list.
use Rattle.std.proofs.Common.{◌≡◌, ℕ, zero, suc, ◌+◌, ◌≤◌, ◌⊎◌, inl, inr, List, [], ◌∷◌, length, refl, ap, subst, arith, Bool, true, false, cond, ◌&&◌, map}
use Rattle.ufs_model.proofs.Words.{Along, CmpEqualImpliesEq, Equal, Greater, IsReached, Less, Ordering, Puid, and_from, and_parts, cases_lt, exact_pairs, exact_unsigned, filter, has_pair, is_among, is_eq, joined, length-map, list_all, nat_cmp, or_cases, or_left, or_right, puid_cmp, reached, same_puid, targets, tied_itself}
use Rattle.ufs_model.specs.Reach.{Start}
use Rattle.ufs_model.proofs.Entries.{puid_total}

-- ---- identifiers that compare alike are one

pub exact_puid : CmpEqualImpliesEq puid_cmp
exact_puid a b h = ap (λ (p : ℕ × ℕ). record { block = p.0; word = p.1 }) (exact_pairs nat_cmp nat_cmp exact_unsigned exact_unsigned (a.block, a.word) (b.block, b.word) h)

tied : (r : Ordering) → is_eq r ≡ true → r ≡ Equal
tied Less h = cc
tied Equal h = refl
tied Greater h = cc

pub same_puid_is : (a b : Puid) → same_puid a b ≡ true → a ≡ b
same_puid_is a b h = exact_puid a b (tied _ h)

pub same_puid_itself : (x : Puid) → same_puid x x ≡ true
same_puid_itself x = ap is_eq (tied_itself puid_total x)

-- what is among one identifier is that one
pub among_one : (x y : Puid) → is_among x (y ∷ []) ≡ true → x ≡ y
among_one x y h = elim (or_cases (same_puid x y) false h) [ inl here ↦ same_puid_is x y here | inr none ↦ cc ]

pub among_itself : (x : Puid) (ids : List Puid) → is_among x (x ∷ ids) ≡ true
among_itself x ids = or_left (same_puid x x) (is_among x ids) (same_puid_itself x)

pub pair_here : (i x : Puid) (e : Puid × Puid) → (same_puid i e.0 && same_puid x e.1) ≡ true → (i ≡ e.0) × (x ≡ e.1)
pair_here i x e h = let two = and_parts (same_puid i e.0) (same_puid x e.1) h in (same_puid_is i e.0 two.0, same_puid_is x e.1 two.1)

-- what each of a list passes, and each pair
pub each_among : (P : Puid → Bool) (x : Puid) (ids : List Puid) → list_all P ids ≡ true → is_among x ids ≡ true → P x ≡ true
each_among P x [] all h = cc
each_among P x (y ∷ ys) all h =
    let two = and_parts (P y) (list_all P ys) all in
    elim (or_cases (same_puid x y) (is_among x ys) h) [ inl here ↦ rw (same_puid_is x y here) two.0 | inr later ↦ each_among P x ys two.1 later ]

pub all_among : (P : Puid → Bool) (ids : List Puid) → ((x : Puid) → is_among x ids ≡ true → P x ≡ true) → list_all P ids ≡ true
all_among P [] each = refl
all_among P (y ∷ ys) each = and_from (P y) (list_all P ys) (each y (among_itself y ys)) (all_among P ys (λ x h. each x (or_right (same_puid x y) (is_among x ys) h)))

pub each_pair : (P : Puid → Puid → Bool) (pairs : List (Puid × Puid)) (i x : Puid) → list_all (λ e. P e.0 e.1) pairs ≡ true → has_pair pairs i x ≡ true → P i x ≡ true
each_pair P [] i x all h = cc
each_pair P (e ∷ es) i x all h =
    let two = and_parts (P e.0 e.1) (list_all (λ d. P d.0 d.1) es) all in
    elim (or_cases (same_puid i e.0 && same_puid x e.1) (has_pair es i x) h) [
      | inl here ↦ let same = pair_here i x e here in rw (same.0, same.1) two.0
      | inr later ↦ each_pair P es i x two.1 later
    ]

pub all_pairs : (P : Puid → Puid → Bool) (pairs : List (Puid × Puid)) → ((i x : Puid) → has_pair pairs i x ≡ true → P i x ≡ true) → list_all (λ e. P e.0 e.1) pairs ≡ true
all_pairs P [] each = refl
all_pairs P (e ∷ es) each =
    and_from (P e.0 e.1) (list_all (λ d. P d.0 d.1) es)
    (each e.0 e.1 (or_left _ (has_pair es e.0 e.1) (and_from _ _ (same_puid_itself e.0) (same_puid_itself e.1))))
    (all_pairs P es (λ i x h. each i x (or_right (same_puid i e.0 && same_puid x e.1) (has_pair es i x) h)))

-- ---- sets

-- the list has only what is in the set
abbrev pub Within : (Puid → Bool) → List Puid → Type 0
Within M ids = (x : Puid) → is_among x ids ≡ true → M x ≡ true

-- no pair leads out of the set
abbrev pub IsClosed : (Puid → Bool) → List (Puid × Puid) → Type 0
IsClosed M pairs = (i x : Puid) → has_pair pairs i x ≡ true → M i ≡ true → M x ≡ true

pub within_one : (M : Puid → Bool) (y : Puid) → M y ≡ true → Within M (y ∷ [])
within_one M y m = λ x h. rw (among_one x y h) m

abbrev from : List (Puid × Puid) → List Puid → List (Puid × Puid)
from pairs ids = filter (λ e. is_among e.0 ids) pairs

abbrev ends : List (Puid × Puid) → List Puid
ends pairs = map (λ e. e.1) pairs

pub joined_has : (ts ids : List Puid) (x : Puid) → is_among x ids ≡ true → is_among x (joined ts ids) ≡ true
joined_has [] ids x h = h
joined_has (t ∷ ts) ids x h =
    elim (is_among t ids) as (λ b. is_among x (cond b (joined ts ids) (joined ts (t ∷ ids))) ≡ true) [
      | true ↦ joined_has ts ids x h
      | false ↦ joined_has ts (t ∷ ids) x (or_right (same_puid x t) _ h)
    ]

pub joined_has_new : (ts ids : List Puid) (x : Puid) → is_among x ts ≡ true → is_among x (joined ts ids) ≡ true
joined_has_new [] ids x h = cc
joined_has_new (t ∷ ts) ids x h =
    elim (is_among t ids) as (λ b. is_among t ids ≡ b → is_among x (cond b (joined ts ids) (joined ts (t ∷ ids))) ≡ true) [
      | true ↦ λ is. elim (or_cases (same_puid x t) (is_among x ts) h) [ inl here ↦ joined_has ts ids x (rw (same_puid_is x t here) is) | inr later ↦ joined_has_new ts ids x later ]
      | false ↦ λ is. elim (or_cases (same_puid x t) (is_among x ts) h) [ inl here ↦ joined_has ts (t ∷ ids) x (or_left (same_puid x t) (is_among x ids) here) | inr later ↦ joined_has_new ts (t ∷ ids) x later ]
    ] refl

module _ (M : Puid → Bool) where
  within_head : (t : Puid) (ids : List Puid) → M t ≡ true → Within M ids → Within M (t ∷ ids)
  within_head t ids m w = λ x h. elim (or_cases (same_puid x t) (is_among x ids) h) [ inl here ↦ rw (same_puid_is x t here) m | inr later ↦ w x later ]

  pub joined_within : (ts ids : List Puid) → Within M ts → Within M ids → Within M (joined ts ids)
  joined_within [] ids new old = old
  joined_within (t ∷ ts) ids new old =
      let rest : Within M ts = λ x h. new x (or_right (same_puid x t) _ h) in
      elim (is_among t ids) as (λ b. Within M (cond b (joined ts ids) (joined ts (t ∷ ids)))) [
        | true ↦ joined_within ts ids rest old
        | false ↦ joined_within ts (t ∷ ids) rest (within_head t ids (new t (among_itself t ts)) old)
      ]

  targets_within : (pairs : List (Puid × Puid)) (ids : List Puid) → IsClosed M pairs → Within M ids → Within M (targets pairs ids)
  targets_within [] ids closed w = λ x h. cc
  targets_within (e ∷ es) ids closed w =
      let rest : Within M (targets es ids) = targets_within es ids (λ i x h. closed i x (or_right _ _ h)) w in
      elim (is_among e.0 ids) as (λ b. is_among e.0 ids ≡ b → Within M (ends (cond b (e ∷ from es ids) (from es ids)))) [
        | true ↦ λ is. within_head e.1 (targets es ids) (closed e.0 e.1 (or_left _ _ (and_from _ _ (same_puid_itself e.0) (same_puid_itself e.1))) (w e.0 is)) rest
        | false ↦ λ is. rest
      ] refl

  -- what is reached stays in a closed set
  pub reached_within : (n : ℕ) (pairs : List (Puid × Puid)) (ids : List Puid) → IsClosed M pairs → Within M ids → Within M (reached n pairs ids)
  reached_within zero pairs ids closed w = w
  reached_within (suc n) pairs ids closed w = reached_within n pairs (joined (targets pairs ids) ids) closed (joined_within (targets pairs ids) ids (targets_within pairs ids closed w) w)

-- what was there is reached
pub reached_has : (n : ℕ) (pairs : List (Puid × Puid)) (ids : List Puid) (x : Puid) → is_among x ids ≡ true → is_among x (reached n pairs ids) ≡ true
reached_has zero pairs ids x h = h
reached_has (suc n) pairs ids x h = reached_has n pairs _ x (joined_has (targets pairs ids) ids x h)

pub targets_has : (pairs : List (Puid × Puid)) (ids : List Puid) (i x : Puid) → has_pair pairs i x ≡ true → is_among i ids ≡ true → is_among x (targets pairs ids) ≡ true
targets_has [] ids i x h at = cc
targets_has (e ∷ es) ids i x h at =
    elim (is_among e.0 ids) as (λ b. is_among e.0 ids ≡ b → is_among x (ends (cond b (e ∷ from es ids) (from es ids))) ≡ true) [
      | true ↦ λ is. elim (or_cases (same_puid i e.0 && same_puid x e.1) (has_pair es i x) h) [
        | inl here ↦ or_left (same_puid x e.1) (is_among x (targets es ids)) (and_parts (same_puid i e.0) (same_puid x e.1) here).1
        | inr later ↦ or_right (same_puid x e.1) (is_among x (targets es ids)) (targets_has es ids i x later at)
      ]
      | false ↦ λ is. elim (or_cases (same_puid i e.0 && same_puid x e.1) (has_pair es i x) h) [
        | inl here ↦ let there : is_among e.0 ids ≡ true = rw (← (pair_here i x e here).0) at in cc
        | inr later ↦ targets_has es ids i x later at
      ]
    ] refl

-- ---- how many of these are not in the list: it falls with each step that is not the last

pub outside : List Puid → List Puid → ℕ
outside [] ids = 0
outside (y ∷ ys) ids = cond (is_among y ids) 0 1 + outside ys ids

few_outside : (all ids : List Puid) → outside all ids ≤ length all
unfolding outside
few_outside [] ids = omega arith
few_outside (y ∷ ys) ids = let rest = few_outside ys ids in elim (is_among y ids) as (λ b. cond b 0 1 + outside ys ids ≤ suc (length ys)) [ true ↦ omega arith | false ↦ omega arith ]

none_outside : (all ids : List Puid) (x : Puid) → outside all ids ≤ 0 → is_among x all ≡ true → is_among x ids ≡ true
unfolding outside
none_outside [] ids x few h = cc
none_outside (y ∷ ys) ids x few h =
    elim (is_among y ids) as (λ b. is_among y ids ≡ b → cond b 0 1 + outside ys ids ≤ 0 → is_among x ids ≡ true) [
      | true ↦ λ is le. elim (or_cases (same_puid x y) (is_among x ys) h) [ inl here ↦ rw (same_puid_is x y here) is | inr later ↦ none_outside ys ids x (omega arith) later ]
      | false ↦ λ is le. absurd (omega arith)
    ] refl few

module _ (ids more : List Puid) (grows : (x : Puid) → is_among x ids ≡ true → is_among x more ≡ true) where
  fewer : (all : List Puid) → outside all more ≤ outside all ids
  unfolding outside
  fewer [] = omega arith
  fewer (y ∷ ys) =
      let rest = fewer ys in
      elim (is_among y ids) as (λ a. is_among y ids ≡ a → cond (is_among y more) 0 1 + outside ys more ≤ cond a 0 1 + outside ys ids) [
        | true ↦ λ is. rw (grows y is) (omega arith)
        | false ↦ λ is. elim (is_among y more) as (λ b. cond b 0 1 + outside ys more ≤ 1 + outside ys ids) [ true ↦ omega arith | false ↦ omega arith ]
      ] refl

  -- where none of them came in, what is new is not one of them
  pub none_new : (all : List Puid) (x : Puid) → outside all ids ≤ outside all more → is_among x all ≡ true → is_among x more ≡ true → is_among x ids ≡ true
  unfolding outside
  none_new [] x le h at = cc
  none_new (y ∷ ys) x le h at =
      let rest = fewer ys in
      elim (is_among y ids) as (λ a. is_among y ids ≡ a → cond a 0 1 + outside ys ids ≤ cond (is_among y more) 0 1 + outside ys more → is_among x ids ≡ true) [
        | true ↦ λ is. rw (grows y is) (λ less. elim (or_cases (same_puid x y) (is_among x ys) h) [ inl here ↦ rw (same_puid_is x y here) is | inr later ↦ none_new ys x (omega arith) later at ])
        | false ↦ λ is. elim (is_among y more) as (λ b. is_among y more ≡ b → 1 + outside ys ids ≤ cond b 0 1 + outside ys more → is_among x ids ≡ true) [
          | true ↦ λ new less. absurd (omega arith)
          | false ↦ λ new less. elim (or_cases (same_puid x y) (is_among x ys) h) [
            | inl here ↦ let there : is_among y more ≡ true = rw (← same_puid_is x y here) at in cc
            | inr later ↦ none_new ys x (omega arith) later at
          ]
        ] refl
      ] refl le

-- ---- after as many steps as there are identifiers to which pairs lead, what is reached is closed

module _ (all : List Puid) (pairs : List (Puid × Puid)) (inside : (i x : Puid) → has_pair pairs i x ≡ true → is_among x all ≡ true) where
  closed_after : (n : ℕ) (ids : List Puid) → outside all ids ≤ n → IsClosed (λ x. is_among x (reached n pairs ids)) pairs
  closed_after zero ids few = λ i x h at. none_outside all ids x few (inside i x h)
  closed_after (suc n) ids few =
      let more = joined (targets pairs ids) ids in
      elim (cases_lt (outside all more) (outside all ids)) [
        | inl less ↦ closed_after n more (omega arith)
        | inr same ↦
            let closed : IsClosed (λ x. is_among x ids) pairs = λ i x h at. none_new ids more (joined_has (targets pairs ids) ids) all x same (inside i x h) (joined_has_new (targets pairs ids) ids x (targets_has pairs ids i x h at)) in
            λ i x h at. reached_has (suc n) pairs ids x (closed i x h (reached_within (λ y. is_among y ids) (suc n) pairs ids closed (λ y there. there) i at))
      ]

  pub reached_is_closed : (ids : List Puid) → IsClosed (λ x. is_among x (reached (length all) pairs ids)) pairs
  reached_is_closed ids = closed_after (length all) ids (few_outside all ids)

-- ---- what is reached in steps is what is reached

joined_in : (ts ids : List Puid) (x : Puid) → is_among x (joined ts ids) ≡ true → (is_among x ts ≡ true) ⊎ (is_among x ids ≡ true)
joined_in [] ids x h = inr h
joined_in (t ∷ ts) ids x h =
    elim (is_among t ids) as (λ b. is_among x (cond b (joined ts ids) (joined ts (t ∷ ids))) ≡ true → (is_among x (t ∷ ts) ≡ true) ⊎ (is_among x ids ≡ true)) [
      | true ↦ λ h. elim (joined_in ts ids x h) [ inl new ↦ inl (or_right (same_puid x t) (is_among x ts) new) | inr old ↦ inr old ]
      | false ↦ λ h. elim (joined_in ts (t ∷ ids) x h) [
        | inl new ↦ inl (or_right (same_puid x t) (is_among x ts) new)
        | inr old ↦ elim (or_cases (same_puid x t) (is_among x ids) old) [ inl here ↦ inl (or_left (same_puid x t) (is_among x ts) here) | inr rest ↦ inr rest ]
      ]
    ] h

targets_in : (pairs : List (Puid × Puid)) (ids : List Puid) (x : Puid) → is_among x (targets pairs ids) ≡ true → (i : Puid) × (has_pair pairs i x ≡ true) × (is_among i ids ≡ true)
targets_in [] ids x h = cc
targets_in (e ∷ es) ids x h =
    let further : is_among x (targets es ids) ≡ true → (i : Puid) × (has_pair (e ∷ es) i x ≡ true) × (is_among i ids ≡ true) =
    λ h. let three = targets_in es ids x h in (three.0, or_right (same_puid three.0 e.0 && same_puid x e.1) (has_pair es three.0 x) three.1, three.2) in
    elim (is_among e.0 ids) as (λ b. is_among e.0 ids ≡ b → is_among x (ends (cond b (e ∷ from es ids) (from es ids))) ≡ true → (i : Puid) × (has_pair (e ∷ es) i x ≡ true) × (is_among i ids ≡ true)) [
      | true ↦ λ is h. elim (or_cases (same_puid x e.1) (is_among x (targets es ids)) h) [
        | inl here ↦ (e.0, or_left _ (has_pair es e.0 x) (and_from (same_puid e.0 e.0) (same_puid x e.1) (same_puid_itself e.0) here), is)
        | inr later ↦ further later
      ]
      | false ↦ λ is h. further h
    ] refl h

module _ (pairs : List (Puid × Puid)) (starts : List Puid) where
  reached_from : (n : ℕ) (ids : List Puid) (x : Puid) → ((y : Puid) → is_among y ids ≡ true → IsReached pairs starts y) → is_among x (reached n pairs ids) ≡ true → IsReached pairs starts x
  reached_from zero ids x known h = known x h
  reached_from (suc n) ids x known h =
      reached_from n (joined (targets pairs ids) ids) x
      (λ y at. elim (joined_in (targets pairs ids) ids y at) [ inl new ↦ let three = targets_in pairs ids y new in Along (known three.0 three.2) three.1 | inr old ↦ known y old ]) h

  -- what is reached in any number of steps is reached
  pub steps_reach : (n : ℕ) (x : Puid) → is_among x (reached n pairs starts) ≡ true → IsReached pairs starts x
  steps_reach n x h = reached_from n starts x (λ y at. Start at) h

  module _ (n : ℕ) (closed : IsClosed (λ x. is_among x (reached n pairs starts)) pairs) where
    -- and where the steps have led to all, what is reached is reached in them
    pub reach_steps : (x : Puid) → IsReached pairs starts x → is_among x (reached n pairs starts) ≡ true
    reach_steps x (Start at) = reached_has n pairs starts x at
    reach_steps x (Along {i} before pair) = closed i x pair (reach_steps i before)

-- in as many steps as there are pairs
pub pairs_closed : (pairs : List (Puid × Puid)) (starts : List Puid) → IsClosed (λ x. is_among x (reached (length pairs) pairs starts)) pairs
pairs_closed pairs starts =
    subst (λ (n : ℕ). IsClosed (λ x. is_among x (reached n pairs starts)) pairs) (length-map pairs (λ (e : Puid × Puid). e.1)) (reached_is_closed (ends pairs) pairs (inside pairs) starts)
  where
    inside : (es : List (Puid × Puid)) (i x : Puid) → has_pair es i x ≡ true → is_among x (ends es) ≡ true
    inside [] i x h = cc
    inside (e ∷ es) i x h = elim (or_cases (same_puid i e.0 && same_puid x e.1) (has_pair es i x) h) [
      | inl here ↦ or_left (same_puid x e.1) (is_among x (ends es)) (and_parts (same_puid i e.0) (same_puid x e.1) here).1
      | inr later ↦ or_right (same_puid x e.1) (is_among x (ends es)) (inside es i x later)
    ]
