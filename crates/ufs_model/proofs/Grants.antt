-- Grants in the order in which they were drawn: each identifier is that of one.
use Rattle.std.proofs.Common.{◌≡◌, ◌≢◌, ℕ, zero, suc, ◌+◌, ◌<◌, ◌≤◌, List, [], ◌∷◌, ◌++◌, length, set, refl, sym, ◌∙◌, ap, subst, arith, Bool, true, false, cond, ◌&&◌, Some, None, slice_get, not}
use Rattle.ufs_model.proofs.Words.{Draft, Grant, Tuid, and_from, and_parts, draws_of, eqb-true, filter, find, find_at, is_grant, le-leb, leb-true, list_all, list_all-append, list_all-map, lt-ltb, ltb-false, ltb-true, nat_le, nat_lt, numbers_rise, position, position_or_len, remove, same_tuid, slice_get_past, with_draft, ◌==◌}
use Rattle.ufs_model.proofs.Tests.{all_filter, all_weaker}
use Rattle.ufs_model.proofs.Rising.{rise-push}

pub all_at : {X : Type 0} (P : X → Bool) (xs : List X) (i : ℕ) (x : X) → list_all P xs ≡ true → slice_get xs i ≡ Some x → P x ≡ true
all_at P [] i x all at = cc
all_at P (y ∷ ys) zero x all at = let same : y ≡ x = cc in subst (λ z. P z ≡ true) same (and_parts (P y) (list_all P ys) all).0
all_at P (y ∷ ys) (suc i) x all at = all_at P ys i x (and_parts (P y) (list_all P ys) all).1 at

pub all_set : {X : Type 0} (P : X → Bool) (xs : List X) (i : ℕ) (x : X) → list_all P xs ≡ true → P x ≡ true → list_all P (set xs i x) ≡ true
all_set P [] i x all new = refl
all_set P (y ∷ ys) zero x all new = and_from (P x) (list_all P ys) new (and_parts (P y) (list_all P ys) all).1
all_set P (y ∷ ys) (suc i) x all new = let two = and_parts (P y) (list_all P ys) all in and_from (P y) (list_all P (set ys i x)) two.0 (all_set P ys i x two.1 new)

-- what is found stands at the place that is found
module _ {X : Type 0} (p : X → Bool) (xs : List X) where
  pub found_at : (i : ℕ) → position p xs ≡ Some i → find p xs ≡ slice_get xs i
  found_at i is = find_at p xs ∙ elim (nat_lt (position_or_len p xs) (length xs)) as (λ b. cond b (Some (position_or_len p xs)) None ≡ Some i → slice_get xs (position_or_len p xs) ≡ slice_get xs i) [
    | true ↦ λ e. let same : position_or_len p xs ≡ i = cc in ap (slice_get xs) same
    | false ↦ λ e. cc
  ] is

  pub found_nowhere : position p xs ≡ None → find p xs ≡ None
  found_nowhere is = find_at p xs ∙ elim (nat_lt (position_or_len p xs) (length xs)) as (λ b. nat_lt (position_or_len p xs) (length xs) ≡ b → cond b (Some (position_or_len p xs)) None ≡ None → slice_get xs (position_or_len p xs) ≡ None) [
    | true ↦ λ less e. cc
    | false ↦ λ past e. slice_get_past xs (position_or_len p xs) (ltb-false (position_or_len p xs) (length xs) past)
  ] refl is

-- ---- the one grant of an identifier

module _ (who : ℕ) (t : Tuid) where
  same_draw : (g : Grant) → is_grant who t g ≡ true → g.tuid.draw ≡ t.draw
  same_draw g h = eqb-true g.tuid.draw t.draw (and_parts (g.tuid.draw == t.draw) (g.tuid.word == t.word) (and_parts (g.session == who) (same_tuid g.tuid t) h).1).0

  not_it : (g : Grant) → g.tuid.draw ≢ t.draw → is_grant who t g ≡ false
  not_it g other = elim (is_grant who t g) as (λ b. is_grant who t g ≡ b → b ≡ false) [ true ↦ λ is. absurd (other (same_draw g is)) | false ↦ λ is. refl ] refl

  -- what stands before the grant is another
  earlier : (y : Grant) (ys : List Grant) (i : ℕ) (g : Grant) → list_all (nat_lt y.tuid.draw) (draws_of ys) ≡ true → slice_get ys i ≡ Some g → is_grant who t g ≡ true → y.tuid.draw ≢ t.draw
  earlier y ys i g above at is same =
      let later : nat_lt y.tuid.draw g.tuid.draw ≡ true = all_at (λ (z : Grant). nat_lt y.tuid.draw z.tuid.draw) ys i g (sym (list_all-map (nat_lt y.tuid.draw) (λ (z : Grant). z.tuid.draw) ys) ∙ above) at in
      let past : y.tuid.draw < g.tuid.draw = ltb-true y.tuid.draw g.tuid.draw later in
      let draw = same_draw g is in
      absurd (omega arith)

  module _ (d : Draft) where
    none_changed : (gs : List Grant) → list_all (nat_lt t.draw) (draws_of gs) ≡ true → with_draft who t d gs ≡ gs
    none_changed [] above = refl
    none_changed (g ∷ gs) above =
        let two = and_parts (nat_lt t.draw g.tuid.draw) (list_all (nat_lt t.draw) (draws_of gs)) above in
        let past : t.draw < g.tuid.draw = ltb-true t.draw g.tuid.draw two.0 in
        rw (not_it g (omega arith)) (ap (λ rest. g ∷ rest) (none_changed gs two.1))

    -- a draft is put at the place of the grant
    pub with_draft-set : (gs : List Grant) (i : ℕ) (g : Grant) → numbers_rise (draws_of gs) ≡ true → slice_get gs i ≡ Some g → is_grant who t g ≡ true
        → with_draft who t d gs ≡ set gs i (record g { draft = Some d })
    with_draft-set [] i g up at is = cc
    with_draft-set (y ∷ ys) zero g up at is =
        let same : y ≡ g = cc in
        let two = and_parts (list_all (nat_lt y.tuid.draw) (draws_of ys)) (numbers_rise (draws_of ys)) up in
        let here : is_grant who t y ≡ true = subst (λ z. is_grant who t z ≡ true) (sym same) is in
        let rest = none_changed ys (subst (λ (n : ℕ). list_all (nat_lt n) (draws_of ys) ≡ true) (same_draw y here) two.0) in
        rw (here, rest) (ap (λ (z : Grant). record z { draft = Some d } ∷ ys) same)
    with_draft-set (y ∷ ys) (suc i) g up at is =
        let two = and_parts (list_all (nat_lt y.tuid.draw) (draws_of ys)) (numbers_rise (draws_of ys)) up in
        rw (not_it y (earlier y ys i g two.0 at is)) (ap (λ rest. y ∷ rest) (with_draft-set ys i g two.1 at is))

    pub with_draft-draws : (gs : List Grant) → draws_of (with_draft who t d gs) ≡ draws_of gs
    with_draft-draws [] = refl
    with_draft-draws (g ∷ gs) = elim (is_grant who t g) as (λ b. (cond b (record g { draft = Some d }) g).tuid.draw ∷ draws_of (with_draft who t d gs) ≡ g.tuid.draw ∷ draws_of gs) [
      | true ↦ ap (λ rest. g.tuid.draw ∷ rest) (with_draft-draws gs)
      | false ↦ ap (λ rest. g.tuid.draw ∷ rest) (with_draft-draws gs)
    ]

    pub with_draft-all : (P : Grant → Bool) (gs : List Grant) (g : Grant) → numbers_rise (draws_of gs) ≡ true → find (is_grant who t) gs ≡ Some g → is_grant who t g ≡ true
        → list_all P gs ≡ true → P (record g { draft = Some d }) ≡ true → list_all P (with_draft who t d gs) ≡ true
    with_draft-all P gs g up found is all new =
        let i = position_or_len (is_grant who t) gs in
        ap (list_all P) (with_draft-set gs i g up (sym (find_at (is_grant who t) gs) ∙ found) is) ∙ all_set P gs i (record g { draft = Some d }) all new

  -- without the grant, without its place
  none_gone : (gs : List Grant) → list_all (nat_lt t.draw) (draws_of gs) ≡ true → filter (λ g. not (is_grant who t g)) gs ≡ gs
  none_gone [] above = refl
  none_gone (g ∷ gs) above =
      let two = and_parts (nat_lt t.draw g.tuid.draw) (list_all (nat_lt t.draw) (draws_of gs)) above in
      let past : t.draw < g.tuid.draw = ltb-true t.draw g.tuid.draw two.0 in
      rw (not_it g (omega arith)) (ap (λ rest. g ∷ rest) (none_gone gs two.1))

  pub without_place : (gs : List Grant) (i : ℕ) (g : Grant) → numbers_rise (draws_of gs) ≡ true → slice_get gs i ≡ Some g → is_grant who t g ≡ true
      → filter (λ x. not (is_grant who t x)) gs ≡ remove gs i
  without_place [] i g up at is = cc
  without_place (y ∷ ys) zero g up at is =
      let same : y ≡ g = cc in
      let two = and_parts (list_all (nat_lt y.tuid.draw) (draws_of ys)) (numbers_rise (draws_of ys)) up in
      let here : is_grant who t y ≡ true = subst (λ z. is_grant who t z ≡ true) (sym same) is in
      rw here (none_gone ys (subst (λ (n : ℕ). list_all (nat_lt n) (draws_of ys) ≡ true) (same_draw y here) two.0))
  without_place (y ∷ ys) (suc i) g up at is =
      let two = and_parts (list_all (nat_lt y.tuid.draw) (draws_of ys)) (numbers_rise (draws_of ys)) up in
      rw (not_it y (earlier y ys i g two.0 at is)) (ap (λ rest. y ∷ rest) (without_place ys i g two.1 at is))

-- ---- fewer, and one more

pub draws-filter : (M : Grant → Bool) (P : ℕ → Bool) (gs : List Grant) → list_all P (draws_of gs) ≡ true → list_all P (draws_of (filter M gs)) ≡ true
draws-filter M P gs all =
    list_all-map P (λ (g : Grant). g.tuid.draw) (filter M gs) ∙ all_filter (λ (g : Grant). P g.tuid.draw) M gs (sym (list_all-map P (λ (g : Grant). g.tuid.draw) gs) ∙ all)

pub rise-filter : (M : Grant → Bool) (gs : List Grant) → numbers_rise (draws_of gs) ≡ true → numbers_rise (draws_of (filter M gs)) ≡ true
rise-filter M [] up = refl
rise-filter M (g ∷ gs) up =
    let two = and_parts (list_all (nat_lt g.tuid.draw) (draws_of gs)) (numbers_rise (draws_of gs)) up in
    elim (M g) as (λ b. numbers_rise (draws_of (cond b (g ∷ filter M gs) (filter M gs))) ≡ true) [
      | true ↦ and_from _ (numbers_rise (draws_of (filter M gs))) (draws-filter M (nat_lt g.tuid.draw) gs two.0) (rise-filter M gs two.1)
      | false ↦ rise-filter M gs two.1
    ]

draws-append : (gs hs : List Grant) → draws_of (gs ++ hs) ≡ draws_of gs ++ draws_of hs
draws-append [] hs = refl
draws-append (g ∷ gs) hs = ap (λ rest. g.tuid.draw ∷ rest) (draws-append gs hs)

module _ (gs : List Grant) (g : Grant) (drawn : ℕ) (is : g.tuid.draw ≡ drawn + 1) (all : list_all (λ draw. nat_le draw drawn) (draws_of gs) ≡ true) where
  pub drawn-more : list_all (λ draw. nat_le draw (drawn + 1)) (draws_of gs) ≡ true
  drawn-more = all_weaker (λ draw. nat_le draw drawn) (λ draw. nat_le draw (drawn + 1)) (draws_of gs) (λ draw h. let le : draw ≤ drawn = leb-true draw drawn h in le-leb draw (drawn + 1) (omega arith)) all

  pub drawn-push : list_all (λ draw. nat_le draw (drawn + 1)) (draws_of (gs ++ g ∷ [])) ≡ true
  drawn-push =
      ap (list_all (λ draw. nat_le draw (drawn + 1))) (draws-append gs (g ∷ [])) ∙ list_all-append (λ draw. nat_le draw (drawn + 1)) (draws_of gs) (g.tuid.draw ∷ [])
      ∙ and_from _ (nat_le g.tuid.draw (drawn + 1) && true) drawn-more (and_from _ true (le-leb g.tuid.draw (drawn + 1) (omega arith)) refl)

  pub rise-grant : numbers_rise (draws_of gs) ≡ true → numbers_rise (draws_of (gs ++ g ∷ [])) ≡ true
  rise-grant up =
      ap numbers_rise (draws-append gs (g ∷ []))
      ∙ rise-push (draws_of gs) g.tuid.draw up (all_weaker (λ draw. nat_le draw drawn) (λ draw. nat_lt draw g.tuid.draw) (draws_of gs) (λ draw h. let le : draw ≤ drawn = leb-true draw drawn h in lt-ltb draw g.tuid.draw (omega arith)) all)
