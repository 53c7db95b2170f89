-- Names in the order of their bytes, and one more at its place.
use Rattle.std.proofs.Common.{◌≡◌, ℕ, zero, suc, ◌+◌, ◌<◌, ◌≤◌, Bool, true, false, List, [], ◌∷◌, length, take, drop, get_or, refl, sym, ◌∙◌, ap, arith, ◌||◌, inl, inr}
use Rattle.std.specs.Cmp.Lexicographic.{slice_cmp}
use Rattle.std.specs.List.{AllWithin, HoldsAt, insert, list_all}
use Rattle.std.specs.Ordering.{is_lt, nat_cmp, ordering_index, ordering_reverse}
use Rattle.std.specs.Str.{bytes_eq}
use Rattle.std.specs.declared.cmp.Ordering.{Ordering}
use Rattle.std.specs.declared.cmp.Ordering.TheVariants.{Equal, Greater, Less}
use Rattle.std.proofs.lemmas.Bool.{and_from, and_parts, cases_lt, or_left, or_right}
use Rattle.std.proofs.lemmas.Cmp.{nat_list_cmp_total, tied_itself}
use Rattle.std.proofs.lemmas.List.{take-append-drop}
use Rattle.std.proofs.lemmas.List.Folds.{list_all-append, list_any-append}
use Rattle.std.proofs.lemmas.List.Recursion.{and_at, and_from_places}
use Rattle.std.proofs.lemmas.List.Sorted.{searchable_from_sorted}
use Rattle.std.proofs.lemmas.Map.Lookups.{exact_bytes}
use Rattle.std.proofs.lemmas.Slice.Eq.{bytes_eq-Decides}
use Rattle.std.specs.List.Sorted.{IsNonDecreasingBy, IsSortedBy}
use Rattle.name_dirs.specs.Text.{AddsText, has_text, is_below, names_rise}
use Rattle.name_dirs.proofs.Rows.{differ}

abbrev cmp : List ℕ → List ℕ → Ordering
cmp a b = slice_cmp nat_cmp a b

-- ---- what is below what

less_is : (o : Ordering) → is_lt o ≡ true → o ≡ Less
less_is Less h = refl
less_is Equal h = cc h
less_is Greater h = cc h

turned : (a b : List ℕ) → cmp a b ≡ Greater → is_below b a ≡ true
turned a b is = ap is_lt (nat_list_cmp_total.antisymm b a ∙ ap ordering_reverse is)

not_turned : (a b : List ℕ) → is_below a b ≡ true → is_below b a ≡ false
not_turned a b is = ap is_lt (nat_list_cmp_total.antisymm b a ∙ ap ordering_reverse (less_is (cmp a b) is))

below_other : (a b : List ℕ) → is_below a b ≡ true → bytes_eq b a ≡ false
below_other a b is = differ b a (λ same. let both : Equal ≡ Less = sym (tied_itself nat_list_cmp_total a) ∙ ap (cmp a) (sym same) ∙ less_is (cmp a b) is in cc both)

above_other : (a b : List ℕ) → is_below b a ≡ true → bytes_eq b a ≡ false
above_other a b is = differ b a (λ same. let both : Equal ≡ Less = sym (tied_itself nat_list_cmp_total a) ∙ ap (λ x. cmp x a) (sym same) ∙ less_is (cmp b a) is in cc both)

-- ---- names that rise, by places

rise_at : (ws : List (List ℕ)) (i j : ℕ) (d : List ℕ) → names_rise ws ≡ true → i < j → j < length ws → is_below (get_or ws i d) (get_or ws j d) ≡ true
rise_at [] i j d up less within = absurd (omega arith)
rise_at (w ∷ ws) i zero d up less within = absurd (omega arith)
rise_at (w ∷ ws) zero (suc j) d up less within =
    and_at (list_all (is_below w)) (is_below w) refl (λ _ _. refl) ws j d (omega arith) (and_parts (list_all (is_below w) ws) (names_rise ws) up).0
rise_at (w ∷ ws) (suc i) (suc j) d up less within = rise_at ws i j d (and_parts (list_all (is_below w) ws) (names_rise ws) up).1 (omega arith) (omega arith)

-- so they can be searched
pub searchable : (ws : List (List ℕ)) (w : List ℕ) → names_rise ws ≡ true → IsNonDecreasingBy (λ v. ordering_index (cmp v w)) ws
searchable ws w up = searchable_from_sorted nat_list_cmp_total (λ v. v) ws w sorted
  where
    sorted : IsSortedBy is_below ws
    sorted = λ k d from to. not_turned (get_or ws k d) (get_or ws (k + 1) d) (rise_at ws k (k + 1) d up (omega arith) to)

-- ---- one more

all_insert : (P : List ℕ → Bool) (w : List ℕ) (ws : List (List ℕ)) (i : ℕ) → P w ≡ true → list_all P ws ≡ true → list_all P (insert ws i w) ≡ true
all_insert P w ws i one all =
    let two = and_parts (list_all P (take i ws)) (list_all P (drop i ws)) (sym (list_all-append P (take i ws) (drop i ws)) ∙ ap (list_all P) (take-append-drop i ws) ∙ all) in
    list_all-append P (take i ws) (w ∷ drop i ws) ∙ and_from _ _ two.0 (and_from (P w) _ one two.1)

insert_rises : (w : List ℕ) (ws : List (List ℕ)) (i : ℕ) → names_rise ws ≡ true → i ≤ length ws → ((k : ℕ) → k < i → is_below (get_or ws k []) w ≡ true) → ((k : ℕ) → i ≤ k → k < length ws → is_below w (get_or ws k []) ≡ true)
    → names_rise (insert ws i w) ≡ true
insert_rises w ws zero up le below above = and_from _ (names_rise ws) (and_from_places (list_all (is_below w)) (is_below w) refl (λ _ _. refl) ws [] (λ k less. above k (omega arith) less)) up
insert_rises w [] (suc i) up le below above = absurd (omega arith)
insert_rises w (v ∷ ws) (suc i) up le below above =
    let two = and_parts (list_all (is_below v) ws) (names_rise ws) up in
    and_from _ (names_rise (insert ws i w)) (all_insert (is_below v) w ws i (below 0 (omega arith)) two.0)
    (insert_rises w ws i two.1 (omega arith) (λ k less. below (suc k) (omega arith)) (λ k from to. above (suc k) (omega arith) (omega arith)))

has_insert : (v w : List ℕ) (ws : List (List ℕ)) (i : ℕ) → has_text v (insert ws i w) ≡ (bytes_eq v w || has_text v ws)
has_insert v w ws i =
    list_any-append (bytes_eq v) (take i ws) (w ∷ drop i ws) ∙ moved (has_text v (take i ws)) (bytes_eq v w) (has_text v (drop i ws))
    ∙ ap (λ b. bytes_eq v w || b) (sym (list_any-append (bytes_eq v) (take i ws) (drop i ws)) ∙ ap (has_text v) (take-append-drop i ws))
  where
    moved : (a b c : Bool) → (a || (b || c)) ≡ (b || (a || c))
    moved true true c = refl
    moved true false c = refl
    moved false true c = refl
    moved false false c = refl

-- ---- what a search found

has_at : (w : List ℕ) (ws : List (List ℕ)) (i : ℕ) → i < length ws → get_or ws i [] ≡ w → has_text w ws ≡ true
has_at w [] i within is = absurd (omega arith)
has_at w (v ∷ ws) zero within is = or_left (bytes_eq w v) (has_text w ws) ((bytes_eq-Decides w v).1 (sym is))
has_at w (v ∷ ws) (suc i) within is = or_right (bytes_eq w v) (has_text w ws) (has_at w ws i (omega arith) is)

none_of : (w : List ℕ) (ws : List (List ℕ)) → ((k : ℕ) → k < length ws → bytes_eq w (get_or ws k []) ≡ false) → has_text w ws ≡ false
none_of w [] other = refl
none_of w (v ∷ ws) other = rw (other 0 (omega arith)) (none_of w ws (λ k less. other (suc k) (omega arith)))

pub was_there : (w : List ℕ) (ws : List (List ℕ)) (i : ℕ) → i < length ws → HoldsAt (λ v. cmp v w ≡ Equal) ws i → AddsText ws ws w false
was_there w ws i within found = record { told = rw there refl; has = λ v. by v (bytes_eq v w) refl }
  where
    there : has_text w ws ≡ true
    there = has_at w ws i within (exact_bytes (get_or ws i []) w (found []))

    by : (v : List ℕ) (b : Bool) → bytes_eq v w ≡ b → has_text v ws ≡ (b || has_text v ws)
    by v true is = rw ((bytes_eq-Decides v w).0 is) there
    by v false is = refl

module _ (w : List ℕ) (ws : List (List ℕ)) (i : ℕ) (up : names_rise ws ≡ true) (within : i ≤ length ws) (less : AllWithin (λ v. cmp v w ≡ Less) ws 0 i) (greater : AllWithin (λ v. cmp v w ≡ Greater) ws i (length ws)) where
  pub rises_with : names_rise (insert ws i w) ≡ true
  rises_with = insert_rises w ws i up within (λ k below. ap is_lt (less k [] (omega arith) below)) (λ k from to. turned (get_or ws k []) w (greater k [] from to))

  pub was_new : AddsText ws (insert ws i w) w true
  was_new = record { told = rw none refl; has = λ v. has_insert v w ws i }
    where
      none : has_text w ws ≡ false
      none = none_of w ws (λ k to. elim (cases_lt k i) [
        | inl before ↦ below_other (get_or ws k []) w (ap is_lt (less k [] (omega arith) before))
        | inr past ↦ above_other (get_or ws k []) w (turned (get_or ws k []) w (greater k [] past to))
      ])
