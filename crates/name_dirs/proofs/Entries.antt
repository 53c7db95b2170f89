-- Lists of entries, of which one is another; and the entries of a table by its rows.
use Rattle.std.proofs.Common.{◌≡◌, ◌≢◌, ℕ, zero, suc, ◌+◌, ◌-◌, ◌<◌, ◌≤◌, Bool, true, false, Option, Some, None, List, [], ◌∷◌, length, map, set, get_or, refl, sym, ◌∙◌, ap, arith, ◌==◌, not}
use Rattle.std.specs.Prelude.{if◌then◌else◌, nat_lt}
use Rattle.std.specs.List.{list_all, position, position_or_len, range_with_len}
use Rattle.std.specs.Str.{bytes_eq}
use Rattle.std.proofs.lemmas.Bool.{and_from, and_parts, eqb-false, eqb-true}
use Rattle.std.proofs.lemmas.Bool.Decides.{nat_tests}
use Rattle.std.proofs.lemmas.List.{length-map, length-set}
use Rattle.std.proofs.lemmas.List.FromFn.{length-range_with_len}
use Rattle.std.proofs.lemmas.Slice.Eq.{bytes_eq-Decides}
use Rattle.cfs_base.specs.declared.identifier.Puid.{Puid}
use Rattle.name_dirs.specs.Directory.{Entry, empty_entry}
use Rattle.name_dirs.specs.Names.{has_name, id_under, is_called}
use Rattle.name_dirs.specs.Text.{are_distinct, is_other}
use Rattle.name_dirs.proofs.Rows.{differ}

strictly : (a k : ℕ) → a ≤ k → a ≢ k → a + 1 ≤ k
strictly a k from other = omega (arith, from, other)

-- ---- what is told of each of some numbers in a row, of which one is told otherwise

module _ {X : Type 0} where
  pub map_same : (F G : ℕ → X) (a n : ℕ) → ((m : ℕ) → a ≤ m → m < a + n → F m ≡ G m) → map F (range_with_len a n) ≡ map G (range_with_len a n)
  map_same F G a zero same = refl
  map_same F G a (suc n) same = rw (same a (omega arith) (omega arith), map_same F G (a + 1) n (λ m from to. same m (omega (arith, from)) (omega (arith, to)))) refl

  pub map_set : (F G : ℕ → X) (k a n : ℕ) → a ≤ k → k < a + n → ((m : ℕ) → a ≤ m → m < a + n → m ≢ k → F m ≡ G m) → map F (range_with_len a n) ≡ set (map G (range_with_len a n)) (k - a) (F k)
  map_set F G k a zero from to same = absurd (omega (arith, from, to))
  map_set F G k a (suc n) from to same = by (a == k) refl (λ past. map_set F G k (a + 1) n past (omega (arith, to)) (λ m above below other. same m (omega (arith, above)) (omega (arith, below)) other))
    where
      by : (b : Bool) → (a == k) ≡ b → (a + 1 ≤ k → map F (range_with_len (a + 1) n) ≡ set (map G (range_with_len (a + 1) n)) (k - (a + 1)) (F k)) → map F (range_with_len a (suc n)) ≡ set (map G (range_with_len a (suc n))) (k - a) (F k)
      by true is on =
          let here : a ≡ k = eqb-true a k is in
          let none : k - a ≡ 0 = omega (arith, here) in
          rw (none, here, map_same F G (k + 1) n (λ m above below. same m (omega (arith, above, here)) (omega (arith, below, here)) (λ e. absurd (omega (arith, e, above))))) refl
      by false is on =
          let past = strictly a k from (eqb-false a k is) in
          let next : k - a ≡ suc (k - (a + 1)) = omega (arith, past) in
          rw (next, same a (omega arith) (omega arith) (eqb-false a k is), on past) refl

  pub map_at : (F : ℕ → X) (d : X) (a n m : ℕ) → m < n → get_or (map F (range_with_len a n)) m d ≡ F (a + m)
  map_at F d a zero m less = absurd (omega (arith, less))
  map_at F d a (suc n) zero less = ap F (omega arith)
  map_at F d a (suc n) (suc m) less = map_at F d (a + 1) n m (omega (arith, less)) ∙ ap F (omega arith)

  pub length_map : (F : ℕ → X) (a n : ℕ) → length (map F (range_with_len a n)) ≡ n
  length_map F a n = length-map (range_with_len a n) F ∙ length-range_with_len a n

-- ---- what a name leads to

-- nothing where no entry has it
pub under_none : (w : List ℕ) (es : List Entry) → ((m : ℕ) → m < length es → has_name w (get_or es m empty_entry) ≡ false) → id_under w es ≡ None
under_none w [] none = refl
under_none w (e ∷ es) none = rw (none 0 (omega arith)) (under_none w es (λ m less. none (suc m) (omega (arith, less))))

-- the identifier of the first that has it
pub under_first : (w : List ℕ) (es : List Entry) (k : ℕ) → k < length es → has_name w (get_or es k empty_entry) ≡ true → ((m : ℕ) → m < k → has_name w (get_or es m empty_entry) ≡ false) → id_under w es ≡ (get_or es k empty_entry).id
under_first w [] k within has before = absurd (omega (arith, within))
under_first w (e ∷ es) zero within has before = rw has refl
under_first w (e ∷ es) (suc k) within has before = rw (before 0 (omega arith)) (under_first w es k (omega (arith, within)) has (λ m less. before (suc m) (omega (arith, less))))

-- an entry that has it neither before nor after
pub under_other : (w : List ℕ) (es : List Entry) (k : ℕ) (e : Entry) → has_name w (get_or es k empty_entry) ≡ false → has_name w e ≡ false → id_under w (set es k e) ≡ id_under w es
under_other w [] k e was now = refl
under_other w (x ∷ es) zero e was now = rw (was, now) refl
under_other w (x ∷ es) (suc k) e was now = rw (under_other w es k e was now) refl

pub set_at : (es : List Entry) (k : ℕ) (e : Entry) → k < length es → get_or (set es k e) k empty_entry ≡ e
set_at [] k e within = absurd (omega (arith, within))
set_at (x ∷ es) zero e within = refl
set_at (x ∷ es) (suc k) e within = set_at es k e (omega (arith, within))

pub set_off : (es : List Entry) (k : ℕ) (e : Entry) (m : ℕ) → m ≢ k → get_or (set es k e) m empty_entry ≡ get_or es m empty_entry
set_off [] k e m other = refl
set_off (x ∷ es) zero e zero other = absurd (other refl)
set_off (x ∷ es) zero e (suc m) other = refl
set_off (x ∷ es) (suc k) e zero other = refl
set_off (x ∷ es) (suc k) e (suc m) other = set_off es k e m (λ same. other (ap suc same))

-- one entry is another, and no third has the name
module _ (w : List ℕ) (es : List Entry) (k : ℕ) (e : Entry) (within : k < length es) (only : (m : ℕ) → m < length es → m ≢ k → has_name w (get_or es m empty_entry) ≡ false) where
  pub under_now : has_name w e ≡ true → id_under w (set es k e) ≡ e.id
  under_now has =
      under_first w (set es k e) k (omega (arith, within, length-set es k e)) (ap (has_name w) (set_at es k e within) ∙ has)
      (λ m less. ap (has_name w) (set_off es k e m (λ same. absurd (omega (arith, less, same)))) ∙ only m (omega (arith, less, within)) (λ same. absurd (omega (arith, less, same))))
      ∙ ap (λ (x : Entry). x.id) (set_at es k e within)

  pub under_gone : has_name w e ≡ false → id_under w (set es k e) ≡ None
  under_gone none = under_none w (set es k e) (λ m less. by m (m == k) refl (omega (arith, less, length-set es k e)))
    where
      by : (m : ℕ) (b : Bool) → (m == k) ≡ b → m < length es → has_name w (get_or (set es k e) m empty_entry) ≡ false
      by m true is less = ap (λ (n : ℕ). has_name w (get_or (set es k e) n empty_entry)) (eqb-true m k is) ∙ ap (has_name w) (set_at es k e within) ∙ none
      by m false is less = ap (has_name w) (set_off es k e m (eqb-false m k is)) ∙ only m less (eqb-false m k is)

-- of all names one leads to something else
module _ (w : List ℕ) (es : List Entry) (k : ℕ) (e : Entry) (within : k < length es) (only : (m : ℕ) → m < length es → m ≢ k → has_name w (get_or es m empty_entry) ≡ false)
    (was : (v : List ℕ) → bytes_eq v w ≡ false → has_name v (get_or es k empty_entry) ≡ false) (now : (v : List ℕ) → bytes_eq v w ≡ false → has_name v e ≡ false) where
  abbrev Leads : Option Puid → Type 0
  Leads what = (v : List ℕ) → id_under v (set es k e) ≡ (if bytes_eq v w then what else id_under v es)

  leads_by : (what : Option Puid) → id_under w (set es k e) ≡ what → Leads what
  leads_by what is v = by (bytes_eq v w) refl
    where
      by : (b : Bool) → bytes_eq v w ≡ b → id_under v (set es k e) ≡ (if b then what else id_under v es)
      by true same = ap (λ x. id_under x (set es k e)) ((bytes_eq-Decides v w).0 same) ∙ is
      by false other = under_other v es k e (was v other) (now v other)

  pub leads_to : has_name w e ≡ true → Leads e.id
  leads_to has = leads_by e.id (under_now w es k e within only has)

  pub leads_nowhere : has_name w e ≡ false → Leads None
  leads_nowhere none = leads_by None (under_gone w es k e within only none)

-- an entry without a name has another identifier
pub leads_alike : (es : List Entry) (k : ℕ) (e : Entry) → (get_or es k empty_entry).name ≡ None → e.name ≡ None → (v : List ℕ) → id_under v (set es k e) ≡ id_under v es
leads_alike es k e was now v = under_other v es k e (ap (is_called v) was) (ap (is_called v) now)

-- ---- places

pub found_at : (p : Entry → Bool) (es : List Entry) (k : ℕ) → k < length es → p (get_or es k empty_entry) ≡ true → ((m : ℕ) → m < k → p (get_or es m empty_entry) ≡ false) → position p es ≡ Some k
found_at p es k within has before =
    let is = first p es k within has before in
    rw is (let less : nat_lt k (length es) ≡ true = grind (arith, nat_tests) in rw less refl)
  where
    first : (p : Entry → Bool) (es : List Entry) (k : ℕ) → k < length es → p (get_or es k empty_entry) ≡ true → ((m : ℕ) → m < k → p (get_or es m empty_entry) ≡ false) → position_or_len p es ≡ k
    first p [] k within has before = absurd (omega (arith, within))
    first p (e ∷ es) zero within has before = rw has refl
    first p (e ∷ es) (suc k) within has before = rw (before 0 (omega arith), first p es k (omega (arith, within)) has (λ m less. before (suc m) (omega (arith, less)))) (omega arith)

pub found_none : (p : Entry → Bool) (es : List Entry) → ((m : ℕ) → m < length es → p (get_or es m empty_entry) ≡ false) → position p es ≡ None
found_none p es none =
    let is = past p es none in
    rw is (let more : nat_lt (length es) (length es) ≡ false = grind (arith, nat_tests) in rw more refl)
  where
    past : (p : Entry → Bool) (es : List Entry) → ((m : ℕ) → m < length es → p (get_or es m empty_entry) ≡ false) → position_or_len p es ≡ length es
    past p [] none = refl
    past p (e ∷ es) none = rw (none 0 (omega arith), past p es (λ m less. none (suc m) (omega (arith, less)))) (omega arith)

-- ---- names that differ

pub other_from : (v : Option (List ℕ)) (w : List ℕ) → v ≢ Some w → (is_other v (Some w) ≡ true) × (is_other (Some w) v ≡ true) × (is_called w v ≡ false)
other_from None w other = (refl, refl, refl)
other_from (Some v) w other =
    let one : bytes_eq v w ≡ false = differ v w (λ same. other (ap Some same)) in
    let two : bytes_eq w v ≡ false = differ w v (λ same. other (ap Some (sym same))) in
    (ap not one, ap not two, two)

-- a name that differs from all is none of them
none_of : (names : List (Option (List ℕ))) (j : ℕ) (w : List ℕ) → list_all (is_other (Some w)) names ≡ true → get_or names j None ≡ Some w → ⊥
none_of [] j w all is = cc is
none_of (n ∷ names) zero w all is =
    let self : not (bytes_eq w w) ≡ true = sym (ap (is_other (Some w)) is) ∙ (and_parts (is_other (Some w) n) (list_all (is_other (Some w)) names) all).0 in
    let same : bytes_eq w w ≡ true = (bytes_eq-Decides w w).1 refl in cc (self, same)
none_of (n ∷ names) (suc j) w all is = none_of names j w (and_parts (is_other (Some w) n) (list_all (is_other (Some w)) names) all).1 is

pub distinct_at : (names : List (Option (List ℕ))) (i j : ℕ) (w : List ℕ) → are_distinct names ≡ true → i ≢ j → get_or names i None ≡ Some w → get_or names j None ≡ Some w → ⊥
distinct_at [] i j w distinct other is same = cc is
distinct_at (name ∷ names) zero zero w distinct other is same = other refl
distinct_at (name ∷ names) zero (suc j) w distinct other is same = none_of names j w (ap (λ n. list_all (is_other n) names) (sym is) ∙ (and_parts (list_all (is_other name) names) (are_distinct names) distinct).0) same
distinct_at (name ∷ names) (suc i) zero w distinct other is same = none_of names i w (ap (λ n. list_all (is_other n) names) (sym same) ∙ (and_parts (list_all (is_other name) names) (are_distinct names) distinct).0) is
distinct_at (name ∷ names) (suc i) (suc j) w distinct other is same =
    distinct_at names i j w (and_parts (list_all (is_other name) names) (are_distinct names) distinct).1 (λ e. other (ap suc e)) is same

-- one name is another that differs from all, or none
pub distinct_set : (names : List (Option (List ℕ))) (k : ℕ) (x : Option (List ℕ)) → are_distinct names ≡ true → ((m : ℕ) → m < length names → m ≢ k → (is_other (get_or names m None) x ≡ true) × (is_other x (get_or names m None) ≡ true)) → are_distinct (set names k x) ≡ true
distinct_set [] k x distinct others = refl
distinct_set (name ∷ names) zero x distinct others =
    let two = and_parts (list_all (is_other name) names) (are_distinct names) distinct in
    and_from _ _ (all names (λ m less. (others (suc m) (omega (arith, less)) (λ e. absurd (omega (arith, e)))).1)) two.1
  where
    all : (names : List (Option (List ℕ))) → ((m : ℕ) → m < length names → is_other x (get_or names m None) ≡ true) → list_all (is_other x) names ≡ true
    all [] each = refl
    all (n ∷ names) each = and_from (is_other x n) _ (each 0 (omega arith)) (all names (λ m less. each (suc m) (omega (arith, less))))
distinct_set (name ∷ names) (suc k) x distinct others =
    let two = and_parts (list_all (is_other name) names) (are_distinct names) distinct in
    and_from _ _ (all_set names k two.0) (distinct_set names k x two.1 (λ m less other. others (suc m) (omega (arith, less)) (λ e. other (omega (arith, e)))))
  where
    all_set : (names : List (Option (List ℕ))) (k : ℕ) → list_all (is_other name) names ≡ true → list_all (is_other name) (set names k x) ≡ true
    all_set [] k all = refl
    all_set (n ∷ names) zero all = and_from (is_other name x) _ (others 0 (omega arith) (λ e. absurd (omega (arith, e)))).0 (and_parts (is_other name n) _ all).1
    all_set (n ∷ names) (suc k) all = let two = and_parts (is_other name n) _ all in and_from (is_other name n) _ two.0 (all_set names k two.1)
