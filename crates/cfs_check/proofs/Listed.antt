-- The list of the root blocks that were found, and its table.
use Rattle.std.proofs.Common.{◌≡◌, ◌≢◌, ◌⊎◌, inl, inr, ℕ, zero, suc, ◌+◌, ◌<◌, Bool, true, false, not, ◌||◌, ◌==◌, List, [], ◌∷◌, ◌++◌, length, get_or, set, count_by, replicate, Some, refl, sym, ◌∙◌, ap, subst, arith, get_or-set_other, get_or-set_same, length-append, length-set}
use Rattle.std.proofs.lemmas.Bool.{cases_eq, eq-eqb, eqb-true, ne_eqb, or_cases, or_left, or_right}
use Rattle.std.proofs.lemmas.List.Sums.{sum_by-cons, sum_by-set}
use Rattle.std.proofs.lemmas.Option.{slice_get-get_or}
use Rattle.std.specs.Prelude.{slice_get}
use Rattle.std.proofs.lemmas.List.Folds.{list_any-append}
use Rattle.ufs_model.proofs.Rising.{here, later}
use Rattle.ufs_model.specs.Numbers.{has_number}
use Rattle.vol_owners.specs.Room.{one_of}
use Rattle.cfs_recover.proofs.Noting.{push_from}
use Rattle.cfs_check.specs.Roots.{AreFoundRoots}

-- ---- members

-- what was indexed stands on the list
pub read_at : {A : Type 0} (xs : List A) (k : ℕ) (x : A) → k < length xs → x ≡ get_or xs k x → slice_get xs k ≡ Some x
read_at xs k x inside is = slice_get-get_or xs k x inside ∙ ap Some (sym is)

pub has_at : (xs : List ℕ) (k x : ℕ) → slice_get xs k ≡ Some x → has_number x xs ≡ true
has_at [] k x at = cc
has_at (y ∷ xs) zero x at = let same : y ≡ x = cc in subst (λ (z : ℕ). has_number z (y ∷ xs) ≡ true) same (here y xs)
has_at (y ∷ xs) (suc k) x at = later x y xs (has_at xs k x at)

pub place_in : (xs : List ℕ) (x : ℕ) → has_number x xs ≡ true → (k : ℕ) × (slice_get xs k ≡ Some x)
place_in [] x has = cc
place_in (y ∷ xs) x has = elim (or_cases (y == x) (has_number x xs) has) [
  | inl is ↦ (0, ap Some (eqb-true y x is))
  | inr rest ↦ let at = place_in xs x rest in (suc at.0, at.1)
]

pub has_push : (xs : List ℕ) (y x : ℕ) → has_number x (xs ++ y ∷ []) ≡ (has_number x xs || ((y == x) || false))
has_push xs y x = list_any-append (λ m. m == x) xs (y ∷ [])

-- ---- one more

module _ (found : List ℕ) (has : List Bool) (b : ℕ) (are : AreFoundRoots found has) (below : b < length has) (none : get_or has b false ≡ false) where
  unlisted : has_number b found ≡ false
  unlisted = sym (are.told b below) ∙ none

  pub listed_more : AreFoundRoots (found ++ b ∷ []) (set has b true)
  listed_more = record {
    few = omega (arith, are.few, length-append found (b ∷ []), length-set has b true, sum_by-set (λ (h : Bool). one_of (not h)) has b true false below, ap (λ (h : Bool). one_of (not h)) none);
    small = omega (arith, are.small, length-set has b true);
    told = λ n inside. elim (cases_eq n b) [
      | inl same ↦
          subst (λ (m : ℕ). get_or (set has b true) m false ≡ has_number m (found ++ b ∷ [])) (sym same)
          (get_or-set_same has b true false below ∙ sym (has_push found b b ∙ or_right (has_number b found) _ (or_left (b == b) false (eq-eqb b b refl))))
      | inr other ↦
          get_or-set_other has b n true false other ∙ are.told n (omega (arith, inside, length-set has b true))
          ∙ sym (has_push found b n ∙ ap (λ (t : Bool). has_number n found || (t || false)) (ne_eqb b n (λ same. other (sym same))) ∙ or_false (has_number n found))
    ];
    within = λ n is. elim (or_cases (has_number n found) _ (sym (has_push found b n) ∙ is)) [
      | inl was ↦ omega (arith, are.within n was, length-set has b true)
      | inr now ↦ elim (or_cases (b == n) false now) [ inl same ↦ omega (arith, below, eqb-true b n same, length-set has b true) | inr never ↦ cc ]
    ];
    once = λ j k n one two. elim (push_from found b n j one) [
      | inl was ↦ elim (push_from found b n k two) [
        | inl too ↦ are.once j k n was too
        | inr now ↦ absurd (clash (sym unlisted ∙ ap (λ (m : ℕ). has_number m found) now.1 ∙ has_at found j n was))
      ]
      | inr first ↦ elim (push_from found b n k two) [
        | inl was ↦ absurd (clash (sym unlisted ∙ ap (λ (m : ℕ). has_number m found) first.1 ∙ has_at found k n was))
        | inr now ↦ first.0 ∙ sym now.0
      ]
    ];
  }
    where
      or_false : (t : Bool) → (t || false) ≡ t
      or_false true = refl
      or_false false = refl

      clash : false ≡ true → ⊥
      clash differ = cc

-- none yet
pub none_listed : (n : ℕ) → n < 4294967296 → AreFoundRoots [] (replicate n false)
none_listed n small = record {
  few = all n;
  small = omega (arith, long n, small);
  told = λ m below. none n m;
  within = λ m is. cc;
  once = λ j k m one two. cc;
}
  where
    long : (n : ℕ) → length (replicate n false) ≡ n
    long zero = refl
    long (suc n) = ap suc (long n)

    all : (n : ℕ) → length (replicate n false) ≡ 0 + count_by not (replicate n false)
    all zero = refl
    all (suc n) = omega (arith, all n, sum_by-cons (λ (h : Bool). one_of (not h)) false (replicate n false))

    none : (n m : ℕ) → get_or (replicate n false) m false ≡ false
    none zero m = refl
    none (suc n) zero = refl
    none (suc n) (suc m) = none n m
