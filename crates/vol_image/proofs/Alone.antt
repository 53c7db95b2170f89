-- Of a run of numbers one at most passes a test.
use Rattle.std.proofs.Common.{◌≡◌, ℕ, zero, suc, ◌+◌, ◌<◌, ◌≤◌, [], ◌∷◌, length, Bool, true, false, cond, inl, inr, refl, sym, ◌∙◌, ap, arith}
use Rattle.vol_image.proofs.Words.{cases_eq, filter, range_with_len}

module _ (P : ℕ → Bool) (s : ℕ) (only : (m : ℕ) → P m ≡ true → m ≡ s) where
  none_after : (a n : ℕ) → s < a → filter P (range_with_len a n) ≡ []
  none_after a zero past = refl
  none_after a (suc n) past = elim (P a) as (λ b. P a ≡ b → cond b (a ∷ filter P (range_with_len (a + 1) n)) (filter P (range_with_len (a + 1) n)) ≡ []) [
    | true ↦ λ is. let no = only a is in absurd (omega arith)
    | false ↦ λ is. none_after (a + 1) n (omega arith)
  ] refl

  pub one_at_most : (a n : ℕ) → length (filter P (range_with_len a n)) ≤ 1
  one_at_most a zero = omega arith
  one_at_most a (suc n) = elim (P a) as (λ b. P a ≡ b → length (cond b (a ∷ filter P (range_with_len (a + 1) n)) (filter P (range_with_len (a + 1) n))) ≤ 1) [
    | true ↦ λ is. let here = only a is in let rest = none_after (a + 1) n (omega arith) in omega (arith, ap length rest)
    | false ↦ λ is. one_at_most (a + 1) n
  ] refl

  -- where that one passes it is what is left
  pub one_passes : (a n : ℕ) → P s ≡ true → a ≤ s → s < a + n → filter P (range_with_len a n) ≡ s ∷ []
  one_passes a zero passes from below = absurd (omega arith)
  one_passes a (suc n) passes from below = elim (P a) as (λ b. P a ≡ b → cond b (a ∷ filter P (range_with_len (a + 1) n)) (filter P (range_with_len (a + 1) n)) ≡ s ∷ []) [
    | true ↦ λ is. let here = only a is in rw (none_after (a + 1) n (omega arith)) (ap (λ (k : ℕ). k ∷ []) here)
    | false ↦ λ is. one_passes (a + 1) n passes (elim (cases_eq a s) [ inl same ↦ let no : true ≡ false = sym passes ∙ sym (ap P same) ∙ is in cc | inr other ↦ omega arith ]) (omega arith)
  ] refl
