-- Counting the leaves that are absent.
use Rattle.normal_files.proofs.Words.{◌≡◌, ℕ, zero, suc, ◌+◌, ◌-◌, ◌≤◌, Bool, true, false, cond, [], ◌∷◌, length, refl, ◌∙◌, ap, arith, filter, range_with_len}

module _ (P : ℕ → Bool) where
  -- one more
  pub filter_more : (a n : ℕ) → length (filter P (range_with_len a (suc n))) ≡ length (filter P (range_with_len a n)) + cond {A = ℕ} (P (a + n)) 1 0
  filter_more a zero = elim (P a) as (λ b. P a ≡ b → length (cond b (a ∷ []) []) ≡ 0 + cond {A = ℕ} (P (a + 0)) 1 0) [
    | true ↦ λ is. let at : a + 0 ≡ a = omega arith in let one : cond {A = ℕ} (P (a + 0)) 1 0 ≡ 1 = ap (λ (m : ℕ). cond {A = ℕ} (P m) 1 0) at ∙ ap (λ (b : Bool). cond {A = ℕ} b 1 0) is in omega (arith, one)
    | false ↦ λ is. let at : a + 0 ≡ a = omega arith in let none : cond {A = ℕ} (P (a + 0)) 1 0 ≡ 0 = ap (λ (m : ℕ). cond {A = ℕ} (P m) 1 0) at ∙ ap (λ (b : Bool). cond {A = ℕ} b 1 0) is in omega (arith, none)
  ] refl
  filter_more a (suc n) =
      let rest = filter_more (a + 1) n in
      let at : a + 1 + n ≡ a + suc n = omega arith in
      let last = ap (λ (m : ℕ). cond {A = ℕ} (P m) 1 0) at in
      elim (P a) as (λ b. length (cond b (a ∷ filter P (range_with_len (a + 1) (suc n))) (filter P (range_with_len (a + 1) (suc n)))) ≡ length (cond b (a ∷ filter P (range_with_len (a + 1) n)) (filter P (range_with_len (a + 1) n))) + cond {A = ℕ} (P (a + suc n)) 1 0) [
        | true ↦ omega (arith, rest, last)
        | false ↦ omega (arith, rest, last)
      ]

  pub filter_to : (from to : ℕ) → from ≤ to → length (filter P (range_with_len from (to + 1 - from))) ≡ length (filter P (range_with_len from (to - from))) + cond {A = ℕ} (P to) 1 0
  filter_to from to le =
      let n : to + 1 - from ≡ suc (to - from) = omega (arith, le) in
      let at : from + (to - from) ≡ to = omega (arith, le) in
      ap (λ (m : ℕ). length (filter P (range_with_len from m))) n ∙ filter_more from (to - from) ∙ ap (λ (m : ℕ). length (filter P (range_with_len from (to - from))) + cond {A = ℕ} (P m) 1 0) at
