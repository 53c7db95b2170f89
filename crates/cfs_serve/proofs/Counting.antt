-- How many events of a beginning pass a test, one event further.
use Rattle.std.proofs.Common.{◌≡◌, ℕ, zero, suc, ◌+◌, Bool, true, false, cond, List, [], ◌∷◌, length, filter, take, Some, slice_get, refl, arith, subst}
use Rattle.cfs_serve.proofs.Cited.{Event}
use Rattle.cfs_serve.proofs.Logs.{some_same}

one_more : (test : Event → Bool) (es : List Event) (n : ℕ) (e : Event) → slice_get es n ≡ Some e
    → length (filter test (take (suc n) es)) ≡ length (filter test (take n es)) + cond (test e) 1 0
one_more test [] n e at = absurd (cc)
one_more test (x ∷ es) zero e at =
    subst (λ y. length (filter test (take 1 (x ∷ es))) ≡ 0 + cond (test y) 1 0) (some_same x e at)
    (elim (test x) as (λ b. length (cond b (x ∷ []) []) ≡ 0 + cond b 1 0) [ true ↦ refl | false ↦ refl ])
one_more test (x ∷ es) (suc n) e at =
    let rest = one_more test es n e at in
    elim (test x) as (λ b. length (cond b (x ∷ filter test (take (suc n) es)) (filter test (take (suc n) es))) ≡ length (cond b (x ∷ filter test (take n es)) (filter test (take n es))) + cond (test e) 1 0) [
      | true ↦ omega (arith, rest)
      | false ↦ rest
    ]

pub counts : (test : Event → Bool) (es : List Event) (n : ℕ) (e : Event) → slice_get es n ≡ Some e
    → length (filter test (take (n + 1) es)) ≡ length (filter test (take n es)) + cond (test e) 1 0
counts test es n e at =
    let next : suc n ≡ n + 1 = omega arith in
    subst (λ m. length (filter test (take m es)) ≡ length (filter test (take n es)) + cond (test e) 1 0) next (one_more test es n e at)
