use Rattle.std.proofs.Common.{◌≡◌, ℕ, ◌<◌, ◌≤◌, List, length, get_or, Result, Ok, Err, MatchResult, IsTrue, Bool, subst, refl, sym, arith, ◌∙◌, Contains, inl, inr}
use Rattle.std.specs.Result.{is_ok}
use Rattle.std.proofs.lemmas.Grind.{get_or_default_zero}
use Rattle.std.proofs.lemmas.Bool.{cases_lt, false≢true}
use Rattle.std.specs.Ordering.{nat_cmp}
use Rattle.std.specs.List.Sorted.{IsBinarySearchResult}
use Rattle.std.proofs.lemmas.List.Sorted.{searched, IsNonDecreasingBy-from_sort}
use Rattle.cfs_fakes.proofs.listed.Listed.contains.Goals as goal

-- a search in ascending numbers finds what is there
found_is : (xs : List ℕ) (x : ℕ) (r : Result ℕ ℕ) → MatchResult r (λ i. (i < length xs) × (get_or xs i 0 ≡ x)) (λ i. (i ≤ length xs) × ((k : ℕ) → k < i → get_or xs k 0 < x) × ((k : ℕ) → i ≤ k → k < length xs → x < get_or xs k 0))
    → (IsTrue (is_ok r) → Contains xs x) × (Contains xs x → IsTrue (is_ok r))
found_is xs x (Ok i) h = (λ yes. (i, h.0, get_or_default_zero xs i x h.0 ∙ h.1), λ has. refl)
found_is xs x (Err i) h = (
  λ no. absurd (false≢true no),
  λ has.
      let here : get_or xs has.0 0 ≡ x = sym (get_or_default_zero xs has.0 x has.1) ∙ has.2 in
      elim (cases_lt has.0 i) [ inl before ↦ absurd (omega (arith, h.1 has.0 before)) | inr after ↦ absurd (omega (arith, h.2 has.0 after has.1)) ],
)

pub returns : goal.returns
returns c =
    let calls = c.args.self.now.calls.items in
    let call = c.args.call in
    let r = c.binary_search.result in
    let search = subst (λ (xs : List ℕ). IsBinarySearchResult (λ y. nat_cmp y call) xs r) c.deref.ensures.value c.binary_search.ensures.position in
    subst (λ (b : Bool). (IsTrue b → Contains calls call) × (Contains calls call → IsTrue b)) (sym c.is_ok.ensures.value) (found_is calls call r (searched calls call r search (λ i j le lt. IsNonDecreasingBy-from_sort (λ x. x) calls c.args.self.now.ordered i j 0 le lt)))
