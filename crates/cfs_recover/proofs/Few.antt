-- Root blocks of a list that has none twice are no more than the blocks of the volume.
use Rattle.std.proofs.Common.{◌≡◌, ◌≢◌, inl, inr, ℕ, suc, ◌<◌, ◌≤◌, Bool, true, false, List, [], ◌∷◌, length, Some, refl, arith, eqb, map}
use Rattle.cfs_recover.proofs.Words.{Found, IsSized, Listing, eqb-true, length-map, list_any, ne_eqb, or_cases, slice_get}
use Rattle.std.proofs.lemmas.Map.Steps.{length-le_from_distinct_below}
unfoldable use Rattle.std.specs.List.{IsDistinct}
use Rattle.std.specs.List.{AllByRecursion}

abbrev blocks : List Found → List ℕ
blocks xs = map (λ x. x.block) xs

abbrev IsOnce : List Found → Type 0
IsOnce xs = (j k : ℕ) (x y : Found) → slice_get xs j ≡ Some x → slice_get xs k ≡ Some y → x.block ≡ y.block → j ≡ k

less_one : (j k : ℕ) → suc j ≡ suc k → j ≡ k
less_one j k same = omega arith

apart : (n : ℕ) (xs : List Found) → ((k : ℕ) (y : Found) → slice_get xs k ≡ Some y → n ≢ y.block) → AllByRecursion (λ m. eqb n m ≡ false) (blocks xs)
apart n [] other = tt
apart n (x ∷ xs) other = (ne_eqb n x.block (other 0 x refl), apart n xs (λ k y at. other (suc k) y at))

differ : (xs : List Found) → IsOnce xs → IsDistinct eqb (blocks xs)
unfolding IsDistinct
differ [] once = tt
differ (x ∷ xs) once = (apart x.block xs (λ k y at same. let no = once 0 (suc k) x y refl at same in absurd (omega (arith, no))), differ xs (λ j k y z one two same. less_one j k (once (suc j) (suc k) y z one two same)))

below : (n : ℕ) (xs : List Found) → ((k : ℕ) (x : Found) → slice_get xs k ≡ Some x → x.block < n) → (q : ℕ) → list_any (eqb q) (blocks xs) ≡ true → q < n
below n [] each q any = cc
below n (x ∷ xs) each q any = elim (or_cases (eqb q x.block) (list_any (eqb q) (blocks xs)) any) [
  | inl here ↦ let is = eqb-true q x.block here in let less = each 0 x refl in omega (arith, is, less)
  | inr rest ↦ below n xs (λ k y at. each (suc k) y at) q rest
]

pub few_found : (directory : Listing) (found : List Found) (held : List Bool) → IsSized directory found held → length found ≤ directory.room
few_found directory found held sized =
    let few = length-le_from_distinct_below (blocks found) directory.room (differ found sized.once) (below directory.room found sized.each) in
    omega (arith, few, length-map found (λ (x : Found). x.block))
