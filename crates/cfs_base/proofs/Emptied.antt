-- A list of which it is told that it isn't some, is none.
use Rattle.std.proofs.Common.{◌≡◌, ◌↔◌, List, [], ◌∷◌, refl, Bool, false}
use Rattle.std.specs.Prelude.{IsTrue}

pub emptied : {X : Type 0} (xs : List X) (some : Bool) → IsTrue some ↔ ¬ (xs ≡ []) → some ≡ false → xs ≡ []
emptied [] some told none = refl
emptied (x ∷ xs) some told none = let is : IsTrue some = told.1 (λ h. cc) in cc
