-- The first of a list.
use Rattle.std.proofs.Common.{◌≡◌, List, [], ◌∷◌, ◌↔◌, drop, refl, sym, ap, ◌∙◌, Some, None, is_some}
use Rattle.collector_steps.proofs.Words.{IsTrue, same_Some, slice_get}

pub some_first : {X : Type 0} (xs : List X) → IsTrue (is_some (slice_get xs 0)) ↔ ¬ (xs ≡ [])
some_first [] = ((λ h. cc), (λ none. elim (none refl) [ ]))
some_first (x ∷ xs) = ((λ h is. cc), (λ h. refl))

-- it is that of a list that is given by its first and the rest
pub first_of : {X : Type 0} (xs rest : List X) (x y : X) → xs ≡ x ∷ rest → slice_get xs 0 ≡ Some y → (y ≡ x) × (drop 1 xs ≡ rest)
first_of {X = X} xs rest x y is first = (same_Some y x (sym first ∙ ap (λ (l : List X). slice_get l 0) is), ap (λ (l : List X). drop 1 l) is)

pub none_first : {X : Type 0} (xs : List X) → slice_get xs 0 ≡ None → xs ≡ []
none_first [] h = refl
none_first (x ∷ xs) h = cc

pub head_of : {X : Type 0} (xs : List X) (y : X) → slice_get xs 0 ≡ Some y → xs ≡ y ∷ drop 1 xs
head_of [] y h = cc
head_of (x ∷ xs) y h = ap (λ z. z ∷ xs) (same_Some x y h)
