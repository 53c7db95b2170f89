-- Counting and finding what passes a test.
use Rattle.std.proofs.Common.{◌≡◌, ℕ, suc, ◌+◌, ◌≤◌, Bool, true, false, cond, not, List, [], ◌∷◌, ◌↔◌, length, map, Some, None, position, count_by, refl, ◌∙◌, ap, arith}
use Rattle.cyl_map.proofs.Words.{IsNone, length-map, nat_lt, nat_tests, prefix_len, prefix_len-le-length, sum_by-cons}

module _ {X Y : Type 0} (p : Y → Bool) (f : X → Y) where
  prefix_len-map : (xs : List X) → prefix_len (λ y. not (p y)) (map f xs) ≡ prefix_len (λ x. not (p (f x))) xs
  prefix_len-map [] = refl
  prefix_len-map (x ∷ xs) = ap (λ n. cond (not (p (f x))) (1 + n) 0) (prefix_len-map xs)

  pub position-map : (xs : List X) → position p (map f xs) ≡ position (λ x. p (f x)) xs
  position-map xs =
      ap (λ n. cond (nat_lt n (length (map f xs))) (Some n) None) (prefix_len-map xs)
      ∙ ap (λ m. cond (nat_lt (prefix_len (λ x. not (p (f x))) xs) m) (Some (prefix_len (λ x. not (p (f x))) xs)) None) (length-map xs f)

module _ {X : Type 0} (p : X → Bool) where
  all_before : (xs : List X) → (prefix_len (λ x. not (p x)) xs ≡ length xs) ↔ (count_by p xs ≡ 0)
  all_before [] = (λ _. refl, λ _. refl)
  all_before (x ∷ xs) = at (p x) (prefix_len (λ x. not (p x)) xs) (count_by p xs) (length xs) (count_by p (x ∷ xs)) (sum_by-cons (λ x. cond (p x) 1 0) x xs) (all_before xs)
    where
      at : (b : Bool) (before count long all : ℕ) → all ≡ cond b 1 0 + count → (before ≡ long) ↔ (count ≡ 0) → (cond (not b) (1 + before) 0 ≡ suc long) ↔ (all ≡ 0)
      at true before count long all is same = (λ e. absurd (omega arith), λ e. absurd (omega arith))
      at false before count long all is same = (λ e. let none = same.0 (omega arith) in omega arith, λ e. let whole = same.1 (omega arith) in omega arith)

  -- none is found just where none is counted
  pub none_counted : (xs : List X) → IsNone (position p xs) ↔ (count_by p xs ≡ 0)
  none_counted xs = at (prefix_len (λ x. not (p x)) xs) (prefix_len-le-length (λ x. not (p x)) xs) (all_before xs)
    where
      at : (n : ℕ) → n ≤ length xs → (n ≡ length xs) ↔ (count_by p xs ≡ 0) → IsNone (cond (nat_lt n (length xs)) (Some n) None) ↔ (count_by p xs ≡ 0)
      at n most same = by (nat_lt n (length xs)) refl
        where
          by : (less : Bool) → nat_lt n (length xs) ≡ less → IsNone (cond less (Some n) None) ↔ (count_by p xs ≡ 0)
          by true is = (λ none. cc, λ none. let all = same.1 none in grind (arith, nat_tests))
          by false is = (λ _. same.0 (grind (arith, nat_tests)), λ _. refl)
