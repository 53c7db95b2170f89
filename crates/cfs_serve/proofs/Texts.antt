-- Texts that are written one after the other: what is left where one fails, and what the last leaves.
use Rattle.std.proofs.Common.{◌≡◌, ℕ, zero, suc, ◌+◌, List, [], ◌∷◌, ◌++◌, take, drop, Some, slice_get, sym, ap, ◌∙◌, subst, Result, arith}
use Rattle.cfs_serve.proofs.Cited.{Intake, WritesWhole, Wrote, WroteSome, append-nil, cut, flat_map, flat_map-append, take-append-drop, then, then_some, then_whole}
use Rattle.cfs_serve.proofs.Logs.{some_same}

pub first_of_three : (a b : Intake) (x y z : List ℕ) → WroteSome a b x → WroteSome a b (x ++ y ++ z)
first_of_three a b x y z one = cut a b (x ++ y) z (cut a b x y one)

pub second_of_three : (a b c : Intake) (x y z : List ℕ) → Wrote a b x → WroteSome b c y → WroteSome a c (x ++ y ++ z)
second_of_three a b c x y z one two = cut a c (x ++ y) z (then_some a b c x y one two)

pub first_of_four : (a b : Intake) (w x y z : List ℕ) → WroteSome a b w → WroteSome a b (w ++ x ++ y ++ z)
first_of_four a b w x y z one = cut a b (w ++ x ++ y) z (first_of_three a b w x y one)

pub second_of_four : (a b c : Intake) (w x y z : List ℕ) → Wrote a b w → WroteSome b c x → WroteSome a c (w ++ x ++ y ++ z)
second_of_four a b c w x y z one two = cut a c (w ++ x ++ y) z (second_of_three a b c w x y one two)

pub third_of_four : (a b c d : Intake) (w x y z : List ℕ) → Wrote a b w → Wrote b c x → WroteSome c d y → WroteSome a d (w ++ x ++ y ++ z)
third_of_four a b c d w x y z one two three = cut a d (w ++ x ++ y) z (then_some a c d (w ++ x) y (then a b c w x one two) three)

pub last_of_four : {T E : Type 0} (r : Result T E) (a b c d e : Intake) (w x y z : List ℕ) → Wrote a b w → Wrote b c x → Wrote c d y → WritesWhole d e z r → WritesWhole a e (w ++ x ++ y ++ z) r
last_of_four r a b c d e w x y z one two three four = then_whole r a d e (w ++ x ++ y) z (then a c d (w ++ x) y (then a b c w x one two) three) four

-- ---- a line for each

module _ {A : Type 0} (line : A → List ℕ) where
  take_more : (xs : List A) (n : ℕ) (x : A) → slice_get xs n ≡ Some x → take (suc n) xs ≡ take n xs ++ x ∷ []
  take_more [] n x at = absurd (cc at)
  take_more (y ∷ xs) zero x at = ap (λ z. z ∷ []) (some_same y x at)
  take_more (y ∷ xs) (suc n) x at = ap (λ l. y ∷ l) (take_more xs n x at)

  -- one line more
  pub one_more : (xs : List A) (n : ℕ) (x : A) → slice_get xs n ≡ Some x → flat_map line (take (n + 1) xs) ≡ flat_map line (take n xs) ++ line x
  one_more xs n x at =
      let next : n + 1 ≡ suc n = omega arith in
      ap (λ m. flat_map line (take m xs)) next ∙ ap (flat_map line) (take_more xs n x at) ∙ flat_map-append line (take n xs) (x ∷ []) ∙ ap (λ l. flat_map line (take n xs) ++ l) (append-nil (line x))

  -- and those behind
  pub cut_at : (xs : List A) (n : ℕ) → flat_map line xs ≡ flat_map line (take n xs) ++ flat_map line (drop n xs)
  cut_at xs n = ap (flat_map line) (sym (take-append-drop n xs)) ∙ flat_map-append line (take n xs) (drop n xs)

  -- a line that was written, or broke off, behind the lines before it
  pub line_wrote : (a b c : Intake) (xs : List A) (n : ℕ) (x : A) → slice_get xs n ≡ Some x → Wrote a b (flat_map line (take n xs)) → Wrote b c (line x) → Wrote a c (flat_map line (take (n + 1) xs))
  line_wrote a b c xs n x at before now = subst (Wrote a c) (sym (one_more xs n x at)) (then a b c (flat_map line (take n xs)) (line x) before now)

  pub line_broke : (a b c : Intake) (xs : List A) (n : ℕ) (x : A) → slice_get xs n ≡ Some x → Wrote a b (flat_map line (take n xs)) → WroteSome b c (line x) → WroteSome a c (flat_map line xs)
  line_broke a b c xs n x at before now =
      let some : WroteSome a c (flat_map line (take n xs) ++ line x) = then_some a b c (flat_map line (take n xs)) (line x) before now in
      subst (WroteSome a c) (sym (cut_at xs (n + 1))) (cut a c (flat_map line (take (n + 1) xs)) (flat_map line (drop (n + 1) xs)) (subst (WroteSome a c) (sym (one_more xs n x at)) some))
