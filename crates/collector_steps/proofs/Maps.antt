-- The entries of a map that is swept, the first so many of them first.
use Rattle.std.proofs.Common.{◌≡◌, ℕ, ◌+◌, ◌<◌, List, ◌++◌, min, length, take, drop, get_or, set, map, count_by, sym, ap, ◌∙◌, arith, Bool, true, false}
use Rattle.collector_steps.proofs.Words.{MapEntry, count_by_more_no, count_by_more_yes, drop_more, unheld_entry, get_or_at, get_or_default, length-append, length-drop, length-map, length-take, map_over_more}

module _ (f : MapEntry → MapEntry) (p : MapEntry → Bool) (xs ys : List MapEntry) (i : ℕ) (is : ys ≡ map f (take i xs) ++ drop i xs) (room : length ys ≡ 64) (below : i < 64) where
  long : length (map f (take i xs)) ≡ min i (length xs)
  long = length-map (take i xs) f ∙ length-take i xs

  pub whole : length xs ≡ 64
  whole = omega (arith, ap length is, length-append (map f (take i xs)) (drop i xs), long, length-drop i xs, room, below)

  pub next_swept : set ys i (f (get_or ys i unheld_entry)) ≡ map f (take (i + 1) xs) ++ drop (i + 1) xs
  next_swept = map_over_more f xs ys i (get_or ys i unheld_entry) (omega (arith, whole, below)) is (get_or_default ys i unheld_entry (get_or ys i unheld_entry) (omega (arith, room, below)))

  at : get_or ys i unheld_entry ≡ get_or xs i unheld_entry
  at = ap (λ (l : List MapEntry). get_or l i unheld_entry) (is ∙ ap (λ (l : List MapEntry). map f (take i xs) ++ l) (drop_more xs i unheld_entry (omega (arith, whole, below))))
      ∙ get_or_at (map f (take i xs)) (get_or xs i unheld_entry) (drop (i + 1) xs) unheld_entry i (omega (arith, long, whole, below))

  pub one_more : p (get_or ys i unheld_entry) ≡ true → count_by p (take (i + 1) xs) ≡ count_by p (take i xs) + 1
  one_more goes = count_by_more_yes p xs i unheld_entry (omega (arith, whole, below)) (ap p (sym at) ∙ goes)

  pub none_more : p (get_or ys i unheld_entry) ≡ false → count_by p (take (i + 1) xs) ≡ count_by p (take i xs)
  none_more stays = count_by_more_no p xs i unheld_entry (omega (arith, whole, below)) (ap p (sym at) ∙ stays)
