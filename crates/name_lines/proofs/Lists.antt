-- Paths and names as lists.
use Rattle.std.proofs.Common.{◌≡◌, ℕ, ◌<◌, Bool, true, false, List, [], ◌∷◌, ◌++◌, Some, None, refl, sym, ap, arith, map, suc, zero, length, get_or}
use Rattle.std.specs.Prelude.{◌&&◌, if◌then◌else◌}
use Rattle.std.specs.List.{flat_map, join_with_byte, list_all}
use Rattle.std.proofs.lemmas.List.{append-nil}
use Rattle.name_dirs.specs.Text.{is_text}
use Rattle.name_lines.specs.declared.line.NameAt.{NameAt}
use Rattle.name_lines.specs.Spoken.{with_above, if_texts, last_of, place_at}

-- ---- the last of names

last_is : (v w : List ℕ) (names : List (List ℕ)) → last_of v (names ++ w ∷ []) ≡ record { above = v ∷ names; name = w }
last_is v w [] = refl
last_is v w (u ∷ names) = ap (λ (place : NameAt). with_above v place) (last_is u w names)

pub place_is : (w : List ℕ) (names : List (List ℕ)) → place_at (names ++ w ∷ []) ≡ Some (record { above = names; name = w })
place_is w [] = refl
place_is w (v ∷ names) = ap (λ (place : NameAt). Some place) (last_is v w names)

-- ---- names of a line

pub join_names : (w : List ℕ) (names : List (List ℕ)) → join_with_byte 32 (w ∷ names) ≡ w ++ flat_map (λ (v : List ℕ). 32 ∷ v) names
join_names w [] = sym (append-nil w)
join_names w (v ∷ names) = ap (λ (t : List ℕ). w ++ 32 ∷ t) (join_names v names)

-- ---- parts that are no names

off_with : (a b : Bool) → b ≡ false → (a && b) ≡ false
off_with true b off = off
off_with false b off = refl

not_texts : {X : Type 0} (f : X → List ℕ) (parts : List X) (k : ℕ) (d : X) → k < length parts → is_text (f (get_or parts k d)) ≡ false → list_all is_text (map f parts) ≡ false
not_texts f [] k d within off = absurd (omega (arith, within))
not_texts f (part ∷ parts) zero d within off = ap (λ (b : Bool). b && list_all is_text (map f parts)) off
not_texts f (part ∷ parts) (suc k) d within off = off_with (is_text (f part)) (list_all is_text (map f parts)) (not_texts f parts k d (omega (arith, within)) off)

pub no_texts : {X : Type 0} (f : X → List ℕ) (parts : List X) (k : ℕ) (d : X) → k < length parts → is_text (f (get_or parts k d)) ≡ false → None ≡ if_texts (map f parts)
no_texts f parts k d within off = sym (ap (λ (b : Bool). if b then Some (map f parts) else None) (not_texts f parts k d within off))
