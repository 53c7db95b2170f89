-- Words that name the files of sessions.
use Rattle.std.proofs.Common.{◌≡◌, ℕ, ◌*◌, ◌<◌, ◌≤◌, Bool, true, false, ◌&&◌, if◌then◌else◌, nat_lt, nat_le, List, [], ◌∷◌, length, map, Option, Some, None, codes, refl, arith}
use Rattle.std.specs.Str.{bytes_eq}
use Rattle.ufs_model.specs.Spoken.{number_in}
use Rattle.cfs_serve.specs.Limits.{most_collections, most_cylinders}
use Rattle.cfs_serve.specs.Words.{Nothing, asked_in, format_in, is_volume_word, numbered, play_in, read_or_none, seeded, serve_in, spin_in}
use Rattle.cfs_serve.proofs.Cited.{String, files_in, string_bytes}

-- two words a session
pub two_words : (words : List (List ℕ)) → 2 * length (files_in words) ≤ length words
two_words [] = omega arith
two_words (word ∷ []) = omega arith
two_words (input ∷ output ∷ words) = omega (arith, two_words words)

-- one word alone names no session
pub none_left : {Z : Type 0} (words : List (String Z)) → length words < 2 → files_in (map string_bytes words) ≡ []
none_left [] few = refl
none_left (word ∷ []) few = refl
none_left (input ∷ output ∷ words) few = absurd (omega (arith, few))

-- four words name no sessions
no_files : {A : Type 0} (b : Bool) (x : A) → (if b && false then Some x else None) ≡ None
no_files true x = refl
no_files false x = refl

pub four_play : (verb cylinders seed collections : List ℕ) → play_in (verb ∷ cylinders ∷ seed ∷ collections ∷ []) ≡ None
four_play verb cylinders seed collections =
    at (bytes_eq verb (codes "play")) (bytes_eq verb (codes "trace")) (read_or_none (number_in cylinders)) (read_or_none (number_in seed)) (read_or_none (number_in collections))
  where
    none : (traced : Bool) (x y z : Option ℕ) → numbered traced x y z [] ≡ None
    none traced (Some x) (Some y) (Some z) = no_files (nat_lt 0 x && nat_le x most_cylinders && nat_le z most_collections) _
    none traced (Some x) (Some y) None = refl
    none traced (Some x) None z = refl
    none traced None y z = refl

    at : (plays traces : Bool) (x y z : Option ℕ) → (if plays then numbered false x y z [] else if traces then numbered true x y z [] else None) ≡ None
    at true traces x y z = none false x y z
    at false true x y z = none true x y z
    at false false x y z = refl

pub four_serve : (verb volume seed collections : List ℕ) → serve_in (verb ∷ volume ∷ seed ∷ collections ∷ []) ≡ None
four_serve verb volume seed collections =
    at (bytes_eq verb (codes "serve")) (bytes_eq verb (codes "pair-serve")) (read_or_none (number_in seed)) (read_or_none (number_in collections))
  where
    none : (pair : Bool) (y z : Option ℕ) → seeded pair volume y z [] ≡ None
    none pair (Some y) (Some z) = no_files (is_volume_word volume && nat_le z most_collections) _
    none pair (Some y) None = refl
    none pair None z = refl

    at : (serves pairs : Bool) (y z : Option ℕ) → (if serves then seeded false volume y z [] else if pairs then seeded true volume y z [] else None) ≡ None
    at true pairs y z = none false y z
    at false true y z = none true y z
    at false false y z = refl

-- so where they make no volume and no spin, they are of no form
pub four_none : (verb first second third : List ℕ) → format_in (verb ∷ first ∷ second ∷ third ∷ []) ≡ None → spin_in (verb ∷ first ∷ second ∷ third ∷ []) ≡ None
    → asked_in (verb ∷ first ∷ second ∷ third ∷ []) ≡ Nothing
four_none verb first second third format spin = rw (format, spin, four_play verb first second third, four_serve verb first second third) refl
