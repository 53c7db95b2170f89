-- What a session's names are bound to.
use Rattle.std.specs.Prelude.{ℕ, Bool, not, ◌&&◌, ◌||◌, ◌==◌, nat_le, List, [], ◌∷◌, length, if◌then◌else◌, Option}
use Rattle.std.specs.Prelude.{Some, None}
use Rattle.std.specs.Prelude.{codes, false}
use Rattle.std.specs.List.{list_all}
use Rattle.std.specs.Str.{byte, bytes_eq}
use Rattle.std.specs.Char.{is_ascii_digit}
use Rattle.hex.specs.Hex.{is_hex_digit}
use Rattle.cfs_base.specs.declared.identifier.Puid.{Puid}
use Rattle.ufs_model.specs.declared.asked.Bound.{Bound}
use Rattle.ufs_model.specs.Limits.{most_name}

-- the root's identifier, and what each name is bound to
pub record Names : Type 0 where
  pub root : Puid
  pub bound : List ℕ → Option Bound

-- the names of a session that begins
abbrev pub no_names : Puid → Names
no_names root = record { root = root; bound = λ name. None }

-- a new binding replaces the old
abbrev pub bind : Names → List ℕ → Bound → Names
bind names name to = record names { bound = λ other. if bytes_eq other name then Some to else names.bound other }

abbrev is_letter : ℕ → Bool
is_letter c = nat_le (byte "a") c && nat_le c (byte "z")

abbrev is_name_byte : ℕ → Bool
is_name_byte c = is_letter c || is_ascii_digit c || (c == byte "-")

abbrev begins_with_letter : List ℕ → Bool
begins_with_letter [] = false
begins_with_letter (c ∷ cs) = is_letter c

-- 16 hexadecimal digits, in either case
abbrev pub is_id_digits : List ℕ → Bool
is_id_digits w = (length w == 16) && list_all is_hex_digit w

-- 1 to 32 letters, digits and dashes that begin with a letter, and neither `root` nor 16 hexadecimal digits
abbrev pub is_name : List ℕ → Bool
is_name w =
    begins_with_letter w && nat_le (length w) most_name && list_all is_name_byte w
    && not (bytes_eq w (codes "root")) && not (is_id_digits w)
