-- A directory: identifiers in increasing order, each with the kind of its object.
use Rattle.std.specs.Prelude.{◌≡◌, ℕ, ◌+◌, ◌*◌, ◌^◌, ◌<◌, Bool, true, not, ◌&&◌, ◌==◌, nat_lt, nat_le}
use Rattle.std.specs.Prelude.{List, [], ◌∷◌, filter, find, Option}
use Rattle.std.specs.List.{list_any, list_all}
use Rattle.std.specs.BTreeMap.{is_at}
use Rattle.std.specs.Map.{lookup, keys_of}
use Rattle.cfs_base.specs.declared.identifier.Puid.{Puid}
use Rattle.cfs_base.specs.declared.kind.Kind.{Kind}
use Rattle.ufs_model.specs.Identifier.{puid_cmp, same_puid, rises}

-- the identifiers with their kinds, and the block number below which there is room for more
pub record Listing : Type 0 where
  pub named : List (Puid × Kind)
  pub room : ℕ

-- the kind of the object with this identifier
abbrev pub directory_kind : List (Puid × Kind) → Puid → Option Kind
directory_kind named id = lookup (is_at (puid_cmp id)) named

-- an identifier has this root block
abbrev pub has_root_in : List (Puid × Kind) → ℕ → Bool
has_root_in named block = list_any (λ id. id.block == block) (keys_of named)

-- all but this identifier
abbrev pub without_id : List (Puid × Kind) → Puid → List (Puid × Kind)
without_id named id = filter (λ e. not (same_puid e.0 id)) named

-- the identifiers whose root block passes the test, and those whose root block fails it
abbrev pub kept_by : (ℕ → Bool) → List (Puid × Kind) → List (Puid × Kind)
kept_by test named = filter (λ e. test e.0.block) named

abbrev pub taken_by : (ℕ → Bool) → List (Puid × Kind) → List Puid
taken_by test named = keys_of (filter (λ e. not (test e.0.block)) named)

-- a closure whose calls have these answers computes the test, for each block below the room
abbrev pub Computes : (ℕ → Bool → Type 0) → ℕ → (ℕ → Bool) → Type 0
Computes Says room test = (block : ℕ) (answer : Bool) → block < room → Says block answer → answer ≡ test block

-- an identifier as one number
abbrev pub number_of : Puid → ℕ
number_of id = id.block * 2 ^ 32 + id.word

-- the first identifier whose number is not below this one
abbrev pub first_in : List (Puid × Kind) → ℕ → Option Puid
first_in named number = find (λ id. nat_le number (number_of id)) (keys_of named)

-- each root block is below all that follow
abbrev pub blocks_rise : List Puid → Bool
blocks_rise [] = true
blocks_rise (x ∷ ids) = list_all (λ y. nat_lt x.block y.block) ids && blocks_rise ids

-- identifiers increase, each has a root block of its own, and there is room for each
abbrev pub is_listing : Listing → Bool
is_listing d =
    let ids = keys_of d.named in
    rises ids && blocks_rise ids && list_all (λ id. nat_lt id.block d.room) ids
