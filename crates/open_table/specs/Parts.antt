-- The two tables beside the list: each session's own grants, and how each object is open.
use Rattle.std.specs.Prelude.{◌≡◌, ℕ, ◌<◌, ◌≤◌, ◌^◌, Bool, true, not, ◌&&◌, ◌==◌, nat_eq, List, [], length, filter}
use Rattle.std.specs.Prelude.{Option, Some, option_map, unwrap_or, Vec, vec_capacity}
use Rattle.std.specs.declared.alloc.Global.{Global}
use Rattle.std.specs.HashMap.{HashMap, get}
use Rattle.std.specs.declared.hash.FoldHasher.{FoldHasher}
use Rattle.std.specs.declared.hash.BuildHasherDefault.{BuildHasherDefault}
use Rattle.cfs_base.specs.declared.identifier.Puid.{Puid}
use Rattle.cfs_base.specs.declared.identifier.Tuid.{Tuid}
use Rattle.cfs_base.specs.declared.kind.Mode.{Mode}
use Rattle.ufs_model.specs.declared.limits.TheConstants.{MOST_GRANTS}
use Rattle.ufs_model.specs.Identifier.{same_tuid}
use Rattle.open_table.specs.declared.grant.OpenGrant.{OpenGrant}
use Rattle.open_table.specs.Grants.{grants_of, open_mode, none_collide, tuids_differ}

abbrev pub Own : Type 0
Own = HashMap ℕ (Vec OpenGrant Global) (BuildHasherDefault FoldHasher)

-- a session's own grants
abbrev pub own_in : Own → ℕ → List OpenGrant
own_in own who = unwrap_or (option_map (λ v. v.items) (get nat_eq own who)) []

-- these grants without the one with that identifier
abbrev pub without_tuid : List OpenGrant → Tuid → List OpenGrant
without_tuid grants t = filter (λ g. not (same_tuid g.tuid t)) grants

-- each session has room for all the grants that it may have
abbrev pub HaveSeats : Own → Type 0
HaveSeats own = (who : ℕ) (v : Vec OpenGrant Global) → get nat_eq own who ≡ Some v → MOST_GRANTS ≤ vec_capacity v

abbrev pub Modes : Type 0
Modes = HashMap (ℕ × ℕ) Mode (BuildHasherDefault FoldHasher)

abbrev pub same_key : ℕ × ℕ → ℕ × ℕ → Bool
same_key a b = (a.0 == b.0) && (a.1 == b.1)

-- how an object is open
abbrev pub mode_at : Modes → Puid → Option Mode
mode_at m id = get same_key m (id.block, id.word)

-- The tables agree with the list. No two grants collide or have one identifier, and no session has too many.
pub record IsTied (grants : List OpenGrant) (sessions : ℕ → List OpenGrant) (objects : Puid → Option Mode)
    : Type 0 where
  pub own : (who : ℕ) → sessions who ≡ grants_of grants who
  pub modes : (id : Puid) → objects id ≡ open_mode grants id
  pub few : (who : ℕ) → length (grants_of grants who) ≤ MOST_GRANTS
  pub apart : none_collide grants ≡ true
  pub tuids : tuids_differ grants ≡ true
  pub count : length grants < 2 ^ 32
