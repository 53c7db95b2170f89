-- Grants: which session has which object open, and how.
use Rattle.std.specs.Prelude.{ℕ, Bool, true, false, not, ◌&&◌, ◌==◌, nat_le, if◌then◌else◌}
use Rattle.std.specs.Prelude.{List, [], ◌∷◌, length, filter, find, Option, Some, None, option_map}
use Rattle.std.specs.List.{list_all}
use Rattle.cfs_base.specs.declared.identifier.Puid.{Puid}
use Rattle.cfs_base.specs.declared.identifier.Tuid.{Tuid}
use Rattle.cfs_base.specs.declared.kind.Mode.{Mode}
use Rattle.cfs_base.specs.declared.kind.Mode.TheVariants as modes
use Rattle.ufs_model.specs.declared.limits.TheConstants.{MOST_GRANTS}
use Rattle.ufs_model.specs.Identifier.{same_puid, same_tuid}
use Rattle.open_table.specs.declared.grant.OpenGrant.{OpenGrant}
use Rattle.open_table.specs.declared.fault.AcquireFault.{AcquireFault}
use Rattle.open_table.specs.declared.fault.AcquireFault.TheVariants as faults

-- the grants in the order in which they were acquired, and whether there is room for one more, of any session
pub record Table : Type 0 where
  pub grants : List OpenGrant
  pub has_room : Bool

-- ---- what is found

abbrev pub is_session_grant : ℕ → Tuid → OpenGrant → Bool
is_session_grant who t g = (g.session == who) && same_tuid g.tuid t

-- the session's grant with that identifier
abbrev pub session_grant : List OpenGrant → ℕ → Tuid → Option OpenGrant
session_grant grants who t = find (is_session_grant who t) grants

-- the session's grants
abbrev pub grants_of : List OpenGrant → ℕ → List OpenGrant
grants_of grants who = filter (λ g. g.session == who) grants

-- the first of these grants
abbrev pub first_grant : List OpenGrant → ℕ → Option OpenGrant
first_grant grants who = find (λ g. g.session == who) grants

-- how the object is open
abbrev pub open_mode : List OpenGrant → Puid → Option Mode
open_mode grants id = option_map (λ g. g.mode) (find (λ g. same_puid id g.id) grants)

-- ---- what is left

abbrev pub without_grant : List OpenGrant → ℕ → Tuid → List OpenGrant
without_grant grants who t = filter (λ g. not (is_session_grant who t g)) grants

abbrev pub without_session : List OpenGrant → ℕ → List OpenGrant
without_session grants who = filter (λ g. not (g.session == who)) grants

-- ---- the interlock

-- a writer conflicts with any other grant, and readers only with a writer
abbrev pub conflicts : Mode → Mode → Bool
conflicts modes.Reading modes.Reading = false
conflicts modes.Reading modes.Writing = true
conflicts modes.Writing modes.Reading = true
conflicts modes.Writing modes.Writing = true

abbrev pub collides : OpenGrant → OpenGrant → Bool
collides a b = same_puid a.id b.id && conflicts a.mode b.mode

-- the mode of the grants on its object that conflict with it
abbrev pub mode_against : List OpenGrant → OpenGrant → Option Mode
mode_against grants g = option_map (λ h. h.mode) (find (collides g) grants)

abbrev pub fault_by : Option Mode → ℕ → Option AcquireFault
fault_by (Some mode) count = Some (faults.Locked mode)
fault_by None count = if nat_le MOST_GRANTS count then Some faults.Grants else None

-- why a grant can't be acquired beside the others
abbrev pub fault_of : List OpenGrant → OpenGrant → Option AcquireFault
fault_of grants g = fault_by (mode_against grants g) (length (grants_of grants g.session))

-- ---- what holds of all grants together

-- no grant is beside one with which it conflicts
abbrev pub none_collide : List OpenGrant → Bool
none_collide [] = true
none_collide (g ∷ grants) = list_all (λ h. not (collides g h)) grants && none_collide grants

-- each grant has a temporary identifier of its own
abbrev pub tuids_differ : List OpenGrant → Bool
tuids_differ [] = true
tuids_differ (g ∷ grants) = list_all (λ h. not (same_tuid g.tuid h.tuid)) grants && tuids_differ grants

-- no session has more grants than it may have
abbrev pub few_each : List OpenGrant → Bool
few_each grants = list_all (λ g. nat_le (length (grants_of grants g.session)) MOST_GRANTS) grants

abbrev pub is_grant_table : List OpenGrant → Bool
is_grant_table grants = none_collide grants && tuids_differ grants && few_each grants
