-- Why a write is refused.
use Rattle.std.specs.Prelude.{◌≡◌, ◌⊎◌, ℕ, Bool, true, false, if◌then◌else◌}
use Rattle.cfs_base.specs.declared.disk.Disk.{Ghosts}
use Rattle.cfs_base.specs.declared.refusal.Refused.{Refused}
use Rattle.cyl_alloc.specs.Space.{Kept}
use Rattle.ufs_model.specs.declared.object.File.{File}
use Rattle.ufs_model.specs.Numbers.{branches, missing}
use Rattle.ufs_model.specs.Object.{held_levels, touched}
use Rattle.normal_files.specs.Ends.{IsNoSpace}
use Rattle.leaf_changes.specs.Tops.{Top}
use Rattle.normal_files.specs.Refusal.{IsDamage, IsRefusal}
use Rattle.cfs_base.specs.declared.refusal.Refused.TheVariants as refusals
use Rattle.ufs_model.specs.declared.object.Object.TheVariants as objects

-- the refusal of a write; `after` is what was counted Free at its end
abbrev pub IsWriteRefusal : {D : Type 0} → Ghosts D → Top → (floor : ℕ) → D → D → (before after : Kept) → Refused
    → Type 0
IsWriteRefusal g at floor old new before after =
    IsRefusal g (λ damage. IsDamage g at old damage ⊎ IsNoSpace g old new after damage) floor old new before

-- nothing was tried, and no damage was met
abbrev pub is_untried : Refused → Bool
is_untried (refusals.Full need) = true
is_untried (refusals.Disk tried) = if tried then false else true
is_untried (refusals.Damaged damage) = false
is_untried refusals.Memory = true

-- ---- how many blocks a write takes

-- one for each leaf that it touches and that isn't held, and one for each of their nodes that isn't held
abbrev pub needs : File → (offset count : ℕ) → ℕ
needs f offset count = missing (branches 1 (touched offset count)) (held_levels (objects.File f))

-- if the refusal is Full it gives this need
abbrev pub TellsNeed : ℕ → Refused → Type 0
TellsNeed n (refusals.Full need) = need.need ≡ n
TellsNeed n (refusals.Disk tried) = Unit {0}
TellsNeed n (refusals.Damaged damage) = Unit {0}
TellsNeed n refusals.Memory = Unit {0}
