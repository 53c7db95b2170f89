-- How calls that take blocks end, on any disk.
use Rattle.std.specs.Prelude.{◌≡◌, ℕ, ◌<◌, ◌≤◌, Bool, true, false, if◌then◌else◌, Ok, Err, Result, Some, sum}
use Rattle.cfs_base.specs.Calls.{HasStopped}
use Rattle.cfs_base.specs.Codes.{no_entry, other_count}
use Rattle.cfs_base.specs.Refusals.{after_try}
use Rattle.cfs_base.specs.Run.{Tells}
use Rattle.cfs_base.specs.Went.{Went}
use Rattle.cfs_base.specs.declared.disk.Disk.{Ghosts}
use Rattle.cfs_base.specs.declared.refusal.Damage.{Damage}
use Rattle.cfs_base.specs.declared.refusal.Refused.{Refused}
use Rattle.cyl_alloc.specs.Space.{IsBadMap, IsMiscounted, Kept, TakesAtMost}
use Rattle.cyl_map.specs.Volume.{map_of}
use Rattle.cfs_base.specs.declared.refusal.Refused.TheVariants as refusals

-- no Free block was found: a map block is no map, or has none though some were counted
pub data IsNoSpace {D : Type 0} (g : Ghosts D) (old new : D) (kept : Kept) (damage : Damage) : Type 0 where
  NoMap : damage.code ≡ no_entry → damage.block ≡ map_of damage.block → damage.block < g.blocks new
      → (Tells g old → IsBadMap (g.content new) damage.block)
      → IsNoSpace g old new kept damage
  OtherCount : damage.code ≡ other_count → IsMiscounted (Tells g old) (g.content new) kept damage.block
      → IsNoSpace g old new kept damage

-- a device call failed, or no Free block was found though some were counted
abbrev pub IsStop : {D : Type 0} → Ghosts D → D → D → Kept → Refused → Type 0
IsStop g old new kept (refusals.Full need) = ⊥
IsStop g old new kept (refusals.Disk tried) = HasStopped g tried old new
IsStop g old new kept (refusals.Damaged damage) = IsNoSpace g old new kept damage
IsStop g old new kept refusals.Memory = ⊥

abbrev pub is_damaged : Refused → Bool
is_damaged (refusals.Full need) = false
is_damaged (refusals.Disk tried) = false
is_damaged (refusals.Damaged damage) = true
is_damaged refusals.Memory = false

-- the refusal of a call that had tried a write before, or hadn't
abbrev pub refused_after : Bool → Refused → Refused
refused_after tried e = if tried then after_try e else e

-- The end of a run that takes at most k blocks. If so many were Free it isn't refused for want of them.
abbrev pub TakingWent : {D : Type 0} → Ghosts D → (n t k : ℕ) → D → D → Kept → Kept → Result Bool Refused → Type 0
TakingWent g n t k old new before after result =
    Went g n t n old new before after (TakesAtMost k before after) (λ e. k ≤ sum before.free → IsStop g old new after e)
    (λ e. e ≡ refusals.Disk false) Some result

-- the run is done
abbrev pub HasGone : {D : Type 0} → Ghosts D → (n t k : ℕ) → (tried : Bool) → D → D → Kept → Kept → Type 0
HasGone g n t k tried start now before after = TakingWent g n t k start now before after (Ok tried)

-- or a call is refused
abbrev pub Halts : {D : Type 0} → Ghosts D → (n t k : ℕ) → D → D → Kept → Kept → Refused → Type 0
Halts g n t k old new before after e = TakingWent g n t k old new before after (Err e)

-- how a call ends; what it gives says whether a write was tried
abbrev pub Finishes : {D A : Type 0} → Ghosts D → (n t k : ℕ) → D → D → Kept → Kept → Result A Refused → (A → Bool)
    → Type 0
Finishes g n t k old new before after (Ok x) tried = HasGone g n t k (tried x) old new before after
Finishes g n t k old new before after (Err e) tried = Halts g n t k old new before after e
