-- The calls that a call of the pair disk makes below, and what each call of a disk says.
use Rattle.std.specs.Prelude.{◌≡◌, ◌⊎◌, ℕ, zero, suc, ◌+◌, ◌≤◌, Bool, true, false, IsTrue, if◌then◌else◌}
use Rattle.cfs_base.specs.Disk.{CountsRead, CountsTry, IsSameDisk, KeepsLeft}
use Rattle.cfs_base.specs.Outside.{count_after}
use Rattle.cfs_base.specs.declared.disk.Disk as disk
use Rattle.pair_disk.specs.declared.torn_disk.TornDisk.{Ghosts}

-- ---- calls of a disk

module _ {D : Type 0} (g : disk.Ghosts D) (old new : D) where
  -- what was told still is
  abbrev pub TellsOn : Type 0
  TellsOn = (n : ℕ) → IsTrue (g.told old n) → IsTrue (g.told new n)

  abbrev pub KeepsImages : Type 0
  KeepsImages = KeepsLeft g.moment g.left_since old new

  abbrev pub StaysDisk : Type 0
  StaysDisk = IsSameDisk g.blocks g.honest g.tells_images old new

  abbrev pub IsRead : Type 0 → Type 0
  IsRead failed = CountsRead g.moment g.calls g.tries g.faults old new failed

  abbrev pub IsTry : Type 0 → Type 0
  IsTry failed = CountsTry g.moment g.calls g.tries g.faults g.tells_images old new failed

-- ---- how many calls are made below

-- a count after n more calls
abbrev pub count_below : ℕ → ℕ → ℕ
count_below zero before = before
count_below (suc more) before = count_after (count_below more before)

-- n calls were made, m of them writes and barriers
pub record MakesBelow {T : Type 0} (g : Ghosts T) (n m : ℕ) (old new : T) : Type 0 where
  pub calls : g.calls new ≡ count_below n (g.calls old)
  pub tries : g.tries new ≡ count_below m (g.tries old)

-- only writes and barriers were made, from one to `most`
abbrev pub MakesTries : {T : Type 0} → Ghosts T → ℕ → T → T → Type 0
MakesTries g most old new = (n : ℕ) × (1 ≤ n) × (n ≤ most) × MakesBelow g n n old new

-- a write makes a barrier first if a write or barrier has failed since the last barrier that was done
abbrev pub barriers_first : Bool → ℕ
barriers_first unsure = if unsure then 1 else 0

-- it reads the gate, and makes two writes and two barriers
abbrev pub WritesPair : {T : Type 0} → Ghosts T → Bool → T → T → Type 0
WritesPair g unsure old new = MakesBelow g (5 + barriers_first unsure) (4 + barriers_first unsure) old new

-- What a write that failed has made. If nothing is unsure after it, it made the first barrier and the read of the
-- gate. Else it made only that barrier, or these two and one to four of the writes and barriers that come after.
abbrev pub StopsWrite : {T : Type 0} → Ghosts T → Bool → Bool → T → T → Type 0
StopsWrite g unsure false old new = MakesBelow g (1 + barriers_first unsure) (barriers_first unsure) old new
StopsWrite g unsure true old new = (IsTrue unsure × MakesBelow g 1 1 old new)
    ⊎ ((n : ℕ) × (1 ≤ n) × (n ≤ 4) × MakesBelow g (n + (1 + barriers_first unsure)) (n + barriers_first unsure) old new)
