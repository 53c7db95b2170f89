-- Disks in memory: what they hold, which calls fail, and how a call ends.
use Rattle.std.specs.Prelude.{◌≡◌, ◌⊎◌, ◌↔◌, ℕ, ◌-◌, ◌^◌, ◌<◌, ◌≤◌, Bool, false, IsTrue, List, length, Contains}
use Rattle.cfs_base.specs.Outside.{count_after}
use Rattle.cfs_base.specs.Disk.{Image}
use Rattle.cfs_fakes.specs.declared.kept.Call.TheVariants.{Write}
use Rattle.cfs_fakes.specs.Replay.{DiskState, zeros, after}
use Rattle.cfs_fakes.specs.Recorder.{clock, state_at, left_of as left_of_recorder}
use Rattle.cfs_fakes.specs.declared.memory_disk.MemoryDisk.{MemoryDisk}

abbrev pub contents : MemoryDisk → Image
contents d = d.store

abbrev pub is_recording : MemoryDisk → Bool
is_recording d = d.recorder.keeps

abbrev pub moment_of : MemoryDisk → ℕ
moment_of d = clock d.recorder

-- how many calls failed for want of memory
abbrev pub starved_of : MemoryDisk → ℕ
starved_of d = d.starved

abbrev pub tries_of : MemoryDisk → ℕ
tries_of d = d.tries

abbrev pub faults_of : MemoryDisk → ℕ
faults_of d = d.faults

-- an image that a crash at some moment since t may leave
abbrev pub left_of : MemoryDisk → ℕ → Image → Type 0
left_of d t c = left_of_recorder d.recorder t c

-- the moments at which a call fails
abbrev pub listed_calls : MemoryDisk → List ℕ
listed_calls d = d.listed.calls.items

-- the state of a recording disk, which began with zeros, after the calls before moment t
abbrev pub disk_state_at : MemoryDisk → ℕ → DiskState
disk_state_at d t = state_at d.recorder t

-- its state after all calls
abbrev pub now_of : MemoryDisk → DiskState
now_of d = disk_state_at d (moment_of d)

-- The next call fails: it is listed, or the disk records and its clock has reached its end.
abbrev pub IsDue : MemoryDisk → Type 0
IsDue d = Contains (listed_calls d) (moment_of d) ⊎ (IsTrue (is_recording d) × (moment_of d ≡ 2 ^ 64 - 1))

-- no call was made on it
pub record IsUncalled (d : MemoryDisk) (blocks : Image) (calls : List ℕ) (records : Bool) : Type 0 where
  pub content : contents d ≡ blocks
  pub listed : (m : ℕ) → Contains (listed_calls d) m ↔ Contains calls m
  pub recording : is_recording d ≡ records
  pub state : IsTrue records → now_of d ≡ zeros (length blocks)
  pub moment : moment_of d ≡ 0
  pub tries : tries_of d ≡ 0
  pub faults : faults_of d ≡ 0
  pub starved : starved_of d ≡ 0

-- the same calls fail, and it records as before
pub record IsSamePlan (old new : MemoryDisk) : Type 0 where
  pub listed : new.listed ≡ old.listed
  pub recording : is_recording new ≡ is_recording old

-- its state at each moment up to the call stays
abbrev pub KeepsStates : MemoryDisk → MemoryDisk → Type 0
KeepsStates old new = (t : ℕ) → t ≤ moment_of old → disk_state_at new t ≡ disk_state_at old t

-- a call that is done
pub record Succeeds (old new : MemoryDisk) : Type 0 where
  pub not_due : ¬ IsDue old
  pub faults : faults_of new ≡ faults_of old
  pub starved : starved_of new ≡ starved_of old

-- a read or a barrier that fails as it must: it is counted, and a crash sees nothing of it
pub record Fails (old new : MemoryDisk) : Type 0 where
  pub due : IsDue old
  pub faults : faults_of new ≡ count_after (faults_of old)
  pub starved : starved_of new ≡ starved_of old
  pub state : now_of new ≡ now_of old

-- a write that fails as it must: a crash may leave it, unless the clock has reached its end
pub record MissesWrite (old new : MemoryDisk) (at : ℕ) (block : List ℕ) : Type 0 where
  pub due : IsDue old
  pub faults : faults_of new ≡ count_after (faults_of old)
  pub starved : starved_of new ≡ starved_of old
  pub state : IsTrue (is_recording old) → moment_of old < 2 ^ 64 - 1 →
      now_of new ≡ after (Write at block false) (now_of old)

-- a call that a recording disk can't keep for want of memory: it is counted as a fault and apart, and a crash sees
-- nothing of it
pub record Starves (old new : MemoryDisk) : Type 0 where
  pub recording : IsTrue (is_recording old)
  pub faults : faults_of new ≡ count_after (faults_of old)
  pub starved : starved_of new ≡ count_after (starved_of old)
  pub state : now_of new ≡ now_of old
