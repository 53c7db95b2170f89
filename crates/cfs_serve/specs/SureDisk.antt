-- A disk in memory of which no call fails.
use Rattle.std.specs.Prelude.{◌≡◌, ℕ, false, Contains}
use Rattle.cfs_fakes.specs.declared.memory_disk.MemoryDisk.{MemoryDisk}
use Rattle.cfs_fakes.specs.Memory.{is_recording, listed_calls}

-- no call is listed to fail, and it keeps none
pub record IsSure (d : MemoryDisk) : Type 0 where
  pub none : (m : ℕ) → ¬ Contains (listed_calls d) m
  pub forgets : is_recording d ≡ false
