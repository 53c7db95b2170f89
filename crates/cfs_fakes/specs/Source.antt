-- A source in memory: the bytes that are left, and which of its calls fail.
use Rattle.std.specs.Prelude.{◌≡◌, ◌↔◌, ℕ, List, drop, Contains, Some}
use Rattle.cfs_base.specs.Outside.{Supply, count_after}
use Rattle.cfs_fakes.specs.declared.memory_source.MemorySource.{MemorySource}

abbrev pub left_of : MemorySource → List ℕ
left_of s = drop s.given s.bytes.items

abbrev pub supply_of : MemorySource → Supply
supply_of s = record { left = Some (left_of s); faults = s.faults }

-- how many calls were made
abbrev pub calls_of : MemorySource → ℕ
calls_of s = s.calls

-- the calls that fail, by their numbers from 0
abbrev pub listed_calls : MemorySource → List ℕ
listed_calls s = s.listed.calls.items

-- no call was made on it
pub record IsUncalled (s : MemorySource) (bytes calls : List ℕ) : Type 0 where
  pub left : left_of s ≡ bytes
  pub listed : (n : ℕ) → Contains (listed_calls s) n ↔ Contains calls n
  pub none : calls_of s ≡ 0
  pub faults : s.faults ≡ 0

-- one more call, and the same calls fail
pub record IsNext (old new : MemorySource) : Type 0 where
  pub one_call : calls_of new ≡ count_after (calls_of old)
  pub listed : new.listed ≡ old.listed

-- a call that is done
pub record Succeeds (old new : MemorySource) : Type 0 where
  pub not_listed : ¬ Contains (listed_calls old) (calls_of old)
  pub faults : new.faults ≡ old.faults

-- a call that fails as it must
pub record Fails (old new : MemorySource) : Type 0 where
  pub listed : Contains (listed_calls old) (calls_of old)
  pub faults : new.faults ≡ count_after old.faults
