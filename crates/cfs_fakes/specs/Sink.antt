-- A sink in memory: the bytes that were taken, and which of its calls fail.
use Rattle.std.specs.Prelude.{◌≡◌, ◌↔◌, ℕ, List, [], Contains, Some}
use Rattle.cfs_base.specs.Outside.{Intake, count_after}
use Rattle.cfs_fakes.specs.declared.memory_sink.MemorySink.{MemorySink}

abbrev pub taken_of : MemorySink → List ℕ
taken_of s = s.bytes.items

abbrev pub intake_of : MemorySink → Intake
intake_of s = record { taken = Some (taken_of s); faults = s.faults }

-- how many calls failed for want of memory
abbrev pub starved_of : MemorySink → ℕ
starved_of s = s.starved

-- how many calls were made
abbrev pub calls_of : MemorySink → ℕ
calls_of s = s.calls

-- the calls that fail, by their numbers from 0
abbrev pub listed_calls : MemorySink → List ℕ
listed_calls s = s.listed.calls.items

-- no call was made on it
pub record IsUncalled (s : MemorySink) (calls : List ℕ) : Type 0 where
  pub taken : taken_of s ≡ []
  pub listed : (n : ℕ) → Contains (listed_calls s) n ↔ Contains calls n
  pub none : calls_of s ≡ 0
  pub faults : s.faults ≡ 0
  pub starved : starved_of s ≡ 0

-- one more call, and the same calls fail
pub record IsNext (old new : MemorySink) : Type 0 where
  pub one_call : calls_of new ≡ count_after (calls_of old)
  pub listed : new.listed ≡ old.listed

-- a call that is done
pub record Succeeds (old new : MemorySink) : Type 0 where
  pub not_listed : ¬ Contains (listed_calls old) (calls_of old)
  pub faults : new.faults ≡ old.faults
  pub starved : starved_of new ≡ starved_of old

-- a call that fails as it must
pub record Fails (old new : MemorySink) : Type 0 where
  pub listed : Contains (listed_calls old) (calls_of old)
  pub faults : new.faults ≡ count_after old.faults
  pub starved : starved_of new ≡ starved_of old

-- a call that fails for want of memory: counted as a fault, and apart
pub record Starves (old new : MemorySink) : Type 0 where
  pub not_listed : ¬ Contains (listed_calls old) (calls_of old)
  pub faults : new.faults ≡ count_after old.faults
  pub starved : starved_of new ≡ count_after (starved_of old)
