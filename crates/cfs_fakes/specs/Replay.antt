-- What a crash leaves of a disk whose calls were kept.
use Rattle.std.specs.Prelude.{◌≡◌, ℕ, ◌-◌, ◌^◌, ◌<◌, ◌≤◌, min, nat_eq, nat_lt, if◌then◌else◌}
use Rattle.std.specs.Prelude.{List, [], ◌∷◌, length, get_or, set, replicate}
use Rattle.cfs_base.specs.Disk.{Image, block_at}
use Rattle.cfs_base.specs.Replay as calls
use Rattle.cfs_fakes.specs.declared.kept.Call.{Call}
use Rattle.cfs_fakes.specs.declared.kept.Call.TheVariants.{Write, Barrier}
use Rattle.cfs_fakes.specs.declared.kept.KeptCall.{KeptCall}

-- the content, the content at the last barrier, and the writes since then, the newest first, each with its block
pub record DiskState : Type 0 where
  pub content : Image
  pub base : Image
  pub pending : List (ℕ × List ℕ)

-- a disk of zeros
abbrev pub zeros : ℕ → DiskState
zeros blocks = record {
  content = replicate blocks (replicate 512 0);
  base = replicate blocks (replicate 512 0);
  pending = [];
}

-- What a kept call does. A write that failed changes no content, and waits for the next barrier as one that is done
-- does.
abbrev pub after : Call → DiskState → DiskState
after (Write at block done) s = record {
  content = if done then set s.content at block else s.content;
  base = s.base;
  pending = (at, block) ∷ s.pending;
}
after Barrier s = record { content = s.content; base = s.content; pending = [] }

abbrev pub made_at : KeptCall → ℕ
made_at kept = kept.moment

abbrev pub made : KeptCall → DiskState → DiskState
made kept s = after kept.call s

-- the state at moment t, after the calls made before it
abbrev pub replayed_calls : DiskState → ℕ → List KeptCall → DiskState
replayed_calls s t kept = calls.replay made_at made s t kept

-- the writes to one block
abbrev pub writes_to : ℕ → List (ℕ × List ℕ) → List (List ℕ)
writes_to n [] = []
writes_to n (w ∷ older) = if nat_eq w.0 n then w.1 ∷ writes_to n older else writes_to n older

-- the writes to one block that wait for a barrier, even those that failed, the newest first
abbrev pub waiting : DiskState → ℕ → List (List ℕ)
waiting s n = writes_to n s.pending

-- how many such writes there are, as far as a choice can number them
abbrev pub choices_of : DiskState → ℕ → ℕ
choices_of s n = min (length (waiting s n)) (2 ^ 32 - 1)

-- What a block holds by a choice: 0 is its content at the last barrier, and k the k-th write since then, or the last
-- if there are fewer. The newest write is the first of the list.
abbrev pub chosen : ℕ → List ℕ → List (List ℕ) → List ℕ
chosen k base [] = base
chosen k base (block ∷ older) = if nat_lt (length older) k then block else chosen k base older

-- What a choice k of such writes, the newest first, means: 0 is the content at the last barrier, 1 up to their number
-- the k-th write, and any number above it the last.
pub record AreChoices (writes : List (List ℕ)) : Type 0 where
  pub none : (base : List ℕ) → chosen 0 base writes ≡ base
  pub one : (k : ℕ) (base : List ℕ) → 0 < k → k ≤ length writes
      → chosen k base writes ≡ get_or writes (length writes - k) []
  pub last : (k : ℕ) (base : List ℕ) → length writes ≤ k → chosen k base writes ≡ chosen (length writes) base writes

-- the image in which each block holds its choice
pub record IsChoice (s : DiskState) (choice : ℕ → ℕ) (c : Image) : Type 0 where
  pub size : length c ≡ length s.base
  pub each : (n : ℕ) → n < length c → block_at c n ≡ chosen (choice n) (block_at s.base n) (writes_to n s.pending)

-- an image that a crash may leave: each block holds some choice
abbrev pub IsImage : DiskState → Image → Type 0
IsImage s c = (choice : ℕ → ℕ) × IsChoice s choice c
