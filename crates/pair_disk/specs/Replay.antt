-- What a crash leaves of a disk in memory whose calls were kept.
use Rattle.std.specs.Prelude.{◌≡◌, ℕ, ◌<◌, ◌||◌, Bool, true, false, nat_eq, List, [], ◌∷◌, length, set}
use Rattle.std.specs.List.{list_all}
use Rattle.cfs_base.specs.Disk.{Image, AreBlocks, IsBlock, block_at}
use Rattle.cfs_base.specs.Replay as calls
use Rattle.pair_disk.specs.declared.kept.Call.{Call}
use Rattle.pair_disk.specs.declared.kept.Call.TheVariants.{Write, Barrier}
use Rattle.pair_disk.specs.declared.kept.KeptCall.{KeptCall}
use Rattle.pair_disk.specs.declared.kept.TornPick.{TornPick}

-- the content at the last barrier that was done, and which blocks were written since
pub record TornState : Type 0 where
  pub base : Image
  pub torn : ℕ → Bool

-- the state before anything was written
abbrev pub unwritten : Image → TornState
unwritten image = record { base = image; torn = λ n. false }

-- what a kept call does
abbrev pub torn_next : Call → TornState → TornState
torn_next (Write at) s = record { base = s.base; torn = λ n. nat_eq n at || s.torn n }
torn_next (Barrier blocks) s = record { base = blocks.items; torn = λ n. false }

abbrev pub call_moment : KeptCall → ℕ
call_moment kept = kept.moment

abbrev pub torn_by : KeptCall → TornState → TornState
torn_by kept s = torn_next kept.call s

-- the state at moment t, after the calls made before it
abbrev pub replayed_writes : TornState → ℕ → List KeptCall → TornState
replayed_writes s t kept = calls.replay call_moment torn_by s t kept

-- an image that a crash may leave: each block that was written since the barrier has any bytes, each other block
-- those of then
pub record IsTornImage (s : TornState) (c : Image) : Type 0 where
  pub size : length c ≡ length s.base
  pub whole : (n : ℕ) → s.torn n ≡ false → block_at c n ≡ block_at s.base n
  pub torn : (n : ℕ) → n < length c → s.torn n ≡ true → IsBlock (block_at c n)

-- the content at the barrier has this number of blocks
pub record IsOfBlocks (count : ℕ) (s : TornState) : Type 0 where
  pub size : length s.base ≡ count
  pub blocks : AreBlocks s.base

-- a kept barrier has this number of blocks
abbrev pub HasSize : ℕ → Call → Type 0
HasSize count (Write at) = Unit {0}
HasSize count (Barrier blocks) = (length blocks.items ≡ count) × AreBlocks blocks.items

-- an image with these bytes in their blocks
abbrev pub picked : Image → List TornPick → Image
picked image [] = image
picked image (pick ∷ later) = picked (set image pick.block pick.content) later

-- the blocks of all picks were written since the barrier
abbrev pub may_tear : TornState → List TornPick → Bool
may_tear s picks = list_all (λ pick. s.torn pick.block) picks
