-- What a recorder has kept.
use Rattle.std.specs.Prelude.{◌≡◌, ℕ, IsTrue}
use Rattle.cfs_base.specs.Disk.{Image}
use Rattle.cfs_base.specs.Replay.{Left}
use Rattle.cfs_fakes.specs.Replay.{DiskState, IsImage, zeros, replayed_calls}
use Rattle.cfs_fakes.specs.declared.recorder.Recorder.{Recorder}

abbrev pub clock : Recorder → ℕ
clock r = r.moment

-- the state of a disk of zeros after the kept calls made before moment t
abbrev pub state_at : Recorder → ℕ → DiskState
state_at r t = replayed_calls (zeros r.blocks) t r.kept.items

abbrev pub state_now : Recorder → DiskState
state_now r = state_at r r.moment

-- an image that a crash at some moment since t may leave, if calls are kept
abbrev pub left_of : Recorder → ℕ → Image → Type 0
left_of r t c = IsTrue r.keeps × Left IsImage (state_at r) r.moment t c

pub record IsSameRecorder (old new : Recorder) : Type 0 where
  pub blocks : new.blocks ≡ old.blocks
  pub keeps : new.keeps ≡ old.keeps
