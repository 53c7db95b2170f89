-- What a crash leaves of a disk whose calls were kept has as many blocks as the disk.
use Rattle.std.proofs.Common.{◌≡◌, ℕ, true, false, List, length, replicate, ◌∙◌, length-set}
use Rattle.std.proofs.lemmas.List.{length-replicate}
use Rattle.cfs_base.specs.Disk.{Image}
use Rattle.cfs_base.specs.Replay.{replay_keeps}
use Rattle.cfs_fakes.specs.declared.kept.Call.{Call}
use Rattle.cfs_fakes.specs.declared.kept.Call.TheVariants.{Write, Barrier}
use Rattle.cfs_fakes.specs.declared.kept.KeptCall.{KeptCall}
use Rattle.cfs_fakes.specs.declared.recorder.Recorder.{Recorder}
use Rattle.cfs_fakes.specs.Recorder.{left_of}
use Rattle.cfs_fakes.specs.Replay.{DiskState, after, made, made_at, replayed_calls, zeros}

abbrev HasSize : ℕ → DiskState → Type 0
HasSize n s = (length s.content ≡ n) × (length s.base ≡ n)

after_size : (n : ℕ) (call : Call) (s : DiskState) → HasSize n s → HasSize n (after call s)
after_size n (Write at block true) s h = (length-set s.content at block ∙ h.0, h.1)
after_size n (Write at block false) s h = h
after_size n Barrier s h = (h.0, h.0)

-- no call changes the number of blocks
pub base_size : (n t : ℕ) (calls : List KeptCall) → length (replayed_calls (zeros n) t calls).base ≡ n
base_size n t calls =
    let all : length (zeros n).content ≡ n = length-replicate n (replicate 512 0) in
    (replay_keeps made_at made (HasSize n) (λ kept s h. after_size n kept.call s h) (zeros n) t calls (all, all)).1

pub left_size : (r : Recorder) (t : ℕ) (c : Image) → left_of r t c → length c ≡ r.blocks
left_size r t c left = left.1.3.1.size ∙ base_size r.blocks left.1.0 r.kept.items
