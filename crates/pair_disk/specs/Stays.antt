-- The content of a disk in memory is an image that a crash may leave.
use Rattle.std.proofs.Common.{◌≡◌, ℕ, ◌≤◌, false, length, sym, ◌∙◌, arith}
use Rattle.cfs_base.specs.Disk.{Image, AreBlocks, block_at}
use Rattle.pair_disk.specs.declared.history.History.{History}
use Rattle.pair_disk.specs.History.{history_clock, history_left, count_of, torn_now}

-- if it holds, in each block that isn't torn, what that block held at the last barrier
pub stays_image : (h : History) (content : Image) (t : ℕ) →
    t ≤ history_clock h → count_of h ≡ length content → AreBlocks content →
    ((n : ℕ) → (torn_now h).torn n ≡ false → block_at content n ≡ block_at (torn_now h).base n) →
    history_left h t content
stays_image h content t early size blocks held = (
  history_clock h,
  early,
  omega arith,
  record {
    size = sym size ∙ sym (h.sized (history_clock h)).size;
    whole = held;
    torn = λ n on torn. blocks n on;
  },
)
