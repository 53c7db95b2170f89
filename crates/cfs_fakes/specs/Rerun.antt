-- The state that a disk on which calls are made again has reached.
use Rattle.std.specs.Prelude.{◌≡◌, ℕ, ◌-◌, ◌<◌, length, get_or}
use Rattle.cfs_fakes.specs.Replay.{DiskState, IsChoice, writes_to}
use Rattle.cfs_fakes.specs.declared.rerun.Rerun.{Rerun}

-- Content and image are those of the state, by the choices that are wanted. `left` has what is left of each block's
-- choice: how many of its writes have not been made since the last barrier.
pub record Follows (r : Rerun) (s : DiskState) : Type 0 where
  pub content : r.content ≡ s.content
  pub base : length s.base ≡ length s.content
  pub image : IsChoice s (λ n. get_or r.wanted.items n 0) r.image
  pub left : (n : ℕ) → n < length r.content →
      get_or r.left.items n 0 ≡ get_or r.wanted.items n 0 - length (writes_to n s.pending)
