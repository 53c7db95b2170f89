-- What calls on the disk below do to it, and so to the pair disk.
use Rattle.std.specs.Prelude.{◌≡◌, ◌≢◌, ◌⊎◌, ℕ, ◌≤◌, IsTrue, List, set}
use Rattle.cfs_base.specs.Disk.{Image, Nothing, IsSameDisk, LeavesOnly, KeepsLeft}
use Rattle.cfs_base.specs.Outside.{Rose}
use Rattle.pair_disk.specs.declared.torn_disk.TornDisk.{Ghosts}
use Rattle.pair_disk.specs.Torn.{Torn}
use Rattle.pair_disk.specs.Pair.{pairs_in, tells_pair, tells_both, PairLeft}

-- nothing is written
pub record Stays {T : Type 0} (g : Ghosts T) (old new : T) : Type 0 where
  pub content : g.content new ≡ g.content old
  pub told : (n : ℕ) → IsTrue (g.told old n) → IsTrue (g.told new n)
  pub images : LeavesOnly g.moment g.left_since old new Nothing
  pub keeps : KeepsLeft g.moment g.left_since old new
  pub same : IsSameDisk g.blocks g.honest g.tells_images old new
  pub faults : g.faults old ≤ g.faults new

-- a block is written, done or not, and a barrier may be made
pub record PutsBelow {T : Type 0} (g : Ghosts T) (at : ℕ) (old new : T) : Type 0 where
  pub put : IsTrue (g.honest old) → (bytes : List ℕ) × (g.content new ≡ set (g.content old) at bytes)
  pub told_others : (k : ℕ) → k ≢ at → IsTrue (g.told old k) → IsTrue (g.told new k)
  pub images : LeavesOnly g.moment g.left_since old new (Torn (λ c. g.left_since old (g.moment old) c) at)
  pub keeps : KeepsLeft g.moment g.left_since old new
  pub same : IsSameDisk g.blocks g.honest g.tells_images old new
  pub faults : g.faults old ≤ g.faults new
  pub clock : Rose (g.moment old) (g.moment new)

-- A write of block n of the pair disk, or a part of it: the pair disk shows what it showed, or an image that has P,
-- and so does what a crash leaves.
pub record ChangesPair {T : Type 0} (g : Ghosts T) (n : ℕ) (P : Image → Type 0) (old new : T) : Type 0 where
  pub content : IsTrue (g.honest old) →
      (pairs_in (g.content new) ≡ pairs_in (g.content old)) ⊎ P (pairs_in (g.content new))
  pub told_others : (m : ℕ) → m ≢ n → IsTrue (tells_pair g old m) → IsTrue (tells_pair g new m)
  pub images : LeavesOnly g.moment (PairLeft g) old new (λ c. IsTrue (tells_both g old) × P c)
  pub keeps : KeepsLeft g.moment g.left_since old new
  pub same : IsSameDisk g.blocks g.honest g.tells_images old new
  pub faults : g.faults old ≤ g.faults new
  pub clock : Rose (g.moment old) (g.moment new)

-- a call failed: the count of faults and the clock rose
pub record FailedBelow {T : Type 0} (g : Ghosts T) (old new : T) : Type 0 where
  pub cause : Rose (g.faults old) (g.faults new)
  pub clock : Rose (g.moment old) (g.moment new)
