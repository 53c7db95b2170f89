-- The least-numbered Free block gets another entry in its map, by one read and one write.
use Rattle.std.specs.Prelude.{◌≡◌, ℕ, ◌<◌, ◌↔◌, false, IsErr, IsTrue, IfErr, IfOk, OnOk, Result, Err, length, sum}
use Rattle.cfs_base.specs.Calls.{HasTried, MakesAtMost, OnlyReads}
use Rattle.cfs_base.specs.Disk.{Image, Written}
use Rattle.cfs_base.specs.Run.{Leaves, Tells, left_now}
use Rattle.cfs_base.specs.declared.disk.Disk.{Ghosts}
use Rattle.cfs_base.specs.declared.identifier.BlockNo.{BlockNo}
use Rattle.cfs_base.specs.declared.refusal.Refused.{Refused}
use Rattle.cfs_base.specs.declared.refusal.Refused.TheVariants.{Full}
use Rattle.cyl_map.specs.declared.entry.MapEntry.{MapEntry}
use Rattle.cyl_map.specs.Volume.{map_of, map_with, with_entry}
use Rattle.cyl_alloc.specs.Refusals.{IsFindRefusal}
use Rattle.cfs_base.specs.Refusals.{had_tried}
use Rattle.cyl_alloc.specs.Space.{Kept, AreCounts, IsGoodMap, IsLeastFree, after_taking}

-- one of these images, with this entry written for the image's least-numbered Free block
abbrev pub EntryWritten : (Image → Type 0) → Image → MapEntry → Image → Type 0
EntryWritten images image entry c = (n : ℕ) × IsLeastFree image n × Written images (map_of n) (map_with image n entry) c

-- what such a call did: to the disk, old and new, and to the counts, before and after
pub record Enters {D : Type 0} (g : Ghosts D) (entry : MapEntry) (old new : D) (before after : Kept)
    (result : Result BlockNo Refused) : Type 0 where
  -- the least-numbered Free block has the entry, and no other entry changed
  pub entered : Tells g old → AreCounts (g.content old) before
      → IfOk result (λ block. IsLeastFree (g.content old) block.0
      × (g.content new ≡ with_entry (g.content old) block.0 entry))
  pub on_disk : IfOk result (λ block. block.0 < g.blocks old)
  pub whole : Tells g old → IfOk result (λ block. IsGoodMap (g.content old) block.0)
  pub told : OnOk result ((n : ℕ) → IsTrue (g.told old n) → IsTrue (g.told new n))
  pub made : OnOk result (HasTried g old new)
  -- the counts are again those of the disk, with one block less in the cylinder
  pub counts : Tells g old → AreCounts (g.content old) before → OnOk result (AreCounts (g.content new) after)
  pub taken : IfOk result (λ block. after ≡ after_taking before block.0)
  pub kept : IsErr result → after ≡ before
  pub cylinders : length after.free ≡ length before.free
  pub left : after.left ≡ before.left
  -- it is full exactly if no block is Free
  pub full : (result ≡ Err (Full (record { free = 0; need = 1 }))) ↔ (sum before.free ≡ 0)
  pub refused : IfErr result (IsFindRefusal g old new before)
  pub unless_tried : IfErr result (λ error. had_tried error ≡ false → OnlyReads g 1 old new)
  -- a crash on the way leaves the map as it was, or with the entry
  pub images : Tells g old → AreCounts (g.content old) before
      → Leaves g old new (EntryWritten (left_now g old) (g.content old) entry)
  pub calls : MakesAtMost g 2 1 old new
