-- What recovery makes of a volume.
use Rattle.std.specs.Prelude.{◌≡◌, ◌≢◌, ◌⊎◌, ℕ, zero, suc, ◌+◌, ◌*◌, ◌/◌, ◌≤◌, true, false, cond, nat_eq, List}
use Rattle.std.specs.Prelude.{length, slice_get, Some}
use Rattle.std.specs.Cmp.Lexicographic.{pointwise}
use Rattle.cfs_base.specs.Calls.{HasFailed}
use Rattle.cfs_base.specs.Disk.{Image, Nothing, block_at}
use Rattle.cfs_base.specs.Outside.{count_after}
use Rattle.cfs_base.specs.Run.{IsSettled, Leaves}
use Rattle.cfs_base.specs.declared.disk.Disk.{Ghosts}
use Rattle.cyl_map.specs.declared.entry.MapEntry.{MapEntry}
use Rattle.cyl_map.specs.declared.state.BlockState.TheVariants.{Allocated}
use Rattle.cyl_map.specs.Volume.{entry_in}
use Rattle.cyl_alloc.specs.Space.{AreCounts, Kept, unheld_entry}
use Rattle.puid_space.specs.Directory.{Listing}
use Rattle.puid_space.specs.Kinds.{kinds_of}
use Rattle.ufs_model.specs.Graph.{Graph, ids_of}
use Rattle.ufs_model.specs.Identifier.{rises}
use Rattle.vol_image.specs.Fault.{HasLabel}
use Rattle.vol_image.specs.Part.{is_fixed}
use Rattle.vol_image.specs.Run.{Carries}
use Rattle.vol_image.specs.Sight.{source}
use Rattle.vol_image.specs.Sound.{IsSoundAs}
use Rattle.vol_label.specs.declared.label.Label.{Label}
use Rattle.vol_owners.specs.Account.{Accounts, IsSwept, no_drafts}
use Rattle.cfs_recover.specs.Survey.{IsIn}

-- Beside the maps and the label exactly the blocks of the objects aren't Free. They are Allocated, and no commit bit
-- is set.
pub record IsClean (image : Image) (graph : Graph) : Type 0 where
  pub free : (n : ℕ) (e : MapEntry) → entry_in image n ≡ Some e → is_fixed n ≡ false → ¬ IsIn image graph n
      → e ≡ unheld_entry
  pub held : (n : ℕ) (e : MapEntry) → entry_in image n ≡ Some e → IsIn image graph n
      → (e.state ≡ Allocated) × (e.committed ≡ false)

-- The disk holds a volume that reads as image `before` did, with only its objects. The label is the volume's, the
-- directory has its identifiers with their kinds, and the space has its counts. The last five fields are what a store
-- needs that is opened on the disk with no draft.
pub record IsRecovered {D : Type 0} (g : Ghosts D) (before : Image) (d : D) (label : Label) (directory : Listing)
    (space : Kept) : Type 0 where
  pub graph : Graph
  pub was : IsSoundAs before graph
  pub sound : IsSoundAs (g.content d) graph
  pub settled : IsSettled g d
  pub clean : IsClean (g.content d) graph
  pub labelled : HasLabel (g.content d) label
  pub root : graph.root ≡ label.root
  pub size : 64 * label.cylinders ≡ g.blocks d
  pub named : directory.named ≡ kinds_of graph
  pub room : directory.room ≡ g.blocks d
  pub carries : Carries g graph d
  pub account : Accounts (g.content d) graph no_drafts
  pub swept : IsSwept (g.content d) graph
  pub counts : AreCounts (g.content d) space
  pub ordered : rises (ids_of graph) ≡ true

-- nothing was written
pub record IsUntouched {D : Type 0} (g : Ghosts D) (old new : D) : Type 0 where
  pub content : g.content new ≡ g.content old
  pub images : Leaves g old new Nothing

-- 1 if a block isn't what it was, else 0
abbrev pub one_if_changed : List ℕ → List ℕ → ℕ
one_if_changed old new = cond (pointwise nat_eq new old) 0 1

-- how many maps, of this many cylinders, aren't what they were
unfoldable pub changed_maps : Image → Image → ℕ → ℕ
changed_maps old new zero = 0
changed_maps old new (suc n) = changed_maps old new n + one_if_changed (block_at old (64 * n)) (block_at new (64 * n))

-- Beside `barriers` barriers, only root blocks whose objects were read from elsewhere were written, each once, and
-- each map that isn't what it was, once.
pub record WritesWhatDiffers {D : Type 0} (g : Ghosts D) (barriers : ℕ) (old new : D) : Type 0 where
  pub roots : List ℕ
  pub each : (k n : ℕ) → slice_get roots k ≡ Some n → source (g.content old) n ≢ n
  pub once : (j k n : ℕ) → slice_get roots j ≡ Some n → slice_get roots k ≡ Some n → j ≡ k
  pub tries : g.tries new ≤ g.tries old + barriers + length roots
      + changed_maps (g.content old) (g.content new) (length (g.content old) / 64)

-- ---- images on the way

-- one call was made, a barrier, and it was done: no write waits
pub record HasFlushed {D : Type 0} (g : Ghosts D) (old new : D) : Type 0 where
  pub settled : IsSettled g new
  pub untouched : IsUntouched g old new
  pub calls : g.calls new ≡ count_after (g.calls old)
  pub tries : g.tries new ≡ count_after (g.tries old)

-- one call was made, a barrier, and it failed
pub record HasNotFlushed {D : Type 0} (g : Ghosts D) (old new : D) : Type 0 where
  pub failed : HasFailed g old new
  pub untouched : IsUntouched g old new
  pub calls : g.calls new ≡ count_after (g.calls old)
  pub tries : g.tries new ≡ count_after (g.tries old)

-- The first call is a barrier. If it was done, whatever a crash left since, or leaves now, has P.
abbrev pub LeavesSinceBarrier : {D : Type 0} → Ghosts D → D → D → (Image → Type 0) → Type 0
LeavesSinceBarrier {D} g old new P = HasNotFlushed g old new ⊎ ((mid : D) × HasFlushed g old mid × Leaves g mid new P)
