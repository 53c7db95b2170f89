-- What contracts see of a cache of map blocks over a disk.
use Rattle.std.specs.Prelude.{◌≡◌, ℕ, Bool, IsTrue, List, [], Some}
use Rattle.cfs_base.specs.Disk.{Image, block_at}
use Rattle.cfs_base.specs.declared.disk.Disk.{Ghosts}
use Rattle.map_cache.specs.declared.held.Stage.TheVariants.{Waiting, Keeping}
use Rattle.map_cache.specs.Holding.{Holding, found, held_block, holding}

-- the lower disk, what is held of it, and how many calls were made of the cache
pub record Cache (D : Type 0) : Type 0 where
  pub lower : D
  pub held : Holding
  pub calls : ℕ

-- a cache on which no call was made
abbrev pub new_cache : {D : Type 0} → D → ℕ → Cache D
new_cache lower capacity = record { lower = lower; held = holding [] capacity Waiting 0; calls = 0 }

-- ---- the content, what is told, the images, the moment, the tries and the faults are the lower disk's

module _ {D : Type 0} (g : Ghosts D) where
  abbrev pub blocks_of : Cache D → ℕ
  blocks_of c = g.blocks c.lower

  abbrev pub is_honest : Cache D → Bool
  is_honest c = g.honest c.lower

  abbrev pub content_of : Cache D → Image
  content_of c = g.content c.lower

  abbrev pub is_told : Cache D → ℕ → Bool
  is_told c = g.told c.lower

  abbrev pub is_telling : Cache D → Bool
  is_telling c = g.tells_images c.lower

  abbrev pub left_of : Cache D → ℕ → Image → Type 0
  left_of c = g.left_since c.lower

  abbrev pub moment_of : Cache D → ℕ
  moment_of c = g.moment c.lower

  abbrev pub tries_of : Cache D → ℕ
  tries_of c = g.tries c.lower

  abbrev pub faults_of : Cache D → ℕ
  faults_of c = g.faults c.lower

  -- how many calls were made of the lower disk
  abbrev pub lower_calls : Cache D → ℕ
  lower_calls c = g.calls c.lower

  -- What is held is what the lower disk holds, if that disk tells its content.
  pub record IsMirror (lower : D) (held : Holding) : Type 0 where
    -- while blocks are kept an honest disk tells all of them
    pub told : held.stage ≡ Keeping → IsTrue (g.honest lower) → (n : ℕ) → IsTrue (g.told lower n)
    pub bytes : (n : ℕ) (block : List ℕ) → held_block held n ≡ Some block →
        IsTrue (g.honest lower) → block ≡ block_at (g.content lower) n

-- the cache's own count of calls
abbrev pub own_calls : {D : Type 0} → Cache D → ℕ
own_calls c = c.calls

-- A held block was read: its bytes come from what is held, it comes to the front, and the lower disk isn't called.
pub record IsHit {D : Type 0} (old new : Cache D) (n : ℕ) (into : List ℕ) : Type 0 where
  pub bytes : held_block old.held n ≡ Some into
  pub lower : new.lower ≡ old.lower
  pub front : new.held ≡ found old.held n
