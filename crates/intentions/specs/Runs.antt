-- Blocks that lie in one map and follow one another: their entries are changed by one write of it.
use Rattle.std.specs.Prelude.{◌≡◌, ℕ, ◌+◌, ◌/◌, ◌≤◌, ◌==◌, if◌then◌else◌, Bool, false, true, List, [], ◌∷◌, length}
use Rattle.std.specs.Prelude.{IfErr, IsTrue, OnOk, Result, set, take}
use Rattle.std.specs.List.{All}
use Rattle.cfs_base.specs.Calls.{HasStopped, HasTried, MakesAtMost}
use Rattle.cfs_base.specs.Disk.{Image, Written, block_at}
use Rattle.cfs_base.specs.Run.{Leaves, left_now}
use Rattle.cfs_base.specs.declared.disk.Disk.{Ghosts}
use Rattle.cfs_base.specs.declared.refusal.Trouble.{Trouble}
use Rattle.cfs_base.specs.declared.refusal.Trouble.TheVariants as trouble
use Rattle.cyl_alloc.specs.Space.{HasMoreFree}
use Rattle.cyl_map.specs.Map.{SpellsMap, is_free}
use Rattle.cyl_map.specs.Mapped.{IsMapped}
use Rattle.cyl_map.specs.Volume.{map_of}
use Rattle.cyl_map.specs.declared.entry.MapEntry.{MapEntry}
use Rattle.intentions.specs.Entries.{FitsEntry, changed_entry}
use Rattle.intentions.specs.Left.{how_for}
use Rattle.intentions.specs.Turned.{turned}
use Rattle.intentions.specs.declared.change.EntryChange.{EntryChange}
use Rattle.intentions.specs.declared.run.Rule.{Rule}
use Rattle.intentions.specs.declared.run.Rule.TheVariants.{Alike, Settle}

-- ---- how many runs there are

-- how many runs of blocks of one cylinder these are, after a block of cylinder c
abbrev pub runs_after : ℕ → List ℕ → ℕ
runs_after c [] = 0
runs_after c (n ∷ ns) = (if n / 64 == c then 0 else 1) + runs_after (n / 64) ns

abbrev pub runs : List ℕ → ℕ
runs [] = 0
runs (n ∷ ns) = 1 + runs_after (n / 64) ns

-- these blocks begin with block n
abbrev pub IsFirst : ℕ → List ℕ → Type 0
IsFirst n [] = ⊥
IsFirst n (m ∷ ms) = m ≡ n

-- ---- what is done to them

-- the change of the entry of block n
abbrev pub how_of : Rule → ℕ → EntryChange
how_of (Alike how) n = how
how_of (Settle shadow) n = how_for (n == shadow.0)

-- the entry of a claim is valid
abbrev pub AllFit : Rule → Type 0
AllFit (Alike how) = FitsEntry how
AllFit (Settle shadow) = Unit {0}

-- a block that is Free stays so
abbrev pub KeepsFree : EntryChange → Type 0
KeepsFree how = (e : MapEntry) → is_free e ≡ true → is_free (changed_entry how e) ≡ true

-- a block became Free
abbrev pub is_freed : MapEntry → MapEntry → Bool
is_freed was now = if is_free was then false else is_free now

-- ---- in memory

-- In the map of block n the entries of the first i of these blocks are changed. All of these are in it.
pub record FlipsFirst (rule : Rule) (n i freed : ℕ) (ns was now : List ℕ) : Type 0 where
  pub within : i ≤ length ns
  pub here : All (λ m. map_of m ≡ map_of n) (take i ns)
  pub spells : SpellsMap now
  pub changed : (image : Image) → block_at image (map_of n) ≡ was
      → IsMapped (turned (how_of rule) (take i ns)) image (set image (map_of n) now)
  -- `freed` of them became Free
  pub free : ((m : ℕ) → KeepsFree (how_of rule m)) → (image : Image) → block_at image (map_of n) ≡ was
      → HasMoreFree image n freed (set image (map_of n) now)

-- ---- on a disk

-- The write of a map at block m.
pub record WritesMap {D : Type 0} (g : Ghosts D) (m : ℕ) (bytes : List ℕ) (old new : D)
    (result : Result (Unit {0}) Trouble) : Type 0 where
  pub written : OnOk result (g.content new ≡ set (g.content old) m bytes)
  pub told : OnOk result ((k : ℕ) → IsTrue (g.told old k) → IsTrue (g.told new k))
  pub tried : HasTried g old new
  pub images : Leaves g old new (Written (left_now g old) m bytes)
  pub refused : IfErr result (λ t. (t ≡ trouble.Disk true) × HasStopped g true old new)
  pub calls : MakesAtMost g 1 1 old new
