-- A change of a file in place, on its way.
use Rattle.std.specs.Prelude.{◌≡◌, ℕ, ◌<◌, ◌≤◌, Bool, false, if◌then◌else◌, IsTrue, List, Result, Ok, Err, IfErr}
use Rattle.std.specs.Prelude.{OnOk, Some, set}
use Rattle.block_tree.specs.Reads.{HasStoppedBy}
use Rattle.cfs_base.specs.Calls.{HasTried, MakesAtMost}
use Rattle.cfs_base.specs.Disk.{Image, Written}
use Rattle.cfs_base.specs.Refusals.{trouble_after_try}
use Rattle.cfs_base.specs.Run.{Leaves, Tells, left_now}
use Rattle.cfs_base.specs.Went.{Went}
use Rattle.cfs_base.specs.declared.disk.Disk.{Ghosts}
use Rattle.cfs_base.specs.declared.refusal.Trouble.{Trouble}
use Rattle.cyl_map.specs.Volume.{entry_in}
use Rattle.cyl_alloc.specs.Space.{AreCounts, Kept}
use Rattle.vol_owners.specs.Change.{ChangesOnly, of_owner}
use Rattle.normal_files.specs.Among.{IsAmong, IsEither, leaf_after, leaf_before}
use Rattle.normal_files.specs.View.{Way, id_at}
use Rattle.cfs_base.specs.declared.refusal.Trouble.TheVariants as trouble
use Rattle.block_tree.specs.declared.root.Root as roots

-- ---- single calls

-- the trouble of a call that had tried a write before, or hadn't
abbrev pub told_after : Bool → Trouble → Trouble
told_after tried t = if tried then trouble_after_try t else t

-- a block gets this content, with at most n calls, one of them a write
pub record WritesBlock {D : Type 0} (g : Ghosts D) (n block : ℕ) (content : List ℕ) (old new : D)
    (result : Result (Unit {0}) Trouble) : Type 0 where
  pub written : OnOk result (g.content new ≡ set (g.content old) block content)
  pub told : OnOk result ((b : ℕ) → IsTrue (g.told old b) → IsTrue (g.told new b))
  pub images : Leaves g old new (Written (left_now g old) block content)
  pub tried : OnOk result (HasTried g old new)
  pub refused : IfErr result (HasStoppedBy g old new)
  pub calls : MakesAtMost g n 1 old new

-- ---- runs of calls

-- How a run of calls went that takes no block. If it is done, it says whether a write was tried; if none was, all
-- calls are reads. If it is refused, a device call failed.
abbrev pub RunWent : {D : Type 0} → Ghosts D → (n t : ℕ) → D → D → Result Bool Trouble → Type 0
RunWent g n t old new result =
    Went g n t n old new (tt {0}) (tt {0}) (Unit {0}) (HasStoppedBy g old new) (λ e. e ≡ trouble.Disk false) Some result

-- the run is done
abbrev pub HasCome : {D : Type 0} → Ghosts D → (n t : ℕ) → (tried : Bool) → D → D → Type 0
HasCome g n t tried start now = RunWent g n t start now (Ok tried)

-- or a device call failed
abbrev pub Stops : {D : Type 0} → Ghosts D → (n t : ℕ) → D → D → Trouble → Type 0
Stops g n t old new e = RunWent g n t old new (Err e)

-- how a call ends; what it gives says whether a write was tried
abbrev pub ComesOrStops : {D A : Type 0} → Ghosts D → (n t : ℕ) → D → D → Result A Trouble → (A → Bool) → Type 0
ComesOrStops g n t old new (Ok x) tried = HasCome g n t (tried x) old new
ComesOrStops g n t old new (Err e) tried = Stops g n t old new e

-- ---- a file on its way

-- the held leaves before `upto` have their new bytes, and all others their old ones
abbrev pub IsWrittenTo : Image → roots.Root → (offset : ℕ) → (bytes : List ℕ) → (upto : ℕ) → ℕ → List ℕ → Type 0
IsWrittenTo a root offset bytes upto leaf content =
    (leaf < upto → content ≡ leaf_after a root offset bytes leaf) × (upto ≤ leaf → content ≡ leaf_before a root leaf)

-- what a crash may leave: each held leaf is old or new
abbrev pub MayLeave : {D : Type 0} {g : Ghosts D} {block : ℕ} → Way g block → (offset : ℕ) → (bytes : List ℕ) → Image
    → Type 0
MayLeave {g = g} {block = block} w offset bytes =
    let a = g.content w.start in IsAmong a w.graph (id_at block w.word) w.root (IsEither a w.root offset bytes)

-- the disk has come from the start of the way, and in its content the file's held leaves before `upto` are written
pub record IsAmid {D : Type 0} {g : Ghosts D} {block : ℕ} (w : Way g block) (offset : ℕ) (bytes : List ℕ) (upto : ℕ)
    (now : D) (kept : Kept) : Type 0 where
  pub tells : Tells g now
  pub content : IsAmong (g.content w.start) w.graph (id_at block w.word) w.root
      (IsWrittenTo (g.content w.start) w.root offset bytes upto) (g.content now)
  pub here : (c : Image) → left_now g now c → MayLeave w offset bytes c
  pub leaves : Leaves g w.start now (MayLeave w offset bytes)
  pub only : ChangesOnly (λ entry. of_owner block entry) (g.content w.start) (g.content now)
  pub counts : AreCounts (g.content now) kept

-- how a call ends that writes the held leaves of a part before `upto`
abbrev pub Puts : {D : Type 0} {g : Ghosts D} {block : ℕ} → Way g block → (offset : ℕ) → (bytes : List ℕ) → (upto : ℕ)
    → D → D → Kept → Result Bool Trouble → Type 0
Puts {g = g} w offset bytes upto old new kept (Ok tried) =
    IsAmid w offset bytes upto new kept × ((m : ℕ) → entry_in (g.content new) m ≡ entry_in (g.content old) m)
Puts {g = g} w offset bytes upto old new kept (Err e) = Leaves g w.start new (MayLeave w offset bytes)
