-- What a call does that changes one entry, and why it is refused.
use Rattle.std.specs.Prelude.{◌≡◌, ℕ, true, false, IsTrue, IfErr, OnOk, Result, Some}
use Rattle.cfs_base.specs.Calls.{HasTried, MakesAtMost, OnlyReads}
use Rattle.cfs_base.specs.Disk.{Written}
use Rattle.cfs_base.specs.Refusals.{trouble_had_tried}
use Rattle.cfs_base.specs.Run.{IsSettled, Leaves, Tells, left_now}
use Rattle.cfs_base.specs.declared.disk.Disk.{Ghosts}
use Rattle.cfs_base.specs.declared.refusal.Trouble.{Trouble}
use Rattle.cfs_base.specs.declared.refusal.Trouble.TheVariants as trouble
use Rattle.cyl_map.specs.declared.entry.MapEntry.{MapEntry}
use Rattle.cyl_map.specs.Volume.{entry_in, map_of, map_with, with_entry}
use Rattle.cyl_alloc.specs.Refusals.{IsMapTrouble}
use Rattle.cyl_alloc.specs.Space.{IsGoodMap}
use Rattle.ufs_model.specs.Graph.{Graph}
use Rattle.vol_image.specs.Run.{Carries}
use Rattle.vol_image.specs.Sound.{Holds}
use Rattle.intentions.specs.Course.{Course, Frame, IsCourse, IsOn, Keeps, MayPut}

-- f changes the entry of block n, and nothing else changes. One read and one write are made.
pub record ChangesEntry {D A : Type 0} (g : Ghosts D) (n : ℕ) (f : MapEntry → MapEntry)
    (old new : D) (result : Result A Trouble) : Type 0 where
  pub put : OnOk result (Tells g old → (e : MapEntry) → entry_in (g.content old) n ≡ Some e
      → g.content new ≡ with_entry (g.content old) n (f e))
  pub told : OnOk result ((k : ℕ) → IsTrue (g.told old k) → IsTrue (g.told new k))
  pub tried : OnOk result (HasTried g old new)
  -- a crash leaves what it might have left before, or that with the map in which the entry is changed
  pub images : Tells g old → (e : MapEntry) → entry_in (g.content old) n ≡ Some e
      → Leaves g old new (Written (left_now g old) (map_of n) (map_with (g.content old) n (f e)))
  -- a run stays on its course if the change may be made on it, and all images that are left hold its objects
  pub keeps : (course : Course) (e : MapEntry) → IsCourse course → Keeps g course old
      → entry_in (g.content old) n ≡ Some e → MayPut course n e (f e) → OnOk result (Keeps g course new)
  pub leaves : (course : Course) (e : MapEntry) → IsCourse course → Keeps g course old
      → entry_in (g.content old) n ≡ Some e → MayPut course n e (f e) → Leaves g old new (IsOn course)
  -- so a disk still carries the objects that it carried, whatever writes of others wait for a barrier
  pub carries : (graph : Graph) (e : MapEntry) → Carries g graph old → entry_in (g.content old) n ≡ Some e
      → MayPut (Frame (g.content old) graph) n e (f e) → OnOk result (Carries g graph new)
  pub holds : (graph : Graph) (e : MapEntry) → Carries g graph old → entry_in (g.content old) n ≡ Some e
      → MayPut (Frame (g.content old) graph) n e (f e) → Leaves g old new (λ c. Holds c graph)
  -- a device call failed, or the map block was read and is no map
  pub refused : IfErr result (IsMapTrouble g old new n)
  pub unless_tried : IfErr result (λ t. trouble_had_tried t ≡ false → OnlyReads g 1 old new)
  -- no write is tried into a map block that is no map
  pub whole : OnOk result (Tells g old → IsGoodMap (g.content old) n)
  pub whole_tried : IfErr result (λ t. t ≡ trouble.Disk true → Tells g old → IsGoodMap (g.content old) n)
  pub calls : MakesAtMost g 2 1 old new

-- A change of an object's commit bit, with a barrier before the write and one after it.
pub record ChangesBit {D A : Type 0} (g : Ghosts D) (n : ℕ) (f : MapEntry → MapEntry)
    (old new : D) (result : Result A Trouble) : Type 0 where
  pub put : OnOk result (Tells g old → (e : MapEntry) → entry_in (g.content old) n ≡ Some e
      → g.content new ≡ with_entry (g.content old) n (f e))
  pub told : OnOk result ((k : ℕ) → IsTrue (g.told old k) → IsTrue (g.told new k))
  -- if it is done, a crash leaves only the content
  pub settled : OnOk result (Tells g old → IsSettled g new)
  pub tried : OnOk result (HasTried g old new)
  -- a crash on the way leaves what it might have left before, or the content with the change
  pub images : Tells g old → (e : MapEntry) → entry_in (g.content old) n ≡ Some e
      → Leaves g old new (λ c. c ≡ with_entry (g.content old) n (f e))
  pub keeps : (course : Course) (e : MapEntry) → IsCourse course → Keeps g course old
      → entry_in (g.content old) n ≡ Some e → MayPut course n e (f e) → OnOk result (Keeps g course new)
  pub leaves : (course : Course) (e : MapEntry) → IsCourse course → Keeps g course old
      → entry_in (g.content old) n ≡ Some e → MayPut course n e (f e) → Leaves g old new (IsOn course)
  pub refused : IfErr result (IsMapTrouble g old new n)
  pub unless_tried : IfErr result (λ t. trouble_had_tried t ≡ false → OnlyReads g 1 old new)
  pub whole : OnOk result (Tells g old → IsGoodMap (g.content old) n)
  pub whole_tried : IfErr result (λ t. t ≡ trouble.Disk true → Tells g old → IsGoodMap (g.content old) n)
  pub calls : MakesAtMost g 4 3 old new
