-- What a call that changes a file is given, and what it did.
use Rattle.std.specs.Prelude.{◌≡◌, ℕ, ◌+◌, ◌≤◌, false, true, List, None, Some, Result, IfErr, OnOk, length, sum}
use Rattle.cfs_base.specs.Run.{IsSettled, Leaves}
use Rattle.cfs_base.specs.declared.disk.Disk.{Ghosts}
use Rattle.cfs_base.specs.declared.identifier.Puid.{Puid}
use Rattle.cfs_base.specs.declared.refusal.Refused.{Refused}
use Rattle.cfs_base.specs.declared.refusal.Refused.TheVariants as refusals
use Rattle.claims.specs.Claims.{AreClaimed}
use Rattle.cyl_alloc.specs.Space.{Kept}
use Rattle.intentions.specs.Store.{StoreHas}
use Rattle.normal_files.specs.Ends.{is_damaged}
use Rattle.normal_files.specs.Frees.{TakesNone}
use Rattle.normal_files.specs.Order.{claims_of}
use Rattle.normal_files.specs.Standing.{BecomesFile, IsPartly}
use Rattle.normal_files.specs.WriteRefusal.{TellsNeed, needs}
use Rattle.ufs_model.specs.Graph.{Graph, object_at}
use Rattle.ufs_model.specs.Object.{resized, written}
use Rattle.ufs_model.specs.declared.object.File.{File}
use Rattle.ufs_model.specs.declared.object.Object.TheVariants as objects
use Rattle.vol_owners.specs.Account.{Drafts}

-- the store has a file without a draft, and its root is in this block
pub record Handed {D : Type 0} (g : Ghosts D) (at : ℕ) (disk : D) (space : Kept) : Type 0 where
  pub graph : Graph
  pub drafts : Drafts
  pub id : Puid
  pub file : File
  pub store : StoreHas g graph drafts disk space
  pub there : object_at graph id ≡ Some (objects.File file)
  pub no_draft : drafts id ≡ None
  pub here : id.block ≡ at

-- A write of bytes at an offset. If it is done, the store has the file with them, and that survives a crash. Each
-- touched leaf that wasn't held took the least Free block, and after it its node, in increasing order. Done or not,
-- in each image that is left each leaf is old or new. It is Full exactly if fewer blocks are Free than the write
-- needs, plus the floor. If a write was tried so many were Free.
pub record WritesFile {D : Type 0} {g : Ghosts D} {at : ℕ} {disk : D} {space : Kept} (h : Handed g at disk space)
    (offset : ℕ) (bytes : List ℕ) (floor : ℕ) (new : D) (after : Kept)
    (result : Result (Unit {0}) Refused) : Type 0 where
  pub done : OnOk result (BecomesFile g h.graph h.drafts h.id (written h.file offset bytes) disk new after)
  pub settled : OnOk result (IsSettled g new)
  pub order : OnOk result (AreClaimed (claims_of at h.file offset (length bytes)) (g.content disk) (g.content new))
  pub images : Leaves g disk new (λ c. IsPartly c h.graph h.id h.file (written h.file offset bytes))
  pub sound : IfErr result (λ e. is_damaged e ≡ false)
  pub room : OnOk result (needs h.file offset (length bytes) + floor ≤ sum space.free)
  pub full : IfErr result (TellsNeed (needs h.file offset (length bytes)))
  pub begun : IfErr result (λ e. e ≡ refusals.Disk true → needs h.file offset (length bytes) + floor ≤ sum space.free)

-- A size that is set. If it is done, the store has the file of this size, and no block was taken. A resize to less
-- ends in writes of maps that no barrier follows: they free what the file had. Done or not, in each image that is
-- left the size and each leaf are old or new.
pub record ResizesFile {D : Type 0} {g : Ghosts D} {at : ℕ} {disk : D} {space : Kept} (h : Handed g at disk space)
    (size : ℕ) (new : D) (after : Kept) (result : Result (Unit {0}) Refused) : Type 0 where
  pub done : OnOk result (BecomesFile g h.graph h.drafts h.id (resized h.file size) disk new after)
  pub takes_none : OnOk result (TakesNone (g.content disk) (g.content new))
  pub settled : length h.file.bytes ≤ size → OnOk result (IsSettled g new)
  pub images : Leaves g disk new (λ c. IsPartly c h.graph h.id h.file (resized h.file size))
  pub sound : IfErr result (λ e. is_damaged e ≡ false)
