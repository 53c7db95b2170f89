-- Bytes written into a file.
use Rattle.std.specs.Prelude.{◌≡◌, ℕ, ◌+◌, ◌≤◌, false, List, Result, IfErr, OnOk, length}
use Rattle.cfs_base.specs.Run.{IsSettled}
use Rattle.cfs_base.specs.declared.disk.Disk.{Ghosts}
use Rattle.cfs_base.specs.declared.refusal.Refused.{Refused}
use Rattle.claims.specs.Claims.{AreClaimed}
use Rattle.cyl_alloc.specs.Space.{Kept}
use Rattle.ufs_model.specs.Object.{written}
use Rattle.normal_files.specs.Ends.{is_damaged}
use Rattle.normal_files.specs.Order.{claims_of}
use Rattle.normal_files.specs.Parts.{IsPart}
use Rattle.normal_files.specs.Standing.{Becomes}
use Rattle.normal_files.specs.View.{FileView}
use Rattle.normal_files.specs.declared.part.Part.{Part}
use Rattle.block_tree.specs.declared.root.Root as roots

-- the bytes are within the file, and these parts are of it
pub record IsWritable {D : Type 0} {g : Ghosts D} {block : ℕ} {root : roots.Root} {disk : D} {kept : Kept}
    (v : FileView g block root disk kept) (offset : ℕ) (bytes : List ℕ) (low high : Part) : Type 0 where
  pub inside : offset + length bytes ≤ length v.file.bytes
  pub low_is : IsPart (g.content disk) root low
  pub high_is : IsPart (g.content disk) root high

-- how a write ends
pub record WroteFile {D : Type 0} {g : Ghosts D} {block : ℕ} {root : roots.Root} {disk : D} {kept : Kept}
    (v : FileView g block root disk kept) (offset : ℕ) (bytes : List ℕ) (new : D) (after : Kept)
    (result : Result (Unit {0}) Refused) : Type 0 where
  pub file : Becomes v (written v.file offset bytes) new after result
  pub settled : OnOk result (IsSettled g new)
  pub order : OnOk result (AreClaimed (claims_of block v.file offset (length bytes)) (g.content disk) (g.content new))
  pub sound : IfErr result (λ e. is_damaged e ≡ false)
