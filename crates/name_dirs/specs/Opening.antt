-- How a directory is read whole.
use Rattle.std.specs.Prelude.{◌≡◌, ◌≢◌, ℕ, ◌-◌, ◌<◌, ◌≤◌, true, List, length, Result, Some, if◌then◌else◌, nat_lt}
use Rattle.cfs_base.specs.declared.identifier.Puid.{Puid}
use Rattle.ufs_model.specs.declared.asker.Asker.{Ghosts}
use Rattle.ufs_model.specs.declared.object.File.{File}
use Rattle.ufs_model.specs.declared.object.Index.{Index}
use Rattle.ufs_model.specs.Graph.{Graph}
use Rattle.ufs_model.specs.State.{State, is_running}
use Rattle.name_dirs.specs.declared.fault.DirFault.{DirFault}
use Rattle.name_dirs.specs.declared.fault.DirFault.TheVariants as faults
use Rattle.name_dirs.specs.declared.table.Table.{Table}
use Rattle.name_dirs.specs.Directory.{file_at, row_at}
use Rattle.name_dirs.specs.Reading.{HasTable, IsLookFault, IsReadFault, Looks}

-- ---- rows

-- no row but the header is this one
abbrev pub HasNoRow : List ℕ → (slots : ℕ) → List ℕ → Type 0
HasNoRow bytes slots row = (k : ℕ) → 1 ≤ k → k < slots → row_at bytes k ≢ row

-- this row is the first, and each before it is another
pub record IsFirstRow (bytes : List ℕ) (slots : ℕ) (row : List ℕ) (place : ℕ) : Type 0 where
  pub some : 1 ≤ place
  pub within : place < slots
  pub here : row_at bytes place ≡ row
  pub before : (k : ℕ) → 1 ≤ k → k < place → row_at bytes k ≢ row

-- a number of entries that is too large for 32 bits is reported as the largest
abbrev pub capacity_told : (slots : ℕ) → ℕ
capacity_told slots = if nat_lt (slots - 1) 4294967296 then slots - 1 else 4294967295

abbrev pub full_of : (slots : ℕ) → DirFault
full_of slots = faults.DirFull (capacity_told slots)

-- ---- reading

-- all bytes of a file
abbrev pub ReadsWhole : {A : Type 0} → Ghosts A → ℕ → Puid → (size : ℕ) → A → A → Result (List ℕ) DirFault → Type 0
ReadsWhole g who file size old new result = (s : State) (f : File) → g.stands old s → is_running s ≡ true
    → file_at s.graph file ≡ Some f → size ≡ length f.bytes
    → Looks g who s (λ bytes. bytes ≡ f.bytes) (IsLookFault s file) old new result

-- the table that was read is the directory's
pub record IsTableOf (g : Graph) (dir : Puid) (table : Table) : Type 0 where
  pub index : Index
  pub file : File
  pub has : HasTable g dir table.file index file
  pub slots : table.slots ≡ length index.slots
  pub bytes : table.bytes ≡ file.bytes

abbrev pub Opens : {A : Type 0} → Ghosts A → ℕ → Puid → A → A → Result Table DirFault → Type 0
Opens g who dir old new result = (s : State) → g.stands old s
    → Looks g who s (IsTableOf s.graph dir) (IsReadFault s dir) old new result
