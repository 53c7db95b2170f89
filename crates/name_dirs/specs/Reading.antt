-- Single requests that read.
use Rattle.std.specs.Prelude.{◌≡◌, ℕ, ◌<◌, ◌≤◌, true, List, length, Option, Some, None, Result, Ok, Err}
use Rattle.std.specs.Prelude.{slice_range}
use Rattle.cfs_base.specs.declared.identifier.Puid.{Puid}
use Rattle.ufs_model.specs.declared.asked.Reply.{Reply}
use Rattle.ufs_model.specs.declared.asked.Reply.TheVariants as replies
use Rattle.ufs_model.specs.declared.asker.Asker.{Ghosts}
use Rattle.ufs_model.specs.declared.object.File.{File}
use Rattle.ufs_model.specs.declared.object.Index.{Index}
use Rattle.ufs_model.specs.Graph.{Graph}
use Rattle.ufs_model.specs.Object.{slot_of}
use Rattle.ufs_model.specs.Refusal.{is_open_for_writing}
use Rattle.ufs_model.specs.State.{State, is_running}
use Rattle.name_dirs.specs.declared.fault.DirFault.{DirFault}
use Rattle.name_dirs.specs.declared.fault.DirFault.TheVariants as faults
use Rattle.name_dirs.specs.Calls.{ReadsOn}
use Rattle.name_dirs.specs.Directory.{file_at, index_at, is_table}
use Rattle.name_dirs.specs.Faults.{IsDirFault, IsReadTrouble, TellsHalt, after_fault, due_of, fault_told, none_due}

-- ---- the reply that is expected, or its fault

abbrev pub number_told : Reply → Result ℕ DirFault
number_told (replies.Number n) = Ok n
number_told reply = Err (fault_told reply)

abbrev pub slot_told : Reply → Result (Option Puid) DirFault
slot_told (replies.Id id) = Ok (Some id)
slot_told replies.Empty = Ok None
slot_told reply = Err (fault_told reply)

abbrev pub content_told : Reply → Result (List ℕ) DirFault
content_told (replies.Content bytes) = Ok bytes
content_told reply = Err (fault_told reply)

-- ---- a call that reads, and what it reports

-- what is reported is so, and the state stays, or there is a cause
abbrev pub TellsRead : {E : Type 0} → State → (E → Type 0) → (DirFault → Type 0) → Result E DirFault → State → Type 0
TellsRead s Is Cause (Ok e) t = (t ≡ s) × (is_running s ≡ true) × Is e
TellsRead s Is Cause (Err fault) t = (t ≡ after_fault fault s) × TellsHalt s fault × Cause fault

pub record Looks {A E : Type 0} (g : Ghosts A) (who : ℕ) (s : State) (Is : E → Type 0) (Cause : DirFault → Type 0)
    (old new : A) (result : Result E DirFault) : Type 0 where
  pub after : State
  pub calls : ReadsOn g who old new s after
  pub told : TellsRead s Is Cause result after

-- the fault of a read of an object that exists and is of the kind that is wanted
abbrev pub IsLookFault : State → Puid → DirFault → Type 0
IsLookFault s x faults.Memory = Unit {0}
IsLookFault s x (faults.Asked replies.Locked) = is_open_for_writing s x ≡ true
IsLookFault s x (faults.Asked (replies.Disk doubt)) = Unit {0}
IsLookFault s x (faults.Asked (replies.Stopped moment)) = s.stopped ≡ Some moment
IsLookFault s x fault = ⊥

-- the fault of a read of a directory
abbrev pub IsReadFault : State → Puid → DirFault → Type 0
IsReadFault s dir fault = IsDirFault (due_of s dir none_due) (IsReadTrouble s dir) (λ reply. ⊥) fault

-- ---- each request

-- how many slots an index has
abbrev pub LooksAtIndex : {A : Type 0} → Ghosts A → ℕ → Puid → A → A → Result ℕ DirFault → Type 0
LooksAtIndex g who dir old new result = (s : State) → g.stands old s
    → Looks g who s (λ n. (i : Index) × (index_at s.graph dir ≡ Some i) × (n ≡ length i.slots)) (IsReadFault s dir) old
    new result

-- what a slot holds
abbrev pub LooksAtSlot : {A : Type 0} → Ghosts A → ℕ → Puid → ℕ → A → A → Result (Option Puid) DirFault → Type 0
LooksAtSlot g who index slot old new result = (s : State) (i : Index) → g.stands old s
    → (is_running s ≡ true → (index_at s.graph index ≡ Some i) × (slot < length i.slots))
    → Looks g who s (λ what. what ≡ slot_of i slot) (IsLookFault s index) old new result

-- how many bytes a file has
abbrev pub LooksAtFile : {A : Type 0} → Ghosts A → ℕ → Puid → A → A → Result ℕ DirFault → Type 0
LooksAtFile g who file old new result = (s : State) (f : File) → g.stands old s → file_at s.graph file ≡ Some f
    → Looks g who s (λ n. n ≡ length f.bytes) (IsLookFault s file) old new result

-- some bytes of a file, or all
abbrev pub LooksAtBytes : {A : Type 0} → Ghosts A → ℕ → Puid → (from to : ℕ) → A → A → Result (List ℕ) DirFault → Type 0
LooksAtBytes g who file from to old new result = (s : State) (f : File) → g.stands old s
    → file_at s.graph file ≡ Some f → to ≤ length f.bytes
    → Looks g who s (λ bytes. bytes ≡ slice_range f.bytes from to) (IsLookFault s file) old new result

-- ---- a directory that is read

-- an index, what is in its slot 0, and that this is its table
pub record HasTable (g : Graph) (dir file : Puid) (i : Index) (f : File) : Type 0 where
  pub index : index_at g dir ≡ Some i
  pub first : slot_of i 0 ≡ Some file
  pub table : file_at g file ≡ Some f
  pub is : is_table (length i.slots) f ≡ true
