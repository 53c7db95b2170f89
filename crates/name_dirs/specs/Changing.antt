-- Single requests that change an object.
use Rattle.std.specs.Prelude.{◌≡◌, ◌⊎◌, ℕ, ◌+◌, ◌*◌, ◌<◌, ◌≤◌, true, false, List, [], ◌∷◌, length, Option, Some, None}
use Rattle.std.specs.Prelude.{Result, Ok, Err, is_some}
use Rattle.cfs_base.specs.declared.identifier.Puid.{Puid}
use Rattle.cfs_base.specs.declared.kind.FileKind.TheVariants as kinds
use Rattle.ufs_model.specs.declared.asked.Reply.{Reply}
use Rattle.ufs_model.specs.declared.asked.Reply.TheVariants as replies
use Rattle.ufs_model.specs.declared.asker.Asker.{Ghosts}
use Rattle.ufs_model.specs.declared.object.File.{File}
use Rattle.ufs_model.specs.declared.object.Index.{Index}
use Rattle.ufs_model.specs.declared.object.Object.{Object}
use Rattle.ufs_model.specs.declared.object.Object.TheVariants as objects
use Rattle.ufs_model.specs.Graph.{Graph, is_there, with_object}
use Rattle.ufs_model.specs.Limits.{most_bytes}
use Rattle.ufs_model.specs.Object.{filled, new_file, resized, slot_of, written}
use Rattle.ufs_model.specs.Refusal.{is_open}
use Rattle.ufs_model.specs.State.{State, is_running}
use Rattle.name_dirs.specs.declared.fault.DirFault.{DirFault}
use Rattle.name_dirs.specs.declared.fault.DirFault.TheVariants as faults
use Rattle.name_dirs.specs.Chain.{Calls}
use Rattle.name_dirs.specs.Directory.{file_at, index_at, is_special}
use Rattle.name_dirs.specs.Text.{row_size}
use Rattle.name_dirs.specs.Faults.{IsMissing, IsTooFull, after_fault, fault_told}

-- ---- the reply that is expected, or its fault

abbrev pub done_told : Reply → Result (Unit {0}) DirFault
done_told replies.Done = Ok tt
done_told reply = Err (fault_told reply)

abbrev pub id_told : Reply → Result Puid DirFault
id_told (replies.Id id) = Ok id
id_told reply = Err (fault_told reply)

-- ---- a call that makes one object another, and what it reports

-- the graph stays, or is one that the request makes of it
abbrev pub OneOf : {E : Type 0} → Graph → (E → Graph → Type 0) → Graph → Type 0
OneOf {E} g Made h = (h ≡ g) ⊎ ((e : E) × Made e h)

abbrev pub TellsChange : {E : Type 0} → State → (E → Graph → Type 0) → (State → DirFault → Type 0) → Result E DirFault →
    State → Type 0
TellsChange s Made Cause (Ok e) t = (is_running t ≡ true) × Made e t.graph
TellsChange s Made Cause (Err fault) t = (t ≡ after_fault fault s) × Cause t fault

pub record Alters {A E : Type 0} (g : Ghosts A) (who : ℕ) (s : State) (x : Puid) (Made : E → Graph → Type 0)
    (Cause : State → DirFault → Type 0) (old new : A) (result : Result E DirFault) : Type 0 where
  pub after : State
  pub calls : Calls g who (OneOf s.graph Made) (x ∷ []) old new s after
  pub told : TellsChange s Made Cause result after

-- the fault of a change of an object that exists and is of the kind that is wanted; `also` is what else may be
-- missing
abbrev pub IsAlterFault : (cylinders most : ℕ) (also : Option Puid) → State → Puid → State → DirFault → Type 0
IsAlterFault cylinders most also s x t faults.Memory = Unit {0}
IsAlterFault cylinders most also s x t (faults.Asked replies.NoObject) = IsMissing s also
IsAlterFault cylinders most also s x t (faults.Asked replies.Locked) = is_open s x ≡ true
IsAlterFault cylinders most also s x t (faults.Asked (replies.Full n)) = IsTooFull cylinders most t n
IsAlterFault cylinders most also s x t (faults.Asked (replies.Disk doubt)) = Unit {0}
IsAlterFault cylinders most also s x t fault = ⊥

-- ---- each request

-- an identifier of an object that exists is put into a slot
abbrev pub Retains : {A : Type 0} → Ghosts A → ℕ → Puid → ℕ → Puid → A → A → Result (Unit {0}) DirFault → Type 0
Retains g who index slot id old new result = (s : State) (i : Index) → g.stands old s → is_running s ≡ true
    → index_at s.graph index ≡ Some i → slot < length i.slots
    → Alters g who s index
    (λ u h. (is_there s.graph id ≡ true) × (h ≡ with_object s.graph index (objects.Index (filled i slot (Some id)))))
    (IsAlterFault (g.cylinders old) 4 (Some id) s index) old new result

-- a slot that holds something is emptied
abbrev pub Empties : {A : Type 0} → Ghosts A → ℕ → Puid → ℕ → A → A → Result (Unit {0}) DirFault → Type 0
Empties g who index slot old new result = (s : State) (i : Index) → g.stands old s → is_running s ≡ true
    → index_at s.graph index ≡ Some i → slot < length i.slots → is_some (slot_of i slot) ≡ true
    → Alters g who s index (λ u h. h ≡ with_object s.graph index (objects.Index (filled i slot None)))
    (IsAlterFault (g.cylinders old) 4 None s index) old new result

-- a row of a special file is written
abbrev pub WritesRow : {A : Type 0} → Ghosts A → ℕ → Puid → ℕ → List ℕ → A → A → Result (Unit {0}) DirFault → Type 0
WritesRow g who file place row old new result = (s : State) (f : File) → g.stands old s → is_running s ≡ true
    → file_at s.graph file ≡ Some f → is_special f.kind ≡ true → row_size * place + row_size ≤ length f.bytes
    → length row ≡ row_size
    → Alters g who s file (λ u h. h ≡ with_object s.graph file (objects.File (written f (row_size * place) row)))
    (IsAlterFault (g.cylinders old) 4 None s file) old new result

-- a special file of no bytes is given a size; bytes that were never written are zero
abbrev pub new_table : File
new_table = new_file kinds.Special 0

abbrev pub Lengthens : {A : Type 0} → Ghosts A → ℕ → Puid → ℕ → A → A → Result (Unit {0}) DirFault → Type 0
Lengthens g who file size old new result = (s : State) → g.stands old s → is_running s ≡ true
    → file_at s.graph file ≡ Some new_table → size ≤ most_bytes
    → Alters g who s file (λ u h. h ≡ with_object s.graph file (objects.File (resized new_table size)))
    (IsAlterFault (g.cylinders old) 4 None s file) old new result

-- a new object is made, and its identifier is put into a slot
abbrev pub IsPutNew : Graph → Puid → Index → ℕ → Object → Puid → Graph → Type 0
IsPutNew g index i slot o id h = (is_there g id ≡ false)
    × (h ≡ with_object (with_object g id o) index (objects.Index (filled i slot (Some id))))

abbrev pub PutsNew : {A : Type 0} → Ghosts A → ℕ → Object → Puid → ℕ → A → A → Result Puid DirFault → Type 0
PutsNew g who o index slot old new result = (s : State) (i : Index) → g.stands old s → is_running s ≡ true
    → index_at s.graph index ≡ Some i → slot < length i.slots
    → Alters g who s index (IsPutNew s.graph index i slot o) (IsAlterFault (g.cylinders old) 5 None s index) old new
    result
