-- What a name leads to in a directory that was read.
use Rattle.std.proofs.Common.{◌≡◌, inl, inr, ℕ, ◌+◌, ◌-◌, ◌<◌, Bool, true, false, Option, Some, None, List, length, ◌∙◌, ap, arith, if◌then◌else◌}
use Rattle.std.proofs.lemmas.Slice.Eq.{bytes_eq-Decides}
use Rattle.cfs_base.specs.declared.identifier.Puid.{Puid}
use Rattle.ufs_model.specs.declared.asked.Reply.{Reply}
use Rattle.ufs_model.specs.declared.object.File.{File}
use Rattle.ufs_model.specs.declared.object.Index.{Index}
use Rattle.ufs_model.specs.Graph.{is_there}
use Rattle.ufs_model.specs.Object.{slot_of}
use Rattle.ufs_model.specs.State.{State}
use Rattle.name_dirs.specs.declared.fault.DirFault.{DirFault}
use Rattle.name_dirs.specs.declared.fault.DirFault.TheVariants as faults
use Rattle.name_dirs.specs.Directory.{Entry, entries_in, is_table, row_at, table_entries, table_entry}
use Rattle.name_dirs.specs.Faults.{IsDirFault, IsReadTrouble, due_of, due_with, none_due}
use Rattle.name_dirs.specs.Names.{has_name, id_under}
use Rattle.name_dirs.specs.Opening.{HasNoRow, IsFirstRow}
use Rattle.name_dirs.specs.Reading.{HasTable, IsReadFault}
use Rattle.name_dirs.specs.Text.{is_text, spelled}
use Rattle.name_dirs.proofs.Entries.{under_first, under_none}
use Rattle.name_dirs.proofs.Moves.{has_entries}
use Rattle.name_dirs.proofs.Named.{index_there}
use Rattle.name_dirs.proofs.Rows.{differ}
use Rattle.name_dirs.proofs.Tables.{calls_by_row, each_off, entries_length, entry_at}

-- ---- by its row

module _ (i : Index) (f : File) (is : is_table (length i.slots) f ≡ true) (w : List ℕ) (text : is_text w ≡ true) where
  pub under_row : (place : ℕ) → IsFirstRow f.bytes (length i.slots) (spelled w) place → id_under w (table_entries i f) ≡ slot_of i place
  under_row place first =
      let some = first.some in
      let late = first.within in
      let less : place - 1 < length i.slots - 1 = omega (arith, some, late) in
      let here : place - 1 + 1 ≡ place = omega (arith, some) in
      let entry = entry_at i f (place - 1) less ∙ ap (table_entry i f) here in
      under_first w (table_entries i f) (place - 1) (omega (arith, less, entries_length i f))
      (ap (has_name w) entry ∙ calls_by_row i f is w text place some late ∙ (bytes_eq-Decides (row_at f.bytes place) (spelled w)).1 first.here)
      (λ m before. let within : m < length i.slots - 1 = omega (arith, before, less) in
      ap (has_name w) (entry_at i f m within) ∙ calls_by_row i f is w text (m + 1) (omega arith) (omega (arith, within))
      ∙ differ (row_at f.bytes (m + 1)) (spelled w) (first.before (m + 1) (omega arith) (omega (arith, before, some))))
      ∙ ap (λ (e : Entry). e.id) entry

  pub under_no_row : HasNoRow f.bytes (length i.slots) (spelled w) → id_under w (table_entries i f) ≡ None
  under_no_row none = under_none w (table_entries i f) (each_off i f (has_name w) (spelled w) (calls_by_row i f is w text) none)

-- ---- faults

-- in reading
pub fault_with : (s : State) (dir : Puid) (by : List Entry → Option DirFault) (Changes : Reply → Type 0) (fault : DirFault) → IsReadFault s dir fault → IsDirFault (due_of s dir by) (IsReadTrouble s dir) Changes fault
fault_with s dir by Changes fault is = of fault is
  where
    due : (there : Bool) (es : Option (List Entry)) (fault : DirFault) → (if there then due_with es none_due else None) ≡ Some fault → (if there then due_with es by else None) ≡ Some fault
    due false es fault is = cc is
    due true None fault is = is
    due true (Some es) fault is = cc is

    of : (fault : DirFault) → IsReadFault s dir fault → IsDirFault (due_of s dir by) (IsReadTrouble s dir) Changes fault
    of faults.NotDirectory is = due (is_there s.graph dir) (entries_in s.graph dir) faults.NotDirectory is
    of faults.NoName is = due (is_there s.graph dir) (entries_in s.graph dir) faults.NoName is
    of faults.Exists is = due (is_there s.graph dir) (entries_in s.graph dir) faults.Exists is
    of (faults.DirFull capacity) is = due (is_there s.graph dir) (entries_in s.graph dir) (faults.DirFull capacity) is
    of (faults.Asked r) (inl reads) = inl reads
    of (faults.Asked r) (inr other) = absurd other.1
    of faults.Memory is = tt

-- by the entries
pub due_in : (s : State) (dir t : Puid) (i : Index) (f : File) (by : List Entry → Option DirFault) → HasTable s.graph dir t i f → due_of s dir by ≡ by (table_entries i f)
due_in s dir t i f by has =
    ap (λ (there : Bool). if there then due_with (entries_in s.graph dir) by else None) (index_there s.graph dir i has.index) ∙ ap (λ (es : Option (List Entry)). due_with es by) (has_entries s.graph dir t i f has)
