-- A directory that was read, its rows and its entries.
use Rattle.std.proofs.Common.{◌≡◌, ℕ, ◌-◌, ◌<◌, ◌≤◌, Bool, true, not, ◌&&◌, ◌==◌, Option, Some, List, length, refl, sym, ◌∙◌, ap, arith}
use Rattle.std.specs.Prelude.{Ok, Result, nat_le, nat_lt}
use Rattle.std.proofs.lemmas.Bool.{and_parts}
use Rattle.std.proofs.lemmas.Bool.Decides.{nat_tests}
use Rattle.cfs_base.specs.declared.identifier.Puid.{Puid}
use Rattle.ufs_model.specs.declared.asker.Asker.{Ghosts}
use Rattle.ufs_model.specs.declared.object.File.{File}
use Rattle.ufs_model.specs.declared.object.Index.{Index}
use Rattle.ufs_model.specs.declared.object.Object.TheVariants as objects
use Rattle.ufs_model.specs.Graph.{Graph, IsGraph, object_at}
use Rattle.ufs_model.specs.Limits.{most_slots}
use Rattle.ufs_model.specs.Object.{slot_of}
use Rattle.ufs_model.specs.State.{State, is_running}
use Rattle.ufs_model.proofs.WellGraphs.{object_whole}
use Rattle.name_dirs.specs.declared.fault.DirFault.{DirFault}
use Rattle.name_dirs.specs.declared.fault.DirFault.TheVariants as faults
use Rattle.name_dirs.specs.declared.table.Table.{Table}
use Rattle.name_dirs.specs.Calls.{ReadsOn}
use Rattle.name_dirs.specs.Directory.{Entry, entries_in, index_at, row_at, table_entries}
use Rattle.name_dirs.specs.Faults.{NoneFalls, due_of}
use Rattle.name_dirs.specs.Opening.{HasNoRow, IsFirstRow, IsTableOf, Opens, capacity_told, full_of}
use Rattle.name_dirs.specs.Reading.{IsLookFault, IsReadFault, Looks, LooksAtSlot}
use Rattle.name_dirs.specs.Text.{spelled}
use Rattle.name_dirs.proofs.Found.{due_in}
use Rattle.name_dirs.proofs.Heard.{index_is}
use Rattle.name_dirs.proofs.Looked.{looked, reads_on}
use Rattle.name_dirs.proofs.Moves.{has_entries}
use Rattle.name_dirs.proofs.Tables.{entries_length}

-- ---- rows of what was read

pub none_moved : (bytes other : List ℕ) (m n : ℕ) (row v : List ℕ) → bytes ≡ other → m ≡ n → row ≡ v → HasNoRow bytes m row → HasNoRow other n v
none_moved bytes other m n row v same slots is none k from to here = none k from (omega (arith, to, slots)) (ap (λ (l : List ℕ). row_at l k) same ∙ here ∙ sym is)

pub first_moved : (bytes other : List ℕ) (m n : ℕ) (row v : List ℕ) (place : ℕ) → bytes ≡ other → m ≡ n → row ≡ v → IsFirstRow bytes m row place → IsFirstRow other n v place
first_moved bytes other m n row v place same slots is first = record {
  some = first.some;
  within = let late = first.within in omega (arith, late, slots);
  here = ap (λ (l : List ℕ). row_at l place) (sym same) ∙ first.here ∙ is;
  before = λ k from to here. first.before k from to (ap (λ (l : List ℕ). row_at l k) same ∙ here ∙ sym is);
}

pub no_row_of : (g : Graph) (dir : Puid) (table : Table) (of : IsTableOf g dir table) (row w : List ℕ) → row ≡ spelled w → HasNoRow table.bytes table.slots row → HasNoRow of.file.bytes (length of.index.slots) (spelled w)
no_row_of g dir table of row w is = none_moved table.bytes of.file.bytes table.slots (length of.index.slots) row (spelled w) of.bytes of.slots is

pub first_row_of : (g : Graph) (dir : Puid) (table : Table) (of : IsTableOf g dir table) (row w : List ℕ) (place : ℕ) → row ≡ spelled w → IsFirstRow table.bytes table.slots row place → IsFirstRow of.file.bytes (length of.index.slots) (spelled w) place
first_row_of g dir table of row w place is = first_moved table.bytes of.file.bytes table.slots (length of.index.slots) row (spelled w) place of.bytes of.slots is

-- ---- an index has so few slots that its capacity is told exactly

pub few_slots : (g : Graph) (d : Puid) (i : Index) → IsGraph g → index_at g d ≡ Some i → length i.slots ≤ 983040
few_slots g d i well at = by (length i.slots) _ _ _ (object_whole g well d (objects.Index i) (index_is (object_at g d) i at))
  where
    by : (n : ℕ) (a b c : Bool) → (not (n == 0) && nat_le n most_slots && a && b && c) ≡ true → n ≤ 983040
    by n a b c is =
        let one = and_parts (not (n == 0) && nat_le n most_slots && a && b) c is in
        let two = and_parts (not (n == 0) && nat_le n most_slots && a) b one.0 in
        let three = and_parts (not (n == 0) && nat_le n most_slots) a two.0 in
        let four = and_parts (not (n == 0)) (nat_le n most_slots) three.0 in
        let few = four.1 in grind (arith, nat_tests)

pub told_full : (i : Index) (f : File) (slots : ℕ) → slots ≡ length i.slots → length i.slots ≤ 983040 → full_of slots ≡ faults.DirFull (length (table_entries i f))
told_full i f slots same few =
    let less : nat_lt (slots - 1) 4294967296 ≡ true = grind (arith, nat_tests) in
    let is : slots - 1 ≡ length (table_entries i f) = omega (arith, same, entries_length i f) in
    ap (λ (n : ℕ). faults.DirFull n) ((let whole : capacity_told slots ≡ slots - 1 = rw less refl in whole) ∙ is)

-- ---- a directory that was read

pub record HasOpened {A : Type 0} (g : Ghosts A) (who : ℕ) (dir : Puid) (a b : A) (s : State) (table : Table) : Type 0 where
  pub reads : ReadsOn g who a b s s
  pub runs : is_running s ≡ true
  pub of : IsTableOf s.graph dir table
  pub few : length of.index.slots ≤ 983040
  pub cylinders : g.cylinders b ≡ g.cylinders a

module _ {A : Type 0} (g : Ghosts A) (who : ℕ) (dir : Puid) (a b : A) (s : State) (stands : g.stands a s) (table : Table) where
  pub has_opened : Opens g who dir a b (Ok table) → NoneFalls g 0 a b → HasOpened g who dir a b s table
  has_opened went later =
      let told = looked g who s (IsTableOf s.graph dir) (IsReadFault s dir) a b table (went s stands) in
      record { reads = told.0; runs = told.1; of = told.2; few = few_slots s.graph dir told.2.index (g.formed a s stands told.1).0.graph told.2.has.index; cylinders = later.cylinders }

module _ {A : Type 0} (g : Ghosts A) (who : ℕ) (dir : Puid) (a b : A) (s : State) (table : Table) (o : HasOpened g who dir a b s table) where
  abbrev entries : List Entry
  entries = table_entries o.of.index o.of.file

  pub due_now : (by : List Entry → Option DirFault) → due_of s dir by ≡ by (table_entries o.of.index o.of.file)
  due_now by = due_in s dir table.file o.of.index o.of.file by o.of.has

  pub entries_now : entries_in s.graph dir ≡ Some (table_entries o.of.index o.of.file)
  entries_now = has_entries s.graph dir table.file o.of.index o.of.file o.of.has

  -- a slot of it
  pub looks_slot : (place : ℕ) (c : A) (r : Result (Option Puid) DirFault) → place < length o.of.index.slots → LooksAtSlot g who dir place b c r → Looks g who s (λ what. what ≡ slot_of o.of.index place) (IsLookFault s dir) b c r
  looks_slot place c r late went = went s o.of.index o.reads.stands (λ runs. (o.of.has.index, late))

  pub slot_told : (place : ℕ) (c : A) (what : Option Puid) → place < length o.of.index.slots → LooksAtSlot g who dir place b c (Ok what) → ReadsOn g who a c s s × (what ≡ slot_of o.of.index place)
  slot_told place c what late went =
      let told = looked g who s _ (IsLookFault s dir) b c what (looks_slot place c (Ok what) late went) in
      (reads_on g who a b c s s o.reads told.0, told.2)

  -- one more that reads
  pub opened_on : (c : A) → ReadsOn g who a c s s → NoneFalls g 0 b c → HasOpened g who dir a c s table
  opened_on c reads later = record { reads = reads; runs = o.runs; of = o.of; few = o.few; cylinders = later.cylinders ∙ o.cylinders }
