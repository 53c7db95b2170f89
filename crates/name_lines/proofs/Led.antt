-- Where paths lead, name by name.
use Rattle.std.proofs.Common.{◌≡◌, inl, inr, ◌⊎◌, ℕ, Bool, true, false, List, [], ◌∷◌, Option, Some, None, refl, sym, ◌∙◌, ap, subst, length, map}
use Rattle.std.proofs.Common.{◌+◌, ◌<◌, ◌≤◌, drop, drop_of_length-le, add-one, arith, suc, get_or}
use Rattle.std.proofs.Math.Seq.{drop-cons}
use Rattle.std.specs.Prelude.{Ok, Err, Result, is_none, option_and_then, if◌then◌else◌}
use Rattle.cfs_base.specs.declared.identifier.Puid.{Puid}
use Rattle.ufs_model.specs.declared.asker.Asker.{Ghosts}
use Rattle.ufs_model.specs.declared.object.File.{File}
use Rattle.ufs_model.specs.declared.object.Index.{Index}
use Rattle.ufs_model.specs.Graph.{Graph, IsGraph, is_there}
use Rattle.ufs_model.specs.Object.{slot_of}
use Rattle.ufs_model.specs.State.{State, is_running}
use Rattle.name_dirs.specs.declared.fault.DirFault.{DirFault}
use Rattle.name_dirs.specs.declared.fault.DirFault.TheVariants as faults
use Rattle.name_dirs.specs.Calls.{FindsTop, LooksUp, ReadsOn}
use Rattle.name_dirs.specs.Directory.{Entry, entries_in, entries_of_index, entries_with, file_at, index_at, is_table, places, table_entries, table_entry, table_in}
use Rattle.name_dirs.specs.Faults.{IsReadTrouble, IsStartTrouble, StopsWith, due_name, due_of, due_start, due_with}
use Rattle.name_dirs.specs.Names.{has_name, id_under}
use Rattle.name_dirs.proofs.Looked.{reads_on}
use Rattle.name_dirs.proofs.Named.{held_there}
use Rattle.name_lines.specs.Paths.{id_or_none, led, led_from_top, looked_in, start_of}
use Rattle.name_lines.specs.Walking.{IsPathTrouble, LeadsToObject, fault_in}
use Rattle.name_lines.proofs.Causes.{fault_on, read_path, start_path}

-- ---- what is under a name is there

one_of : (b : Bool) (x y z : Option Puid) → (if b then x else y) ≡ z → (x ≡ z) ⊎ (y ≡ z)
one_of true x y z is = inl is
one_of false x y z is = inr is

slot_under : (i : Index) (f : File) (w : List ℕ) (id : Puid) (at : List ℕ) → id_under w (map (table_entry i f) at) ≡ Some id → (k : ℕ) × (slot_of i k ≡ Some id)
slot_under i f w id [] is = cc is
slot_under i f w id (k ∷ at) is = elim (one_of (has_name w (table_entry i f k)) (slot_of i k) (id_under w (map (table_entry i f) at)) (Some id) is) [
  | inl here ↦ (k, here)
  | inr later ↦ slot_under i f w id at later
]

module _ (g : Graph) (well : IsGraph g) (id : Puid) where
  table_there : (d : Puid) (w : List ℕ) (i : Index) (f : File) → index_at g d ≡ Some i → (b : Bool) → option_and_then (id_under w) (if b then Some (table_entries i f) else None) ≡ Some id → is_there g id ≡ true
  table_there d w i f at false is = cc is
  table_there d w i f at true is = let slot = slot_under i f w id (places (length i.slots)) is in held_there g d i slot.0 id well at slot.1

  file_there : (d : Puid) (w : List ℕ) (i : Index) → index_at g d ≡ Some i → (o : Option File) → option_and_then (id_under w) (option_and_then (entries_with i) o) ≡ Some id → is_there g id ≡ true
  file_there d w i at None is = cc is
  file_there d w i at (Some f) is = table_there d w i f at (is_table (length i.slots) f) is

  index_there : (d : Puid) (w : List ℕ) (o : Option Index) → index_at g d ≡ o → option_and_then (id_under w) (option_and_then (entries_of_index g) o) ≡ Some id → is_there g id ≡ true
  index_there d w None at is = cc is
  index_there d w (Some i) at is = file_there d w i at (option_and_then (file_at g) (slot_of i 0)) is

  pub name_there : (d : Puid) (w : List ℕ) → option_and_then (id_under w) (entries_in g d) ≡ Some id → is_there g id ≡ true
  name_there d w is = index_there d w (index_at g d) refl is

  first_there : (d : Puid) (o : Option Index) → index_at g d ≡ o → option_and_then (λ (i : Index). slot_of i 0) o ≡ Some id → is_there g id ≡ true
  first_there d None at is = cc is
  first_there d (Some i) at is = held_there g d i 0 id well at is

  pub start_there : table_in g g.root ≡ Some id → is_there g id ≡ true
  start_there is = first_there g.root (index_at g g.root) refl is

-- ---- a name

pub looked_led : (w : List ℕ) (o : Option (List Entry)) (id : Puid) → option_and_then (id_under w) o ≡ Some id → looked_in w o ≡ Ok id
looked_led w None id is = cc is
looked_led w (Some es) id is = ap id_or_none is

none_under : (o : Option Puid) (fault : DirFault) → (if is_none o then Some faults.NoName else None) ≡ Some fault → id_or_none o ≡ Err fault
none_under None fault is = cc is
none_under (Some id) fault is = cc is

looked_due : (w : List ℕ) (o : Option (List Entry)) (fault : DirFault) → due_with o (due_name w) ≡ Some fault → looked_in w o ≡ Err fault
looked_due w None fault is = cc is
looked_due w (Some es) fault is = none_under (id_under w es) fault is

start_due : (o : Option Puid) (fault : DirFault) → due_start o ≡ Some fault → start_of o ≡ Err fault
start_due None fault is = cc is
start_due (Some id) fault is = cc is

led_err : (g : Graph) (path : List (List ℕ)) (fault : DirFault) → led g (Err fault) path ≡ Err fault
led_err g [] fault = refl
led_err g (w ∷ path) fault = led_err g path fault

-- ---- a walk

-- The path leads as what is left of it does from here on.
pub record IsOnPath {A : Type 0} (g : Ghosts A) (who : ℕ) (s : State) (a b : A) (path left : List (List ℕ)) (at : Puid) : Type 0 where
  pub reads : ReadsOn g who a b s s
  pub runs : is_running s ≡ true
  pub there : is_there s.graph at ≡ true
  pub leads : led_from_top s.graph path ≡ led s.graph (Ok at) left

module _ {A : Type 0} (g : Ghosts A) (who : ℕ) (s : State) (none : s.grants ≡ []) (a : A) (path : List (List ℕ)) where
  abbrev pub Walked : A → Result Puid DirFault → Type 0
  Walked b r = (t : State) × ReadsOn g who a b s t × StopsWith s t r × LeadsToObject s t path r

  pub path_begun : (b : A) (id : Puid) → g.stands a s → (t : State) × ReadsOn g who a b s t × StopsWith s t (Ok id) × FindsTop s t (Ok id) → IsOnPath g who s a b path path id
  path_begun b id stands told = record {
    reads = subst (λ (t : State). ReadsOn g who a b s t) told.3.0 told.1;
    runs = told.2.0;
    there = start_there s.graph (g.formed a s stands told.2.0).0.graph id told.3.1;
    leads = ap (λ (o : Option Puid). led s.graph (start_of o) path) told.3.1;
  }

  pub path_unbegun : (b : A) (fault : DirFault) → (t : State) × ReadsOn g who a b s t × StopsWith {E = Puid} s t (Err fault) × FindsTop s t (Err fault) → Walked b (Err fault)
  path_unbegun b fault told = (
    told.0,
    told.1,
    told.2,
    fault_on (due_start (table_in s.graph s.graph.root)) (fault_in (led_from_top s.graph path)) (IsStartTrouble s) (IsPathTrouble s) (λ reply. ⊥) (λ reply. ⊥)
        (λ other is. ap fault_in (ap (λ (r : Result Puid DirFault). led s.graph r path) (start_due (table_in s.graph s.graph.root) other is) ∙ led_err s.graph path other)) (start_path s none) (λ r due never. absurd never) fault told.3,
  )

  pub path_ended : (b : A) (at : Puid) → IsOnPath g who s a b path [] at → Walked b (Ok at)
  path_ended b at on = (s, on.reads, (on.runs, on.runs), (refl, on.leads, on.there))

  module _ (b c : A) (w : List ℕ) (left : List (List ℕ)) (at : Puid) (on : IsOnPath g who s a b path (w ∷ left) at) where
    pub path_on : (id : Puid) → (t : State) × ReadsOn g who b c s t × StopsWith s t (Ok id) × LooksUp s t at w (Ok id) → IsOnPath g who s a c path left id
    path_on id told = record {
      reads = reads_on g who a b c s s on.reads (subst (λ (t : State). ReadsOn g who b c s t) told.3.0 told.1);
      runs = on.runs;
      there = name_there s.graph (g.formed b s on.reads.stands on.runs).0.graph id at w told.3.1;
      leads = on.leads ∙ ap (λ (r : Result Puid DirFault). led s.graph r left) (looked_led w (entries_in s.graph at) id told.3.1);
    }

    due_now : due_of s at (due_name w) ≡ due_with (entries_in s.graph at) (due_name w)
    due_now = ap (λ (b : Bool). if b then due_with (entries_in s.graph at) (due_name w) else None) on.there

    pub path_failed : (fault : DirFault) → (t : State) × ReadsOn g who b c s t × StopsWith {E = Puid} s t (Err fault) × LooksUp s t at w (Err fault) → Walked c (Err fault)
    path_failed fault told = (
      told.0,
      reads_on g who a b c s told.0 on.reads told.1,
      told.2,
      fault_on (due_of s at (due_name w)) (fault_in (led_from_top s.graph path)) (IsReadTrouble s at) (IsPathTrouble s) (λ reply. ⊥) (λ reply. ⊥)
          (λ other is. ap fault_in (on.leads ∙ ap (λ (r : Result Puid DirFault). led s.graph r left) (looked_due w (entries_in s.graph at) other (sym due_now ∙ is)) ∙ led_err s.graph left other)) (read_path s none at on.there) (λ r due never. absurd never) fault told.3,
    )

-- ---- a name of a path

pub at_place : (path items : List (List ℕ)) → items ≡ path → (k : ℕ) (w : List ℕ) → k < length items → w ≡ get_or items k w → drop k path ≡ w ∷ drop (k + 1) path
at_place path items same k w within here =
    let less : k < length path = let long = ap (λ (l : List (List ℕ)). length l) same in omega (arith, within, long) in
    let at : get_or path k w ≡ w = sym (here ∙ ap (λ (l : List (List ℕ)). get_or l k w) same) in
    rw add-one (drop-cons path k w less ∙ ap (λ (v : List ℕ). v ∷ drop (suc k) path) at)

pub at_end : (path items : List (List ℕ)) → items ≡ path → (k : ℕ) → length items ≤ k → drop k path ≡ []
at_end path items same k past = drop_of_length-le path {i = k} (let long = ap (λ (l : List (List ℕ)). length l) same in omega (arith, past, long))
