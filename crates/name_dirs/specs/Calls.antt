-- What each call does: from a state for which the asker stood to one for which it stands.
use Rattle.std.specs.Prelude.{◌≡◌, ◌⊎◌, ℕ, true, false, List, [], ◌∷◌, replicate, Option, Some, None, Result}
use Rattle.std.specs.Prelude.{Ok, Err, is_some, option_and_then, option_to_list}
use Rattle.std.specs.List.{list_all}
use Rattle.cfs_base.specs.declared.identifier.Puid.{Puid}
use Rattle.ufs_model.specs.declared.asker.Asker.{Ghosts}
use Rattle.ufs_model.specs.declared.object.Index.{Index}
use Rattle.ufs_model.specs.Graph.{Graph, is_there}
use Rattle.ufs_model.specs.Object.{filled}
use Rattle.ufs_model.specs.State.{State}
use Rattle.name_dirs.specs.declared.fault.DirFault.{DirFault}
use Rattle.name_dirs.specs.Chain.{Calls}
use Rattle.name_dirs.specs.Directory.{Entry, empty_entry, entries_in, index_at, table_in}
use Rattle.name_dirs.specs.Faults.{IsChangeTrouble, IsDirFault, IsReadTrouble, IsStartTrouble, IsTopTrouble, due_name}
use Rattle.name_dirs.specs.Faults.{due_new, due_of, due_place, due_start, due_top, none_due}
use Rattle.name_dirs.specs.Names.{ChangesNames, IfApart, Nothing, OldOrNew, Put, bound, id_under, unbound, unnamed}
use Rattle.name_dirs.specs.Text.{has_text, is_text, names_rise}

-- ---- calls that read: the graph stays

abbrev pub ReadsOn : {A : Type 0} → Ghosts A → (who : ℕ) → A → A → State → State → Type 0
ReadsOn g who old new s t = Calls g who (λ h. h ≡ s.graph) [] old new s t

abbrev pub LooksUp : State → State → Puid → List ℕ → Result Puid DirFault → Type 0
LooksUp s t dir w (Ok id) = (t ≡ s) × (option_and_then (id_under w) (entries_in s.graph dir) ≡ Some id)
LooksUp s t dir w (Err fault) = IsDirFault (due_of s dir (due_name w)) (IsReadTrouble s dir) (λ reply. ⊥) fault

-- each name that leads somewhere, in the order of their bytes
pub record AreListed (es : List Entry) (names : List (List ℕ)) : Type 0 where
  pub rise : names_rise names ≡ true
  pub texts : list_all is_text names ≡ true
  pub all : (w : List ℕ) → is_text w ≡ true → has_text w names ≡ is_some (id_under w es)

abbrev pub Lists : State → State → Puid → Result (List (List ℕ)) DirFault → Type 0
Lists s t dir (Ok names) = (t ≡ s) × ((es : List Entry) × (entries_in s.graph dir ≡ Some es) × AreListed es names)
Lists s t dir (Err fault) = IsDirFault (due_of s dir none_due) (IsReadTrouble s dir) (λ reply. ⊥) fault

abbrev pub FindsTop : State → State → Result Puid DirFault → Type 0
FindsTop s t (Ok id) = (t ≡ s) × (table_in s.graph s.graph.root ≡ Some id)
FindsTop s t (Err fault) = IsDirFault (due_start (table_in s.graph s.graph.root)) (IsStartTrouble s) (λ reply. ⊥) fault

-- ---- calls that change a directory: itself and its table

abbrev pub parts_in : Graph → Puid → List Puid
parts_in g dir = dir ∷ option_to_list (table_in g dir)

-- a name leads to this, or to nothing, once the call is done
abbrev pub Renames : {A : Type 0} → Ghosts A → (who : ℕ) → Puid → List ℕ → Option Puid → A → A → State → State →
    Type 0
Renames g who dir w what old new s t =
    Calls g who (OldOrNew dir (Put dir w what) s.graph) (parts_in s.graph dir) old new s t

abbrev pub Binds : (cylinders : ℕ) → State → State → Puid → List ℕ → Puid → Result (Unit {0}) DirFault → Type 0
Binds cylinders s t dir w id (Ok u) = IfApart s.graph (ChangesNames dir (Put dir w (Some id)) s.graph t.graph)
    × (is_there s.graph id ≡ true)
    × ((es : List Entry) × (entries_in s.graph dir ≡ Some es) × (due_place w es ≡ None)
    × (entries_in t.graph dir ≡ Some (bound w id es)))
Binds cylinders s t dir w id (Err fault) = IfApart s.graph (ChangesNames dir Nothing s.graph t.graph)
    × IsDirFault (due_of s dir (due_place w)) (IsReadTrouble s dir) (IsChangeTrouble cylinders 4 (Some id) s t dir)
    fault

-- The name is removed, and its slot holds what it held.
pub record TakesName (dir : Puid) (w : List ℕ) (g h : Graph) : Type 0 where
  pub names : IfApart g (ChangesNames dir (Put dir w None) g h)
  pub entries : List Entry
  pub before : entries_in g dir ≡ Some entries
  pub now : entries_in h dir ≡ Some (unnamed w entries)

abbrev pub Unbinds : (cylinders : ℕ) → State → State → Puid → List ℕ → Result (Unit {0}) DirFault → Type 0
Unbinds cylinders s t dir w (Ok u) = IfApart s.graph (ChangesNames dir (Put dir w None) s.graph t.graph)
    × ((es : List Entry) × (entries_in s.graph dir ≡ Some es) × (due_name w es ≡ None)
    × (entries_in t.graph dir ≡ Some (unbound w es)))
-- the name may be removed
Unbinds cylinders s t dir w (Err fault) =
    (IfApart s.graph (ChangesNames dir Nothing s.graph t.graph) ⊎ TakesName dir w s.graph t.graph)
    × IsDirFault (due_of s dir (due_name w)) (IsReadTrouble s dir) (IsChangeTrouble cylinders 4 None s t dir) fault

-- ---- calls that make a directory

-- A new directory of `capacity` entries without names. Neither it nor its table existed before.
pub record IsNewDirectory (capacity : ℕ) (id : Puid) (g h : Graph) : Type 0 where
  pub new : is_there g id ≡ false
  pub entries : entries_in h id ≡ Some (replicate capacity empty_entry)
  pub table : (t : Puid) → table_in h id ≡ Some t → is_there g t ≡ false

-- the names are old, or one leads to a new object
abbrev pub NamesNew : Puid → List ℕ → Graph → Graph → Type 0
NamesNew dir w g h = IfApart g (ChangesNames dir Nothing g h
    ⊎ ((id : Puid) × (is_there g id ≡ false) × ChangesNames dir (Put dir w (Some id)) g h))

abbrev pub MakesIn : {A : Type 0} → Ghosts A → (who : ℕ) → Puid → List ℕ → A → A → State → State → Type 0
MakesIn g who dir w old new s t = Calls g who (NamesNew dir w s.graph) (parts_in s.graph dir) old new s t

abbrev pub MakesNamed : (cylinders : ℕ) → State → State → Puid → List ℕ → (capacity : ℕ) → Result Puid DirFault → Type 0
MakesNamed cylinders s t dir w capacity (Ok id) =
    IfApart s.graph (ChangesNames dir (Put dir w (Some id)) s.graph t.graph)
    × IsNewDirectory capacity id s.graph t.graph
    × ((es : List Entry) × (entries_in s.graph dir ≡ Some es) × (due_new w es ≡ None)
    × (entries_in t.graph dir ≡ Some (bound w id es)))
MakesNamed cylinders s t dir w capacity (Err fault) = IfApart s.graph (ChangesNames dir Nothing s.graph t.graph)
    × IsDirFault (due_of s dir (due_new w)) (IsReadTrouble s dir) (IsChangeTrouble cylinders 5 None s t dir) fault

-- it is put into slot 0 of the root index, which otherwise stays
abbrev pub ChangesTop : Puid → Graph → Graph → Type 0
ChangesTop id g h = (i : Index) → index_at g g.root ≡ Some i → index_at h g.root ≡ Some (filled i 0 (Some id))

abbrev pub MakesOnTop : {A : Type 0} → Ghosts A → (who : ℕ) → A → A → State → State → Type 0
MakesOnTop g who old new s t =
    Calls g who (λ h. IfApart s.graph (ChangesNames s.graph.root Nothing s.graph h)) (s.graph.root ∷ []) old new s t

abbrev pub MakesTop : (cylinders : ℕ) → State → State → (capacity : ℕ) → Result Puid DirFault → Type 0
MakesTop cylinders s t capacity (Ok id) =
    (option_and_then (entries_in s.graph) (table_in s.graph s.graph.root) ≡ None)
    × ChangesTop id s.graph t.graph × IsNewDirectory capacity id s.graph t.graph
MakesTop cylinders s t capacity (Err fault) =
    IsDirFault (due_top (option_and_then (entries_in s.graph) (table_in s.graph s.graph.root)))
    (IsTopTrouble s) (IsChangeTrouble cylinders 5 None s t s.graph.root) fault
