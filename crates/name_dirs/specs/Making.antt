-- The parts of making a directory.
use Rattle.std.specs.Prelude.{◌≡◌, ◌⊎◌, ℕ, ◌-◌, ◌<◌, ◌≤◌, Bool, true, false, List, [], ◌∷◌, length, Result, Ok, Err}
use Rattle.std.specs.Prelude.{Some, None, is_some, option_and_then, slice_set}
use Rattle.cfs_base.specs.declared.identifier.Puid.{Puid}
use Rattle.ufs_model.specs.declared.asker.Asker.{Ghosts}
use Rattle.ufs_model.specs.declared.object.File.{File}
use Rattle.ufs_model.specs.declared.object.Index.{Index}
use Rattle.ufs_model.specs.Graph.{Graph}
use Rattle.ufs_model.specs.Object.{filled}
use Rattle.ufs_model.specs.State.{State, is_running}
use Rattle.name_dirs.specs.declared.fault.DirFault.{DirFault}
use Rattle.name_dirs.specs.declared.fault.DirFault.TheVariants as faults
use Rattle.name_dirs.specs.Calls.{IsNewDirectory, parts_in}
use Rattle.name_dirs.specs.Chain.{Calls}
use Rattle.name_dirs.specs.Changing.{IsAlterFault}
use Rattle.name_dirs.specs.Directory.{Entry, entries_in, index_at, is_directory, row_at, table_entries, table_in}
use Rattle.name_dirs.specs.Faults.{IsChangeTrouble, IsDirFault, IsReadTrouble, IsTopTrouble, StaysAfter, after_fault}
use Rattle.name_dirs.specs.Faults.{due_new}
use Rattle.name_dirs.specs.Names.{ChangesNames, IfApart, Nothing, bound}
use Rattle.name_dirs.specs.Opening.{HasNoRow}
use Rattle.name_dirs.specs.Reading.{HasTable, Looks}
use Rattle.name_dirs.specs.Text.{is_text, name_in, spelled}

-- the number of entries of the largest directory that is made
abbrev pub most_capacity : ℕ
most_capacity = 4095

-- ---- in slot 0 of the root index

abbrev pub IsTopFault : State → DirFault → Type 0
IsTopFault s faults.Memory = Unit {0}
IsTopFault s (faults.Asked reply) = IsTopTrouble s reply
IsTopFault s fault = ⊥

-- whether a directory is there
abbrev pub has_top : Graph → Bool
has_top g = is_some (option_and_then (entries_in g) (table_in g g.root))

-- what is no directory may be replaced
abbrev pub if_other : DirFault → Result Bool DirFault
if_other faults.NotDirectory = Ok false
if_other fault = Err fault

abbrev pub LooksAtTop : {A : Type 0} → Ghosts A → ℕ → A → A → Result Bool DirFault → Type 0
LooksAtTop g who old new result = (s : State) → g.stands old s
    → Looks g who s (λ b. b ≡ has_top s.graph) (IsTopFault s) old new result

-- ---- the place of a new directory

-- A row without a name, while no row has this name. With the name in it the entries are those of before with the name
-- bound.
pub record IsPlaceFor (old : List Entry) (i : Index) (f : File) (w : List ℕ) (place : ℕ) : Type 0 where
  pub some : 1 ≤ place
  pub within : place < length i.slots
  pub free : row_at f.bytes place ≡ spelled []
  pub none : HasNoRow f.bytes (length i.slots) (spelled w)
  pub binds : (id : Puid)
      → slice_set (table_entries i f) (place - 1) (record { name = Some w; id = Some id }) ≡ bound w id old

-- The place that was found, from this state to that one.
pub record IsPlaceIn (s t : State) (dir file : Puid) (i : Index) (f : File) (w : List ℕ) (place : ℕ) : Type 0 where
  pub due : due_new w (table_entries i f) ≡ None
  pub now : File
  pub has : HasTable t.graph dir file i now
  pub is : IsPlaceFor (table_entries i f) i now w place

abbrev pub TellsPlace : (cylinders : ℕ) → State → State → Puid → Puid → Index → File → List ℕ → Result ℕ DirFault
    → Type 0
TellsPlace cylinders s t dir file i f w (Ok place) = (is_running t ≡ true) × IsPlaceIn s t dir file i f w place
TellsPlace cylinders s t dir file i f w (Err fault) = (t.stopped ≡ (after_fault fault s).stopped) × StaysAfter fault s t
    × IsDirFault (due_new w (table_entries i f)) (IsReadTrouble s dir) (IsChangeTrouble cylinders 4 None s t dir) fault

-- the names stay
abbrev pub CallsQuietly : {A : Type 0} → Ghosts A → ℕ → Puid → List Puid → A → A → State → State → Type 0
CallsQuietly g who dir named old new s t =
    Calls g who (λ h. IfApart s.graph (ChangesNames dir Nothing s.graph h)) named old new s t

abbrev pub TakesPlace : {A : Type 0} → Ghosts A → ℕ → Puid → Puid → (bytes row : List ℕ) → A → A → Result ℕ DirFault
    → Type 0
TakesPlace g who dir file bytes row old new result = (s : State) (i : Index) (f : File) (w : List ℕ) → g.stands old s
    → is_running s ≡ true → HasTable s.graph dir file i f → bytes ≡ f.bytes → row ≡ spelled w → is_text w ≡ true
    → (t : State) × CallsQuietly g who dir (parts_in s.graph dir) old new s t
    × TellsPlace (g.cylinders old) s t dir file i f w result

-- ---- a directory without a name

-- No name changes if a new index is put into the slot: the slot's entry has no name, or the index is no directory.
abbrev pub IsNameless : Graph → Puid → Index → ℕ → Type 0
IsNameless g d i slot = IfApart g (is_directory g d ≡ false)
    ⊎ ((file : Puid) × ((f : File) × HasTable g d file i f × (1 ≤ slot) × (name_in (row_at f.bytes slot) ≡ None)))

abbrev pub TellsMaking : (cylinders : ℕ) → State → State → Puid → Index → ℕ → (capacity : ℕ) → Result Puid DirFault
    → Type 0
TellsMaking cylinders s t index i slot capacity (Ok id) = (is_running t ≡ true)
    × IsNewDirectory capacity id s.graph t.graph
    × (index_at t.graph index ≡ Some (filled i slot (Some id)))
TellsMaking cylinders s t index i slot capacity (Err fault) = (t.stopped ≡ (after_fault fault s).stopped)
    × IsAlterFault cylinders 5 None s index t fault

abbrev pub MakesDirectory : {A : Type 0} → Ghosts A → ℕ → Puid → ℕ → (capacity : ℕ) → A → A → Result Puid DirFault
    → Type 0
MakesDirectory g who index slot capacity old new result = (s : State) (i : Index) → g.stands old s → is_running s ≡ true
    → index_at s.graph index ≡ Some i → slot < length i.slots → IsNameless s.graph index i slot
    → (t : State) × CallsQuietly g who index (index ∷ []) old new s t
    × TellsMaking (g.cylinders old) s t index i slot capacity result
