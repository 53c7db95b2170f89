-- The names of directories, and a change of one.
use Rattle.std.specs.Prelude.{◌≡◌, ◌≢◌, ◌⊎◌, ℕ, Bool, true, false, ◌&&◌, List, [], ◌∷◌, Option, Some, None}
use Rattle.std.specs.Prelude.{is_none, option_and_then, slice_set, if◌then◌else◌}
use Rattle.std.specs.List.{position}
use Rattle.std.specs.Option.{option_map_or}
use Rattle.std.specs.Str.{bytes_eq}
use Rattle.cfs_base.specs.declared.identifier.Puid.{Puid}
use Rattle.ufs_model.specs.Graph.{Graph, is_there}
use Rattle.ufs_model.specs.Identifier.{same_puid}
use Rattle.name_dirs.specs.Directory.{Entry, empty_entry, entries_in, is_directory, table_in}
use Rattle.name_dirs.specs.Text.{is_text}

-- ---- the names of one directory

abbrev pub is_called : List ℕ → Option (List ℕ) → Bool
is_called w name = option_map_or (bytes_eq w) name false

abbrev pub has_name : List ℕ → Entry → Bool
has_name w e = is_called w e.name

abbrev pub is_nameless : Entry → Bool
is_nameless e = is_none e.name

-- A name leads to the identifier in its slot, unless the slot is empty.
abbrev pub id_under : List ℕ → List Entry → Option Puid
id_under w [] = None
id_under w (e ∷ es) = if has_name w e then e.id else id_under w es

-- what a name leads to in a directory
abbrev pub name_at : Graph → Puid → List ℕ → Option Puid
name_at g d w = option_and_then (id_under w) (entries_in g d)

-- ---- entries after a change

-- the place of the entry with that name, or else of the first without one
abbrev pub place_or : Option ℕ → List Entry → Option ℕ
place_or (Some k) es = Some k
place_or None es = position is_nameless es

abbrev pub place_for : List ℕ → List Entry → Option ℕ
place_for w es = place_or (position (has_name w) es) es

abbrev pub entries_put : Option ℕ → Entry → List Entry → List Entry
entries_put None e es = es
entries_put (Some k) e es = slice_set es k e

-- the entries with the name bound to this, and with the name unbound
abbrev pub bound : List ℕ → Puid → List Entry → List Entry
bound w id es = entries_put (place_for w es) (record { name = Some w; id = Some id }) es

abbrev pub unbound : List ℕ → List Entry → List Entry
unbound w es = entries_put (position (has_name w) es) empty_entry es

-- the entries with only the name removed: its slot holds what it held
abbrev pub unnamed : List ℕ → List Entry → List Entry
unnamed w es = entries_put (position (has_name w) es) (record { name = None; id = id_under w es }) es

-- ---- names after a change

-- what one call changes: what one name leads to in one directory, or nothing
pub data Change : Type 0 where
  Nothing : Change
  Put : (dir : Puid) (name : List ℕ) (id : Option Puid) → Change

abbrev pub changed_name : Change → (before : Option Puid) → Puid → List ℕ → Option Puid
changed_name Nothing before d w = before
changed_name (Put dir name id) before d w = if same_puid d dir && bytes_eq w name then id else before

-- the names of every directory are those of before with this change, and none is lost
pub record HasNames (change : Change) (g h : Graph) : Type 0 where
  pub names : (d : Puid) (w : List ℕ) → is_text w ≡ true → name_at h d w ≡ changed_name change (name_at g d w) d w
  pub stay : (d : Puid) → is_directory g d ≡ true → is_directory h d ≡ true

-- no two directories have one table, and the root index is no directory
pub record AreApart (g : Graph) : Type 0 where
  pub apart : (d e t : Puid) → is_directory g d ≡ true → is_directory g e ≡ true → table_in g d ≡ Some t
      → table_in g e ≡ Some t → d ≡ e
  pub root : is_directory g g.root ≡ false

-- The names are those of before with the change, which is made in this object: the entries of all others stay.
pub record ChangesNames (d : Puid) (change : Change) (g h : Graph) : Type 0 where
  pub apart : AreApart h
  pub names : HasNames change g h
  pub others : (x : Puid) → is_there g x ≡ true → x ≢ d → entries_in h x ≡ entries_in g x

-- it holds if no two directories have one table, and the root index is no directory
abbrev pub IfApart : Graph → Type 0 → Type 0
IfApart g Holds = AreApart g → Holds

-- the names are old, or old with the change
abbrev pub OldOrNew : Puid → Change → Graph → Graph → Type 0
OldOrNew d change g h = IfApart g (ChangesNames d Nothing g h ⊎ ChangesNames d change g h)
