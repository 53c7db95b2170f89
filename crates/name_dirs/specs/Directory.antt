-- Directories of names in a graph: an index whose slot 0 holds a special file, its table.
use Rattle.std.specs.Prelude.{ℕ, ◌-◌, ◌*◌, Bool, true, false, ◌&&◌, ◌==◌, List, length, map, take, drop}
use Rattle.std.specs.Prelude.{Option, Some, None, option_and_then, is_some, if◌then◌else◌}
use Rattle.std.specs.List.{list_all, range_with_len}
use Rattle.std.specs.Str.{bytes_eq}
use Rattle.cfs_base.specs.declared.identifier.Puid.{Puid}
use Rattle.cfs_base.specs.declared.kind.FileKind.{FileKind}
use Rattle.cfs_base.specs.declared.kind.FileKind.TheVariants as kinds
use Rattle.ufs_model.specs.declared.object.File.{File}
use Rattle.ufs_model.specs.declared.object.Index.{Index}
use Rattle.ufs_model.specs.declared.object.Object.{Object}
use Rattle.ufs_model.specs.declared.object.Object.TheVariants as objects
use Rattle.ufs_model.specs.Graph.{Graph, object_at}
use Rattle.ufs_model.specs.Object.{slot_of}
use Rattle.name_dirs.specs.Text.{are_distinct, header, is_row, name_in, row_size}

-- ---- indices and files of a graph

abbrev pub index_in : Option Object → Option Index
index_in None = None
index_in (Some (objects.File f)) = None
index_in (Some (objects.Index i)) = Some i

abbrev pub file_in : Option Object → Option File
file_in None = None
file_in (Some (objects.File f)) = Some f
file_in (Some (objects.Index i)) = None

abbrev pub index_at : Graph → Puid → Option Index
index_at g d = index_in (object_at g d)

abbrev pub file_at : Graph → Puid → Option File
file_at g t = file_in (object_at g t)

-- ---- tables

-- row s of a table
abbrev pub row_at : List ℕ → ℕ → List ℕ
row_at bytes s = take row_size (drop (row_size * s) bytes)

-- the places of entries: the slots of an index except its first
abbrev pub places : (slots : ℕ) → List ℕ
places slots = range_with_len 1 (slots - 1)

abbrev pub row_names : List ℕ → (slots : ℕ) → List (Option (List ℕ))
row_names bytes slots = map (λ s. name_in (row_at bytes s)) (places slots)

-- one row for each slot: the header, and rows whose names differ
abbrev pub are_rows : List ℕ → (slots : ℕ) → Bool
are_rows bytes slots =
    (length bytes == row_size * slots) && bytes_eq (row_at bytes 0) header
    && list_all (λ s. is_row (row_at bytes s)) (places slots) && are_distinct (row_names bytes slots)

abbrev pub is_special : FileKind → Bool
is_special kinds.Special = true
is_special kinds.Normal = false

-- the file is the table of an index with this number of slots
abbrev pub is_table : (slots : ℕ) → File → Bool
is_table slots f = is_special f.kind && are_rows f.bytes slots

-- ---- entries

-- a name or none, with the identifier in its slot or none
pub record Entry : Type 0 where
  pub name : Option (List ℕ)
  pub id : Option Puid

abbrev pub empty_entry : Entry
empty_entry = record { name = None; id = None }

abbrev pub table_entry : Index → File → ℕ → Entry
table_entry i f s = record { name = name_in (row_at f.bytes s); id = slot_of i s }

abbrev pub table_entries : Index → File → List Entry
table_entries i f = map (table_entry i f) (places (length i.slots))

-- the entries of an index with this file in slot 0, if that is its table
abbrev pub entries_with : Index → File → Option (List Entry)
entries_with i f = if is_table (length i.slots) f then Some (table_entries i f) else None

abbrev pub entries_of_index : Graph → Index → Option (List Entry)
entries_of_index g i = option_and_then (entries_with i) (option_and_then (file_at g) (slot_of i 0))

-- the entries of a directory, or None if the object is no directory
abbrev pub entries_in : Graph → Puid → Option (List Entry)
entries_in g d = option_and_then (entries_of_index g) (index_at g d)

abbrev pub is_directory : Graph → Puid → Bool
is_directory g d = is_some (entries_in g d)

-- what slot 0 of an index holds
abbrev pub table_in : Graph → Puid → Option Puid
table_in g d = option_and_then (λ i. slot_of i 0) (index_at g d)
