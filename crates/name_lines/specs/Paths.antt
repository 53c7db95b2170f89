-- Where paths lead in a graph, and which fault a line has by the names.
use Rattle.std.specs.Prelude.{ℕ, List, [], ◌∷◌, Option, Some, None, Result, Ok, Err, option_and_then}
use Rattle.cfs_base.specs.declared.identifier.Puid.{Puid}
use Rattle.ufs_model.specs.Graph.{Graph}
use Rattle.name_dirs.specs.declared.fault.DirFault.{DirFault}
use Rattle.name_dirs.specs.declared.fault.DirFault.TheVariants as faults
use Rattle.name_dirs.specs.Directory.{Entry, entries_in, table_in}
use Rattle.name_dirs.specs.Faults.{due_name, due_new, due_place, due_top, due_with, none_due}
use Rattle.name_dirs.specs.Names.{id_under}
use Rattle.name_lines.specs.declared.line.Line.{Line}
use Rattle.name_lines.specs.declared.line.Line.TheVariants as lines

-- ---- paths

abbrev pub id_or_none : Option Puid → Result Puid DirFault
id_or_none None = Err faults.NoName
id_or_none (Some id) = Ok id

-- what a name leads to, or why it leads to nothing
abbrev pub looked_in : List ℕ → Option (List Entry) → Result Puid DirFault
looked_in w None = Err faults.NotDirectory
looked_in w (Some es) = id_or_none (id_under w es)

abbrev pub after_name : Graph → List ℕ → Result Puid DirFault → Result Puid DirFault
after_name g w (Err fault) = Err fault
after_name g w (Ok d) = looked_in w (entries_in g d)

-- the same for names, one after another
abbrev pub led : Graph → Result Puid DirFault → List (List ℕ) → Result Puid DirFault
led g at [] = at
led g at (w ∷ path) = led g (after_name g w at) path

abbrev pub start_of : Option Puid → Result Puid DirFault
start_of None = Err faults.NotDirectory
start_of (Some id) = Ok id

-- the same from slot 0 of the root index on
abbrev pub led_from_top : Graph → List (List ℕ) → Result Puid DirFault
led_from_top g path = led g (start_of (table_in g g.root)) path

-- ---- the fault that is due

abbrev pub due_at : Graph → Result Puid DirFault → (List Entry → Option DirFault) → Option DirFault
due_at g (Err fault) by = Some fault
due_at g (Ok d) by = due_with (entries_in g d) by

-- the fault by the names alone, which line and graph determine
abbrev pub due : Graph → Line → Option DirFault
due g (lines.MakeTop capacity) = due_top (option_and_then (entries_in g) (table_in g g.root))
due g (lines.MakeDir place capacity) = due_at g (led_from_top g place.above) (due_new place.name)
due g (lines.Bind place id) = due_at g (led_from_top g place.above) (due_place place.name)
due g (lines.Look place) = due_at g (led_from_top g place.above) (due_name place.name)
due g (lines.Unbind place) = due_at g (led_from_top g place.above) (due_name place.name)
due g (lines.ListDir path) = due_at g (led_from_top g path) none_due
