-- What a crash leaves of a run of names.
use Rattle.std.specs.Prelude.{◌≡◌, ℕ, true, List, [], ◌∷◌, ◌++◌}
use Rattle.cfs_base.specs.Disk.{Image}
use Rattle.cfs_base.specs.declared.identifier.Puid.{Puid}
use Rattle.name_dirs.specs.Directory.{entries_in}
use Rattle.name_lines.specs.declared.answer.Answer.{Answer}
use Rattle.name_lines.specs.Runs.{IsWithinLine, IsNamesRun}
use Rattle.name_lines.specs.Spoken.{line_in}
use Rattle.ufs_model.specs.Graph.{Graph, is_there}
use Rattle.ufs_model.specs.State.{State}
use Rattle.vol_image.specs.Sound.{IsSoundAs, rooted_part}

-- each object has the entries that it has in the other graph, if any
abbrev pub HasEntriesOf : Graph → Graph → Type 0
HasEntriesOf g h = (d : Puid) → entries_in h d ≡ entries_in g d

-- An image reads as the rooted part of a graph, and that part keeps its entries.
pub record ReadsRooted (image : Image) (g : Graph) : Type 0 where
  pub reads : IsSoundAs image (rooted_part g)
  pub stay : (d : Puid) → is_there (rooted_part g) d ≡ true → entries_in (rooted_part g) d ≡ entries_in g d

-- The next of these lines is under way: the names are as before it, or with its change. If no line is left, the graph
-- is as it was.
abbrev pub IsUnderWay : List (List ℕ) → Graph → Graph → Type 0
IsUnderWay [] g h = h ≡ g
IsUnderWay (line ∷ lines) g h = IsWithinLine (line_in line) g h

-- a graph between two requests of a run: some of its lines are answered, and the next is under way
pub record IsAlong (cylinders : ℕ) (s : State) (lines : List (List ℕ)) (told : List Answer) (h : Graph) : Type 0 where
  pub done : List (List ℕ)
  pub left : List (List ℕ)
  pub answers : List Answer
  pub later : List Answer
  pub state : State
  pub lines_are : lines ≡ done ++ left
  pub told_are : told ≡ answers ++ later
  pub run : IsNamesRun cylinders s done answers state
  pub next : IsUnderWay left state.graph h

-- An image reads as a graph that has the directories of one along the run, each with its entries.
pub record ReadsAlong (image : Image) (cylinders : ℕ) (s : State) (lines : List (List ℕ)) (told : List Answer)
    : Type 0 where
  pub between : Graph
  pub along : IsAlong cylinders s lines told between
  pub graph : Graph
  pub same : HasEntriesOf between graph
  pub rooted : ReadsRooted image graph
