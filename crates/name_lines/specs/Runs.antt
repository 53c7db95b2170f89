-- Lines that are served, one after another.
use Rattle.std.specs.Prelude.{◌≡◌, ◌⊎◌, ℕ, ◌≤◌, true, false, List, [], ◌∷◌, ◌++◌, Option, Some, None, Ok}
use Rattle.std.specs.Prelude.{if◌then◌else◌}
use Rattle.cfs_base.specs.declared.identifier.Puid.{Puid}
use Rattle.cfs_base.specs.Outside.{count_after}
use Rattle.ufs_model.specs.declared.asker.Asker.{Ghosts}
use Rattle.ufs_model.specs.Graph.{Graph, is_there}
use Rattle.ufs_model.specs.Next.{is_sweeping}
use Rattle.ufs_model.specs.Room.{blocks_in}
use Rattle.ufs_model.specs.State.{State}
use Rattle.name_dirs.specs.declared.fault.DirFault.{DirFault}
use Rattle.name_dirs.specs.Chain.{Chain}
use Rattle.name_dirs.specs.Faults.{NoneFalls, TellsFault}
use Rattle.name_dirs.specs.Names.{AreApart, HasNames, IfApart, Nothing, Put}
use Rattle.name_lines.specs.declared.answer.Answer.{Answer}
use Rattle.name_lines.specs.declared.answer.Answer.TheVariants as answers
use Rattle.name_lines.specs.declared.line.Line.{Line}
use Rattle.name_lines.specs.declared.line.Line.TheVariants as lines
use Rattle.name_lines.specs.Answers.{IsLineAnswer}
use Rattle.name_lines.specs.Paths.{led_from_top}
use Rattle.name_lines.specs.Printed.{is_disk_answer}
use Rattle.name_lines.specs.Spoken.{line_in}

-- ---- a run

-- From a state to the next. No grant is added or removed, no object is removed, and no block is given back.
pub record FollowsLine (cylinders : ℕ) (line : Option Line) (answer : Answer) (s t : State) : Type 0 where
  pub told : IsLineAnswer cylinders line answer s t
  pub grants : t.grants ≡ s.grants
  pub sweeps : is_sweeping t.collection ≡ is_sweeping s.collection
  pub there : (x : Puid) → is_there s.graph x ≡ true → is_there t.graph x ≡ true
  pub room : blocks_in s ≤ blocks_in t
  pub apart : AreApart s.graph → AreApart t.graph

-- lines and their answers, from one state to another
pub data IsNamesRun (cylinders : ℕ) (s : State) : List (List ℕ) → List Answer → State → Type 0 where
  Begun : IsNamesRun cylinders s [] [] s
  After : {lines : List (List ℕ)} {told : List Answer} {t u : State} → IsNamesRun cylinders s lines told t
      → (line : List ℕ) (answer : Answer) → FollowsLine cylinders (line_in line) answer t u
      → IsNamesRun cylinders s (lines ++ line ∷ []) (told ++ answer ∷ []) u

-- ---- between the requests of a line

-- the names with the one change that a line makes
abbrev pub HasChange : Line → Graph → Graph → Type 0
HasChange (lines.MakeDir place capacity) g h = (d : Puid) × (led_from_top g place.above ≡ Ok d)
    × ((id : Puid) × (is_there g id ≡ false) × HasNames (Put d place.name (Some id)) g h)
HasChange (lines.Bind place id) g h =
    (d : Puid) × (led_from_top g place.above ≡ Ok d) × HasNames (Put d place.name (Some id)) g h
HasChange (lines.Unbind place) g h =
    (d : Puid) × (led_from_top g place.above ≡ Ok d) × HasNames (Put d place.name None) g h
HasChange line g h = ⊥

-- A line that changes something leaves the names old, or with its change, after each of its requests. Any other line
-- leaves the graph as it was.
abbrev pub IsWithinLine : Option Line → Graph → Graph → Type 0
IsWithinLine None g h = h ≡ g
IsWithinLine (Some (lines.Look place)) g h = h ≡ g
IsWithinLine (Some (lines.ListDir path)) g h = h ≡ g
IsWithinLine (Some line) g h = IfApart g (HasNames Nothing g h ⊎ HasChange line g h)

-- ---- a line served

-- from this state to that one
pub record ServesFrom {A : Type 0} (g : Ghosts A) (who : ℕ) (line : Option Line) (answer : Answer) (old new : A)
    (s t : State) : Type 0 where
  pub stands : g.stands new t
  pub chain : Chain g who (IsWithinLine line s.graph) old s new t
  pub follows : FollowsLine (g.cylinders old) line answer s t

-- from each state without grants
abbrev pub ServesLine : {A : Type 0} → Ghosts A → (who : ℕ) → Option Line → A → A → Answer → Type 0
ServesLine g who line old new answer =
    (s : State) → g.stands old s → s.grants ≡ [] → (t : State) × ServesFrom g who line answer old new s t

-- On any asker: no count falls, at most two words are drawn, and trouble that is reported was met.
pub record SpendsLine {A : Type 0} (g : Ghosts A) (old new : A) (answer : Answer) : Type 0 where
  pub told : (fault : DirFault) → answer ≡ answers.Refused fault → TellsFault g old new fault
  -- a failed call that is reported counts as at least one
  pub failed : (if is_disk_answer answer then count_after (g.failed old) else g.failed old) ≤ g.failed new
  pub later : NoneFalls g 2 old new
