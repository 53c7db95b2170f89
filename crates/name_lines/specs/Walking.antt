-- The parts of serving a line.
use Rattle.std.specs.Prelude.{◌≡◌, ◌⊎◌, ℕ, true, List, [], Option, Some, None, Result, Ok, Err}
use Rattle.cfs_base.specs.declared.identifier.Puid.{Puid}
use Rattle.ufs_model.specs.declared.asked.Reply.{Reply}
use Rattle.ufs_model.specs.declared.asked.Reply.TheVariants as replies
use Rattle.ufs_model.specs.declared.asker.Asker.{Ghosts}
use Rattle.ufs_model.specs.Graph.{is_there}
use Rattle.ufs_model.specs.State.{State}
use Rattle.name_dirs.specs.declared.fault.DirFault.{DirFault}
use Rattle.name_dirs.specs.declared.fault.DirFault.TheVariants as faults
use Rattle.name_dirs.specs.Calls.{ReadsOn}
use Rattle.name_dirs.specs.Faults.{IsDirFault, StopsWith}
use Rattle.name_lines.specs.declared.answer.Answer.{Answer}
use Rattle.name_lines.specs.declared.answer.Answer.TheVariants as answers
use Rattle.name_lines.specs.declared.line.Line.{Line}
use Rattle.name_lines.specs.Paths.{led_from_top}
use Rattle.name_lines.specs.Printed.{may_be_long}
use Rattle.name_lines.specs.Runs.{ServesLine, SpendsLine}

-- ---- a path

abbrev pub fault_in : Result Puid DirFault → Option DirFault
fault_in (Ok dir) = None
fault_in (Err fault) = Some fault

-- a request's reply that ends a walk in a state without grants
abbrev pub IsPathTrouble : State → Reply → Type 0
IsPathTrouble s (replies.Disk doubt) = Unit {0}
IsPathTrouble s (replies.Stopped moment) = s.stopped ≡ Some moment
IsPathTrouble s reply = ⊥

abbrev pub LeadsToObject : State → State → List (List ℕ) → Result Puid DirFault → Type 0
LeadsToObject s t path (Ok dir) = (t ≡ s) × (led_from_top s.graph path ≡ Ok dir) × (is_there s.graph dir ≡ true)
LeadsToObject s t path (Err fault) =
    IsDirFault (fault_in (led_from_top s.graph path)) (IsPathTrouble s) (λ reply. ⊥) fault

abbrev pub WalksPath : {A : Type 0} → Ghosts A → (who : ℕ) → List (List ℕ) → A → A → Result Puid DirFault → Type 0
WalksPath g who path old new result = (s : State) → g.stands old s → s.grants ≡ []
    → (t : State) × ReadsOn g who old new s t × StopsWith s t result × LeadsToObject s t path result

-- ---- a line

abbrev pub answer_for : Result Answer DirFault → Answer
answer_for (Ok answer) = answer
answer_for (Err fault) = answers.Refused fault

abbrev pub AnswersLine : {A : Type 0} → Ghosts A → (who : ℕ) → Option Line → A → A → Result Answer DirFault → Type 0
AnswersLine g who line old new result = ServesLine g who line old new (answer_for result)

abbrev pub SpendsIn : {A : Type 0} → Ghosts A → A → A → Result Answer DirFault → Type 0
SpendsIn g old new result = SpendsLine g old new (answer_for result)

-- an answer that may be long becomes a want of memory if its line has no room
abbrev pub IsWrittenAs : Answer → Answer → Type 0
IsWrittenAs answer told = (told ≡ answer) ⊎ ((may_be_long answer ≡ true) × (told ≡ answers.Refused faults.Memory))
