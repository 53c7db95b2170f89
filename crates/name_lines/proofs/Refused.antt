-- Refusals of a line.
use Rattle.std.proofs.Common.{◌≡◌, inl, inr, ℕ, true, Bool, List, [], Option, Some, None, refl, sym, ◌∙◌, ap, subst}
use Rattle.std.specs.Prelude.{Err, Ok, Result, is_none, if◌then◌else◌}
use Rattle.cfs_base.specs.declared.identifier.Puid.{Puid}
use Rattle.ufs_model.specs.declared.asked.Reply.{Reply}
use Rattle.ufs_model.specs.declared.asked.Reply.TheVariants as replies
use Rattle.ufs_model.specs.Graph.{Graph, is_there}
use Rattle.ufs_model.specs.Refusal.{is_open}
use Rattle.ufs_model.specs.State.{State}
use Rattle.name_dirs.specs.declared.fault.DirFault.{DirFault}
use Rattle.name_dirs.specs.declared.fault.DirFault.TheVariants as faults
use Rattle.name_dirs.specs.Directory.{Entry, entries_in}
use Rattle.name_dirs.specs.Faults.{IsChangeTrouble, IsDirFault, IsMissing, IsReadTrouble, StopsWith, TellsHalt, TellsStopAt, due_of, due_with}
use Rattle.name_dirs.specs.Names.{HasNames, IfApart, Nothing}
use Rattle.name_dirs.proofs.Moves.{named_same}
use Rattle.name_lines.specs.declared.answer.Answer.TheVariants as answers
use Rattle.name_lines.specs.declared.line.Line.{Line}
use Rattle.name_lines.specs.declared.line.Line.TheVariants as lines
use Rattle.name_lines.specs.Answers.{IsLineAnswer, IsFullOfLine, IsHandedOn, LeavesNames, id_bound, most_need}
use Rattle.name_lines.specs.Runs.{IsWithinLine}
use Rattle.name_lines.specs.Paths.{due, due_at, led_from_top}
use Rattle.name_lines.specs.Walking.{IsPathTrouble}
use Rattle.name_lines.proofs.Causes.{fault_on, never_barred, never_open, read_path}

-- ---- what a request may tell of a line

abbrev pub IsLineTrouble : (cylinders : ℕ) → Line → State → State → Reply → Type 0
IsLineTrouble cylinders line s t replies.NoObject = IsMissing s (id_bound line)
IsLineTrouble cylinders line s t (replies.Full n) = IsFullOfLine cylinders (most_need line) t n
IsLineTrouble cylinders line s t (replies.Disk doubt) = Unit {0}
IsLineTrouble cylinders line s t reply = ⊥

abbrev pub IsLineFault : (cylinders : ℕ) → Line → State → State → DirFault → Type 0
IsLineFault cylinders line s t fault = IsDirFault (due s.graph line) (IsPathTrouble s) (IsLineTrouble cylinders line s t) fault

pub change_line : (cylinders most : ℕ) (also : Option Puid) (line : Line) (s t : State) (dir : Puid) → s.grants ≡ [] → (IsMissing s also → IsMissing s (id_bound line)) → most_need line ≡ Some most
    → (r : Reply) → IsChangeTrouble cylinders most also s t dir r → IsLineTrouble cylinders line s t r
change_line cylinders most also line s t dir none missing need replies.NoObject is = missing is
change_line cylinders most also line s t dir none missing need replies.Locked is = absurd (never_barred is_open s dir (never_open s none) is)
change_line cylinders most also line s t dir none missing need (replies.Full n) is = subst (λ (o : Option ℕ). IsFullOfLine cylinders o t n) (sym need) is
change_line cylinders most also line s t dir none missing need (replies.Disk doubt) is = tt
change_line cylinders most also line s t dir none missing need r is = absurd is

-- ---- a stop

abbrev pub Stops : State → State → DirFault → Type 0
Stops s t fault = StopsWith {E = Unit {0}} s t (Err fault)

runs_yet : (s : State) (fault : DirFault) → TellsHalt s fault → ((moment : ℕ) → TellsStopAt moment fault → ⊥) → s.stopped ≡ None
runs_yet s fault halt never = by s.stopped refl
  where
    by : (o : Option ℕ) → s.stopped ≡ o → s.stopped ≡ None
    by None at = at
    by (Some moment) at = absurd (never moment (halt moment at))

-- ---- replies that are handed on

module _ (cylinders : ℕ) (line : Line) (s t : State) where
  reads_on : (r : Reply) → Stops s t (faults.Asked r) → IsPathTrouble s r → IsHandedOn cylinders line r s t
  reads_on (replies.Disk None) stops is = let runs = runs_yet s (faults.Asked (replies.Disk None)) stops.1 (λ moment told. told) in (runs, stops.0 ∙ runs)
  reads_on (replies.Disk (Some moment)) stops is = (runs_yet s (faults.Asked (replies.Disk (Some moment))) stops.1 (λ moment told. told), stops.0)
  reads_on (replies.Stopped moment) stops is = (is, stops.2 (ap (λ (o : Option ℕ). is_none o) is))
  reads_on r stops is = absurd is

  changes_on : (r : Reply) → Stops s t (faults.Asked r) → due s.graph line ≡ None → IsLineTrouble cylinders line s t r → IsHandedOn cylinders line r s t
  changes_on replies.NoObject stops none is = (none, is, stops.0 ∙ runs_yet s (faults.Asked replies.NoObject) stops.1 (λ moment told. told))
  changes_on (replies.Full n) stops none is = (none, is, stops.0 ∙ runs_yet s (faults.Asked (replies.Full n)) stops.1 (λ moment told. told))
  changes_on (replies.Disk None) stops none is = let runs = runs_yet s (faults.Asked (replies.Disk None)) stops.1 (λ moment told. told) in (runs, stops.0 ∙ runs)
  changes_on (replies.Disk (Some moment)) stops none is = (runs_yet s (faults.Asked (replies.Disk (Some moment))) stops.1 (λ moment told. told), stops.0)
  changes_on r stops none is = absurd is

  pub refused : (fault : DirFault) → LeavesNames line s.graph t.graph → Stops s t fault → IsLineFault cylinders line s t fault → IsLineAnswer cylinders (Some line) (answers.Refused fault) s t
  refused faults.NotDirectory leaves stops is = (is, stops.3, runs_yet s faults.NotDirectory stops.1 (λ moment told. told))
  refused faults.NoName leaves stops is = (is, stops.3, runs_yet s faults.NoName stops.1 (λ moment told. told))
  refused faults.Exists leaves stops is = (is, stops.3, runs_yet s faults.Exists stops.1 (λ moment told. told))
  refused (faults.DirFull n) leaves stops is = (is, stops.3, runs_yet s (faults.DirFull n) stops.1 (λ moment told. told))
  refused (faults.Asked r) leaves stops (inl is) = (leaves, reads_on r stops is)
  refused (faults.Asked r) leaves stops (inr is) = (leaves, changes_on r stops is.0 is.1)
  refused faults.Memory leaves stops is = (leaves, stops.0)

-- ---- the names stay

names_same : (g h : Graph) → h ≡ g → IfApart g (HasNames Nothing g h)
names_same g h same apart = (named_same g.root g h same apart).names

pub leaves_same : (line : Line) (g h : Graph) → h ≡ g → LeavesNames line g h
leaves_same (lines.Unbind place) g h same = inl (names_same g h same)
leaves_same line g h same = names_same g h same

-- nothing was asked yet
pub amid_same : (line : Line) (g : Graph) → IsWithinLine (Some line) g g
amid_same (lines.Look place) g = refl
amid_same (lines.ListDir path) g = refl
amid_same (lines.MakeTop capacity) g = λ apart. inl (names_same g g refl apart)
amid_same (lines.MakeDir place capacity) g = λ apart. inl (names_same g g refl apart)
amid_same (lines.Bind place id) g = λ apart. inl (names_same g g refl apart)
amid_same (lines.Unbind place) g = λ apart. inl (names_same g g refl apart)

-- ---- a call on the directory to which a path leads

module _ (line : Line) (s : State) (path : List (List ℕ)) (dir : Puid) (by : List Entry → Option DirFault) (leads : led_from_top s.graph path ≡ Ok dir) (there : is_there s.graph dir ≡ true)
    (due_is : due s.graph line ≡ due_at s.graph (led_from_top s.graph path) by) where
  -- what is due to the line is due to the call
  due_both : due s.graph line ≡ due_of s dir by
  due_both = due_is ∙ ap (λ (r : Result Puid DirFault). due_at s.graph r by) leads ∙ sym (ap (λ (b : Bool). if b then due_with (entries_in s.graph dir) by else None) there)

  pub due_now : (es : List Entry) → entries_in s.graph dir ≡ Some es → due s.graph line ≡ by es
  due_now es entries = due_is ∙ ap (λ (r : Result Puid DirFault). due_at s.graph r by) leads ∙ ap (λ (o : Option (List Entry)). due_with o by) entries

  pub call_fault : (cylinders : ℕ) (t : State) (Changes : Reply → Type 0) → s.grants ≡ [] → ((r : Reply) → Changes r → IsLineTrouble cylinders line s t r) → (fault : DirFault) → IsDirFault (due_of s dir by) (IsReadTrouble s dir) Changes fault → IsLineFault cylinders line s t fault
  call_fault cylinders t Changes none changes fault is =
      fault_on (due_of s dir by) (due s.graph line) (IsReadTrouble s dir) (IsPathTrouble s) Changes (IsLineTrouble cylinders line s t) (λ other due. due_both ∙ due) (read_path s none dir there) (λ r due change. (due_both ∙ due, changes r change)) fault is
