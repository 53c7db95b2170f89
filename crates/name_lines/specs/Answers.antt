-- What the answer to a line says of the states before and after it.
use Rattle.std.specs.Prelude.{◌≡◌, ◌⊎◌, ℕ, true, List, Option, Some, None, Ok}
use Rattle.cfs_base.specs.declared.identifier.Puid.{Puid}
use Rattle.cfs_base.specs.declared.refusal.Need.{Need}
use Rattle.ufs_model.specs.declared.asked.Reply.{Reply}
use Rattle.ufs_model.specs.declared.asked.Reply.TheVariants as replies
use Rattle.ufs_model.specs.Graph.{Graph, is_there}
use Rattle.ufs_model.specs.State.{State}
use Rattle.name_dirs.specs.declared.fault.DirFault.TheVariants as faults
use Rattle.name_dirs.specs.Calls.{AreListed, ChangesTop, IsNewDirectory, TakesName}
use Rattle.name_dirs.specs.Directory.{Entry, entries_in, table_in}
use Rattle.name_dirs.specs.Faults.{IsMissing, IsTooFull}
use Rattle.name_dirs.specs.Names.{Change, ChangesNames, HasNames, IfApart, Nothing, Put, bound, id_under, unbound}
use Rattle.name_lines.specs.declared.answer.Answer.{Answer}
use Rattle.name_lines.specs.declared.answer.Answer.TheVariants as answers
use Rattle.name_lines.specs.declared.line.Line.{Line}
use Rattle.name_lines.specs.declared.line.Line.TheVariants as lines
use Rattle.name_lines.specs.Paths.{due, led_from_top}

-- ---- if a line was done

-- the directory to which a path leads, and its entries
pub record IsAtName (g : Graph) (path : List (List ℕ)) (dir : Puid) (entries : List Entry) : Type 0 where
  pub leads : led_from_top g path ≡ Ok dir
  pub has : entries_in g dir ≡ Some entries

abbrev pub At : Graph → List (List ℕ) → (Puid → List Entry → Type 0) → Type 0
At g path Holds = (d : Puid) × ((es : List Entry) × IsAtName g path d es × Holds d es)

-- the entries of a directory become these; names change so, and the entries of all other objects stay
pub record ChangesEntries (change : Change) (dir : Puid) (entries : List Entry) (g h : Graph) : Type 0 where
  pub now : entries_in h dir ≡ Some entries
  pub names : IfApart g (ChangesNames dir change g h)

-- an answer that is no refusal
abbrev pub Does : Line → Answer → Graph → Graph → Type 0
Does (lines.MakeTop capacity) (answers.Id id) g h = IsNewDirectory capacity id g h × ChangesTop id g h
    × (table_in h g.root ≡ Some id) × IfApart g (ChangesNames g.root Nothing g h)
Does (lines.MakeDir place capacity) (answers.Id id) g h = IsNewDirectory capacity id g h
    × At g place.above (λ d es. ChangesEntries (Put d place.name (Some id)) d (bound place.name id es) g h)
Does (lines.Bind place id) answers.Done g h = (is_there g id ≡ true)
    × At g place.above (λ d es. ChangesEntries (Put d place.name (Some id)) d (bound place.name id es) g h)
Does (lines.Look place) (answers.Id id) g h = (h ≡ g) × At g place.above (λ d es. id_under place.name es ≡ Some id)
Does (lines.Unbind place) answers.Done g h =
    At g place.above (λ d es. ChangesEntries (Put d place.name None) d (unbound place.name es) g h)
Does (lines.ListDir path) (answers.Names names) g h = (h ≡ g) × At g path (λ d es. AreListed es names)
Does line answer g h = ⊥

-- ---- if a line was refused

-- The names stay, except one that an `unbind` may have removed. A `mkdir` may have added a directory without names,
-- and entries without a name that leads somewhere may differ.
abbrev pub LeavesNames : Line → Graph → Graph → Type 0
LeavesNames (lines.Unbind place) g h = IfApart g (HasNames Nothing g h)
    ⊎ ((d : Puid) × (led_from_top g place.above ≡ Ok d) × TakesName d place.name g h)
LeavesNames line g h = IfApart g (HasNames Nothing g h)

-- an identifier that is named beside the path
abbrev pub id_bound : Line → Option Puid
id_bound (lines.Bind place id) = Some id
id_bound line = None

-- the most blocks that one request takes, for a line that changes something
abbrev pub most_need : Line → Option ℕ
most_need (lines.MakeTop capacity) = Some 5
most_need (lines.MakeDir place capacity) = Some 5
most_need (lines.Bind place id) = Some 4
most_need (lines.Look place) = None
most_need (lines.Unbind place) = Some 4
most_need (lines.ListDir path) = None

abbrev pub IsFullOfLine : (cylinders : ℕ) → (most : Option ℕ) → State → Need → Type 0
IsFullOfLine cylinders None t n = ⊥
IsFullOfLine cylinders (Some most) t n = IsTooFull cylinders most t n

-- a request's reply that is the answer
abbrev pub IsHandedOn : (cylinders : ℕ) → Line → Reply → State → State → Type 0
IsHandedOn cylinders line replies.NoObject s t =
    (due s.graph line ≡ None) × IsMissing s (id_bound line) × (t.stopped ≡ None)
IsHandedOn cylinders line (replies.Full n) s t =
    (due s.graph line ≡ None) × IsFullOfLine cylinders (most_need line) t n × (t.stopped ≡ None)
IsHandedOn cylinders line (replies.Disk doubt) s t = (s.stopped ≡ None) × (t.stopped ≡ doubt)
IsHandedOn cylinders line (replies.Stopped moment) s t = (s.stopped ≡ Some moment) × (t ≡ s)
IsHandedOn cylinders line reply s t = ⊥

-- ---- an answer

abbrev pub IsLineAnswer : (cylinders : ℕ) → Option Line → Answer → State → State → Type 0
IsLineAnswer cylinders None answers.Syntax s t = t ≡ s
IsLineAnswer cylinders None (answers.Refused faults.Memory) s t = t ≡ s
IsLineAnswer cylinders None answer s t = ⊥
IsLineAnswer cylinders (Some line) answers.Syntax s t = ⊥
IsLineAnswer cylinders (Some line) (answers.Refused faults.Memory) s t =
    LeavesNames line s.graph t.graph × (t.stopped ≡ s.stopped)
IsLineAnswer cylinders (Some line) (answers.Refused (faults.Asked reply)) s t =
    LeavesNames line s.graph t.graph × IsHandedOn cylinders line reply s t
IsLineAnswer cylinders (Some line) (answers.Refused fault) s t =
    (due s.graph line ≡ Some fault) × (t ≡ s) × (s.stopped ≡ None)
IsLineAnswer cylinders (Some line) answer s t =
    (due s.graph line ≡ None) × Does line answer s.graph t.graph × (s.stopped ≡ None) × (t.stopped ≡ None)
