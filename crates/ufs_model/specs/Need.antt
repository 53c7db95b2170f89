-- How many blocks a request may take.
use Rattle.std.specs.Prelude.{ℕ, ◌+◌, Bool, true, false, is_some, if◌then◌else◌, [], Option, Some, None}
use Rattle.cfs_base.specs.declared.kind.FileKind.TheVariants as kinds
use Rattle.cfs_base.specs.declared.kind.Mode.{Mode}
use Rattle.cfs_base.specs.declared.kind.Mode.TheVariants as modes
use Rattle.ufs_model.specs.declared.asked.Ref.{Ref}
use Rattle.ufs_model.specs.declared.asked.Request.{Request}
use Rattle.ufs_model.specs.declared.asked.Request.TheVariants as asks
use Rattle.ufs_model.specs.declared.object.Object.{Object}
use Rattle.ufs_model.specs.declared.object.Object.TheVariants as objects
use Rattle.ufs_model.specs.declared.object.Draft.{Draft}
use Rattle.ufs_model.specs.Numbers.{missing}
use Rattle.ufs_model.specs.Object.{Change, Fill, Overwrite, SetSize, held_levels, written_anew}
use Rattle.ufs_model.specs.Graph.{object_at}
use Rattle.ufs_model.specs.State.{State, draft_of, seen}

abbrev pub one_if : Bool → ℕ
one_if b = if b then 1 else 0

abbrev pub is_normal : Object → Bool
is_normal (objects.File f) = elim f.kind [ kinds.Normal ↦ true | kinds.Special ↦ false ]
is_normal (objects.Index i) = false

-- a normal file is written in place, and takes the blocks that it doesn't hold yet
abbrev pub in_place_need : Change → Object → ℕ
in_place_need (Overwrite offset bytes) o = missing (written_anew (Overwrite offset bytes) o []) (held_levels o)
in_place_need (SetSize size) o = 0
in_place_need (Fill slot what) o = 0

-- Any other object is changed beside itself, and takes what is written anew and not fresh yet. A change that is its
-- own commit also takes a shadow root. A draft has one since it was opened.
abbrev beside_need : Change → Draft → (has_shadow : Bool) → ℕ
beside_need c d has_shadow = missing (written_anew c d.object d.fresh) d.fresh + (if has_shadow then 0 else 1)

abbrev pub change_need : State → ℕ → Ref → Change → ℕ
change_need s who ref c =
    let d = seen s who ref in
    if is_normal d.object then in_place_need c d.object else beside_need c d (is_some (draft_of s who ref))

-- an object that is opened in this mode gets a draft
abbrev pub takes_draft : Mode → Option Object → Bool
takes_draft modes.Reading o = false
takes_draft modes.Writing None = false
takes_draft modes.Writing (Some (objects.File f)) = elim f.kind [ kinds.Normal ↦ false | kinds.Special ↦ true ]
takes_draft modes.Writing (Some (objects.Index i)) = true

abbrev pub need_of : State → ℕ → Request → ℕ
need_of s who (asks.CreateFile kind fill index slot) = 1 + change_need s who index (Fill slot None)
need_of s who (asks.CreateIndex slots index slot) = 1 + change_need s who index (Fill slot None)
need_of s who (asks.Retain index slot id) = change_need s who index (Fill slot (Some id))
need_of s who (asks.Retrieve index slot) = 0
need_of s who (asks.Delete index slot) = change_need s who index (Fill slot None)
need_of s who (asks.Slots index) = 0
need_of s who (asks.OpenFor id mode) = one_if (takes_draft mode (object_at s.graph id))
need_of s who (asks.Close grant commit) = 0
need_of s who (asks.Read file offset count) = 0
need_of s who (asks.Write file offset bytes) = change_need s who file (Overwrite offset bytes)
need_of s who (asks.Size file) = 0
need_of s who (asks.Resize file size) = change_need s who file (SetSize size)
