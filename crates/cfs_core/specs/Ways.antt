-- How a request goes to what it names, and when it is refused on the way.
use Rattle.std.specs.Prelude.{◌≡◌, ℕ, Bool, false, not, ◌&&◌, ◌||◌, List, [], ◌∷◌, ◌++◌, Option, Some, None}
use Rattle.cfs_base.specs.declared.identifier.Puid.{Puid}
use Rattle.cfs_base.specs.declared.kind.Kind.{Kind}
use Rattle.cfs_base.specs.declared.kind.Kind.TheVariants as kinds
use Rattle.open_table.specs.declared.grant.OpenGrant.{OpenGrant}
use Rattle.ufs_model.specs.declared.asked.Reply.{Reply}
use Rattle.ufs_model.specs.declared.asked.Reply.TheVariants as replies
use Rattle.ufs_model.specs.declared.asked.Request.{Request}
use Rattle.ufs_model.specs.declared.asked.Wanted.{Wanted}
use Rattle.ufs_model.specs.declared.asked.Wanted.TheVariants.{AnIndex, AFile, Either}
use Rattle.ufs_model.specs.declared.object.Object.{Object}
use Rattle.ufs_model.specs.Graph.{is_there, object_at}
use Rattle.ufs_model.specs.Refusal.{conditions, finds_empty, first_of, goes_nowhere, goes_through_reading}
use Rattle.ufs_model.specs.Refusal.{has_all_grants, has_no_slot, has_no_such_grant, is_out_of_range, is_reading}
use Rattle.ufs_model.specs.Refusal.{is_unwanted_file, is_unwanted_index, meets_a_grant, refusal_of, target}
use Rattle.ufs_model.specs.State.{State, draft_of, named, object_of}
use Rattle.cfs_core.specs.declared.way.Way.{Way}

-- the object that is also named doesn't exist
abbrev pub is_gone : State → Option Puid → Bool
is_gone s None = false
is_gone s (Some id) = not (is_there s.graph id)

-- there is a grant, and it is for reading
abbrev pub reads_by : Option OpenGrant → Bool
reads_by None = false
reads_by (Some grant) = is_reading grant.mode

-- those conditions of a refusal that concern the way, in their order
abbrev pub on_the_way : State → ℕ → Wanted → Way → List (Bool × Reply)
on_the_way s who wants way =
    (has_no_such_grant s who way.to, replies.NoGrant)
    ∷ (goes_nowhere s way.to || is_gone s way.also, replies.NoObject)
    ∷ (is_unwanted_file wants (object_of s who way.to), replies.NotIndex)
    ∷ (is_unwanted_index wants (object_of s who way.to), replies.NotFile)
    ∷ (way.changes && goes_through_reading s who way.to, replies.ReadOnly)
    ∷ (meets_a_grant s way.changes way.to, replies.Locked)
    ∷ []

-- those that concern what is there
abbrev pub once_there : State → ℕ → Request → List (Bool × Reply)
once_there s who request =
    (has_no_slot s who request, replies.Slot)
    ∷ (finds_empty s who request, replies.Empty)
    ∷ (is_out_of_range s who request, replies.Range)
    ∷ (has_all_grants s who request, replies.Grants)
    ∷ []

-- the request goes this way
pub record GoesBy (request : Request) (wants : Wanted) (way : Way) : Type 0 where
  pub to : target request ≡ way.to
  pub each : (s : State) (who : ℕ) → conditions s who request ≡ on_the_way s who wants way ++ once_there s who request

-- the refusal of a request that wants anything but an object of this kind, or None if it wants one
abbrev pub unfit_of : Wanted → Option Kind → Option Reply
unfit_of wants None = Some replies.NoObject
unfit_of AnIndex (Some kinds.Index) = None
unfit_of AnIndex (Some kinds.Normal) = Some replies.NotIndex
unfit_of AnIndex (Some kinds.Special) = Some replies.NotIndex
unfit_of AFile (Some kinds.Index) = Some replies.NotFile
unfit_of AFile (Some kinds.Normal) = None
unfit_of AFile (Some kinds.Special) = None
unfit_of Either (Some kind) = None

-- It arrives at this object: it is refused only for what is there.
pub record Arrives (s : State) (who : ℕ) (request : Request) (id : Puid) (o : Object) : Type 0 where
  pub there : object_at s.graph id ≡ Some o
  pub name : named s who (target request) ≡ Some id
  pub rest : refusal_of s who request ≡ first_of (once_there s who request)

-- It reaches this object, which has no draft through its reference.
pub record Reaches (s : State) (who : ℕ) (request : Request) (id : Puid) (o : Object) : Type 0 where
  pub there : object_at s.graph id ≡ Some o
  pub name : named s who (target request) ≡ Some id
  pub bare : draft_of s who (target request) ≡ None
  pub rest : refusal_of s who request ≡ first_of (once_there s who request)
