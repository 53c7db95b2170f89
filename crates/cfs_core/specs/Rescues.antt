-- What a collection gets to know while it marks: an object that was put into an index, or opened, is a rescue, and
-- the draft of a grant that ends is no longer read.
use Rattle.std.specs.Prelude.{◌≡◌, ℕ, ◌<◌, Bool, true, false, if◌then◌else◌, List}
use Rattle.std.specs.Prelude.{[], ◌∷◌, ◌++◌, Option, Some, None, option_map, option_to_list}
use Rattle.cfs_base.specs.declared.identifier.Puid.{Puid}
use Rattle.collector_steps.specs.Collecting.{Collecting, colours_in, volume_of, waiting_in}
use Rattle.marking.specs.Colours.{Colours, draft_over}
use Rattle.marking.specs.declared.memory.Rescue.{Rescue}
use Rattle.marking.specs.Meanwhile.{is_carried_out}
use Rattle.marking.specs.Pace.{added_with}
use Rattle.ufs_model.specs.declared.asked.Reply.{Reply}
use Rattle.ufs_model.specs.declared.asked.Reply.TheVariants as replies
use Rattle.ufs_model.specs.declared.asked.Request.{Request}
use Rattle.ufs_model.specs.declared.asked.Request.TheVariants as asks
use Rattle.ufs_model.specs.declared.asked.Ref.TheVariants.{Through}
use Rattle.ufs_model.specs.State.{State, named}
use Rattle.cfs_core.specs.Kernel.{marks_in}

-- a request that puts an object into an index, or opens one
abbrev pub may_rescue : Request → Bool
may_rescue (asks.CreateFile kind fill index slot) = true
may_rescue (asks.CreateIndex slots index slot) = true
may_rescue (asks.Retain index slot id) = true
may_rescue (asks.OpenFor id mode) = true
may_rescue request = false

abbrev pub replied_id : Reply → Option Puid
replied_id (replies.Id id) = Some id
replied_id reply = None

-- what a request puts into this index, or opens, if it was done
abbrev pub rescue_put : Option Puid → Request → Reply → Option Rescue
rescue_put index (asks.CreateFile kind fill to slot) reply =
    option_map (λ id. record { index = index; id = id }) (replied_id reply)
rescue_put index (asks.CreateIndex slots to slot) reply =
    option_map (λ id. record { index = index; id = id }) (replied_id reply)
rescue_put index (asks.Retain to slot id) reply = Some (record { index = index; id = id })
rescue_put index (asks.OpenFor id mode) reply = Some (record { index = None; id = id })
rescue_put index request reply = None

abbrev pub rescue_of : Option Puid → Request → Reply → Option Rescue
rescue_of index request reply = if is_carried_out reply then rescue_put index request reply else None

-- there is room for a rescue, if the request may add one
abbrev pub HasRoomFor : Request → Option Collecting → Type 0
HasRoomFor request None = Unit {0}
HasRoomFor request (Some k) = marks_in k.phase ≡ true → may_rescue request ≡ true → 0 < k.rescues.room

abbrev pub while_marking : Collecting → List Rescue → List Rescue
while_marking k more = if marks_in k.phase then more else []

-- ---- when a grant ends

-- the object whose grant a request ends, if it was done
abbrev pub ended_of : Option Puid → Reply → List Puid
ended_of id replies.Done = option_to_list id
ended_of id reply = []

abbrev pub ended_by : State → ℕ → Request → Reply → List Puid
ended_by s who (asks.Close grant commit) reply = ended_of (named s who (Through grant)) reply
ended_by s who request reply = []

-- the drafts of these objects, if they had any, are no longer read
abbrev pub all_ended : List Puid → Colours → Colours
all_ended [] c = c
all_ended (id ∷ ids) c = all_ended ids (draft_over id c)

-- ---- what the collector gets to know

-- If it marks these rescues also wait, and are counted, and the drafts of these objects are no longer read. Otherwise
-- only the room has changed.
pub record HasRescued (k l : Collecting) (more : List Rescue) (over : List Puid) : Type 0 where
  pub volume : volume_of l ≡ volume_of k
  pub colours : colours_in l ≡ all_ended over (colours_in k)
  pub phase : l.phase ≡ k.phase
  pub steps : l.steps ≡ k.steps
  pub waiting : waiting_in l ≡ waiting_in k ++ while_marking k more
  pub added : l.added ≡ added_with (while_marking k more) k.added

abbrev pub AreRescued : Option Collecting → Option Collecting → List Rescue → List Puid → Type 0
AreRescued None None more over = Unit {0}
AreRescued (Some k) (Some l) more over = HasRescued k l more over
AreRescued None (Some l) more over = ⊥
AreRescued (Some k) None more over = ⊥
