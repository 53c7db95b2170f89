-- How a service ended: why its core stopped, what ended its collector, and what spoiled it.
use Rattle.std.specs.Prelude.{◌≡◌, ◌||◌, ◌<◌, ◌-◌, ℕ, Bool, true, false, List, [], ◌∷◌, ◌++◌, Option, Some, None}
use Rattle.std.specs.Prelude.{is_none, option_map, option_and_then, option_to_list}
use Rattle.std.specs.List.{list_any, list_all}
use Rattle.cfs_base.specs.declared.refusal.Damage.{Damage}
use Rattle.cfs_core.specs.Asked.{stopped_by}
use Rattle.cfs_core.specs.declared.collecting.CollectFault.{CollectFault}
use Rattle.cfs_core.specs.declared.collecting.CollectFault.TheVariants as faults
use Rattle.cfs_core.specs.declared.kernel.Stop.{Stop}
use Rattle.ufs_model.specs.declared.asked.Event.{Event}
use Rattle.ufs_model.specs.declared.asked.Event.TheVariants as events
use Rattle.ufs_model.specs.declared.asked.Reply.TheVariants as replies
use Rattle.cfs_serve.specs.Events.{begins_in, finishes_in, is_calm, tells_disk, wants_memory}
use Rattle.cfs_serve.specs.declared.ending.Ending.{Ending}
use Rattle.cfs_serve.specs.declared.report.Cause.{Cause}
use Rattle.cfs_serve.specs.declared.report.Cause.TheVariants as causes
use Rattle.cfs_serve.specs.declared.report.VolumeFault.TheVariants as refusals

-- nothing was served
abbrev pub not_begun : Ending
not_begun = record { stop = None; refused = None; last = None }

abbrev pub moment_in : Option Stop → Option ℕ
moment_in stop = option_map (λ (s : Stop). s.moment) stop

abbrev pub damage_in : Option Stop → Option Damage
damage_in stop = option_and_then (λ (s : Stop). s.damage) stop

-- ---- why the core stopped

-- The stop that an event reports. Of a leave, and of a step of the collector, it reports only the moment, and not this
-- damage.
abbrev pub told_stop : Option Damage → Event → Option Stop
told_stop damage (events.Ask who request reply) = stopped_by reply None
told_stop damage (events.Leave who (Some moment)) = Some (record { moment = moment; damage = damage })
told_stop damage (events.Halted moment) = Some (record { moment = moment; damage = damage })
told_stop damage event = None

-- all stops that a trail reports
abbrev pub stops_in : Option Damage → List Event → List Stop
stops_in damage [] = []
stops_in damage (e ∷ trail) = option_to_list (told_stop damage e) ++ stops_in damage trail

-- These events were made. A core that had stopped stays so. If a core that ran has stopped, one event reports why.
abbrev pub StopsAmong : Option Stop → Option Stop → List Event → Type 0
StopsAmong before after made = option_to_list after ≡ option_to_list before ++ stops_in (damage_in after) made

-- The moment at which a server stopped whose disk has the moment `now`: that of the call that failed, or `now` if a
-- block was damaged. No call of the disk came after.
abbrev pub moment_of_stop : Option Damage → (now : ℕ) → ℕ
moment_of_stop None now = now - 1
moment_of_stop (Some damage) now = now

abbrev pub IsStopTimed : Option Stop → (now : ℕ) → Type 0
IsStopTimed None now = Unit {0}
IsStopTimed (Some stop) now = stop.moment ≡ moment_of_stop stop.damage now

-- ---- replies that it has stopped

-- a reply that it has stopped has the moment at which it did
abbrev pub IsStoppedReply : (stopped : Option ℕ) → Event → Type 0
IsStoppedReply stopped (events.Ask who request (replies.Stopped moment)) = stopped ≡ Some moment
IsStoppedReply stopped event = Unit {0}

-- the moment of the stop after this event
abbrev pub stopped_with : Option ℕ → Event → Option ℕ
stopped_with (Some moment) event = Some moment
stopped_with None event = moment_in (told_stop None event)

abbrev pub AreStoppedReplies : (stopped : Option ℕ) → List Event → Type 0
AreStoppedReplies stopped [] = Unit {0}
AreStoppedReplies stopped (e ∷ trail) = IsStoppedReply stopped e × AreStoppedReplies (stopped_with stopped e) trail

-- ---- a call, and all of them

-- These events were made by a call.
pub record MakesStop {A : Type 0} (clock : A → ℕ) (stop : A → Option Stop) (old new : A) (made : List Event)
    : Type 0 where
  pub among : StopsAmong (stop old) (stop new) made
  pub after : AreStoppedReplies (moment_in (stop old)) made
  pub timed : IsStopTimed (stop old) (clock old) → IsStopTimed (stop new) (clock new)

-- The trail of a server that ran as it began.
pub record KnowsStop {A : Type 0} (clock : A → ℕ) (stop : A → Option Stop) (server : A) (trail : List Event)
    : Type 0 where
  pub among : StopsAmong None (stop server) trail
  pub after : AreStoppedReplies None trail
  pub timed : IsStopTimed (stop server) (clock server)

-- ---- why the collector was done

-- a refusal at which the core stopped names that stop
abbrev pub TellsStop : Option CollectFault → Option Stop → Type 0
TellsStop (Some (faults.Disk (Some moment))) stop = stop ≡ Some (record { moment = moment; damage = None })
TellsStop (Some (faults.Damaged damage moment)) stop = stop ≡ Some (record { moment = moment; damage = Some damage })
TellsStop refused stop = Unit {0}

-- no collection runs, and fewer are finished than were called for
abbrev pub IsWanting : (collections : ℕ) → List Event → Type 0
IsWanting collections trail = (begins_in trail ≡ finishes_in trail) × (finishes_in trail < collections)

-- ---- what spoiled a service

-- a call of the disk failed in the step that was refused
abbrev pub is_fault : Option CollectFault → Bool
is_fault (Some (faults.Disk doubt)) = true
is_fault refused = false

-- the core stopped at a call that failed
abbrev pub is_failure : Option Stop → Bool
is_failure None = false
is_failure (Some stop) = is_none stop.damage

-- the core or the collector ended by a call of the disk that failed
abbrev pub has_fallen : Ending → Bool
has_fallen ending = is_fault ending.refused || is_failure ending.stop

-- memory was wanting; or the core had stopped, and then the stop is reported in its place
abbrev pub is_want_of_memory : Option CollectFault → Bool
is_want_of_memory (Some faults.Memory) = true
is_want_of_memory (Some (faults.Stopped moment)) = true
is_want_of_memory refused = false

-- the collector was refused so
abbrev pub is_short : Ending → Bool
is_short ending = is_want_of_memory ending.refused

abbrev pub spoiled_by : (failed : Bool) (stopped : Option ℕ) (damage : Option Damage) (broken wanting : Bool) → Cause
spoiled_by true stopped damage broken wanting = causes.Disk stopped
spoiled_by false stopped (Some d) broken wanting = causes.Volume (refusals.Damaged d)
spoiled_by false stopped None true wanting = causes.Sink
spoiled_by false stopped None false true = causes.Memory
spoiled_by false stopped None false false = causes.Nothing

-- The first of these that has come: a call of the disk that failed, in a reply or so that the core or the collector
-- ended; a damage at which the core stopped; a sink that broke; memory that was wanting, in a reply or so that the
-- collector ended.
abbrev pub cause_by : Ending → (failed broken starved : Bool) → Cause
cause_by ending failed broken starved =
    spoiled_by (failed || has_fallen ending) (moment_in ending.stop) (damage_in ending.stop) broken
    (starved || is_short ending)

abbrev pub has_failed : Ending → List Event → Bool
has_failed ending trail = list_any tells_disk trail || has_fallen ending

abbrev pub cause_of : Ending → List Event → (broken : Bool) → Cause
cause_of ending trail broken = cause_by ending (list_any tells_disk trail) broken (list_any wants_memory trail)

-- ---- all of it

-- How a service ended, on any disk. `rose` says that the disk's count of failed calls rose.
pub record EndsService (rose : Type 0) (collections : ℕ) (ending : Ending) (trail : List Event) : Type 0 where
  -- the trail reports this stop once, and no other; if the core runs, it reports none
  pub stops : StopsAmong None ending.stop trail
  -- a reply that it has stopped comes only after
  pub after : AreStoppedReplies None trail
  pub refusal : TellsStop ending.refused ending.stop
  -- if no collection is called for, the collector wants no memory
  pub quiet : collections ≡ 0 → ending.refused ≡ Some faults.Memory → ⊥
  pub failed : has_failed ending trail ≡ true → rose
  -- if the core runs, no event reports other trouble than a failed call
  pub calm : ending.stop ≡ None → list_any tells_disk trail ≡ false → list_all is_calm trail ≡ true
