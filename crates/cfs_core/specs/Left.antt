-- How much the collections that were called for have left to do, on any disk.
use Rattle.std.specs.Prelude.{◌≡◌, ℕ, ◌+◌, ◌-◌, ◌*◌, ◌<◌, ◌≤◌, Bool, true, false, if◌then◌else◌, length}
use Rattle.std.specs.Prelude.{Option, Some, None, option_to_list}
use Rattle.collector_steps.specs.Collecting.{Collecting}
use Rattle.collector_steps.specs.Left.{events_left, most_steps, steps_left}
use Rattle.ufs_model.specs.declared.asked.Event.{Event}
use Rattle.cfs_core.specs.declared.collecting.Collections.{Collections}
use Rattle.cfs_core.specs.declared.collecting.Step.{Step}
use Rattle.cfs_core.specs.declared.collecting.Step.TheVariants as steps
use Rattle.cfs_core.specs.Kernel.{collection_runs}

-- how many have yet to begin
abbrev pub to_begin : Collections → ℕ
to_begin c = c.called - (c.finished + (if collection_runs c.collector then 1 else 0))

-- how much the one that runs has left
abbrev pub steps_of : Option Collecting → ℕ
steps_of None = 0
steps_of (Some k) = steps_left k

abbrev pub events_due : Option Collecting → ℕ
events_due None = 0
events_due (Some k) = events_left k.phase

-- The steps of all of them on a volume of this size, if nothing is rescued.
abbrev pub steps_ahead : (blocks : ℕ) → Collections → ℕ
steps_ahead blocks c = to_begin c * most_steps blocks + steps_of c.collector

-- Their events: each begins, objects vanish, and it is finished.
abbrev pub events_ahead : Collections → ℕ
events_ahead c = 3 * to_begin c + events_due c.collector

-- ---- a step

-- whether a collection runs before it, and after it
abbrev pub RunsBy : Step → (before after : Bool) → Type 0
RunsBy steps.Idle before after = (before ≡ false) × (after ≡ false)
RunsBy steps.Began before after = (before ≡ false) × (after ≡ true)
RunsBy steps.Finished before after = (before ≡ true) × (after ≡ false)
RunsBy step before after = (before ≡ true) × (after ≡ true)

-- A step that was made leaves fewer steps, and one event less if it is one.
pub record LeavesFewer (blocks : ℕ) (c d : Collections) (step : Step) (event : Option Event) : Type 0 where
  pub runs_by : RunsBy step (collection_runs c.collector) (collection_runs d.collector)
  pub fewer : ¬ (step ≡ steps.Idle) → steps_ahead blocks d < steps_ahead blocks c
  pub events : events_ahead d + length (option_to_list event) ≡ events_ahead c

-- ---- a request

-- A request moves no collection on, and adds at most one step, for a rescue.
pub record AddsOne (blocks : ℕ) (c d : Collections) : Type 0 where
  pub running : collection_runs d.collector ≡ collection_runs c.collector
  pub more : steps_ahead blocks d ≤ steps_ahead blocks c + 1
  pub events : events_ahead d ≡ events_ahead c

-- A request moves no collection on, and adds no step.
pub record AddsNone (blocks : ℕ) (c d : Collections) : Type 0 where
  pub running : collection_runs d.collector ≡ collection_runs c.collector
  pub no_more : steps_ahead blocks d ≤ steps_ahead blocks c
  pub events : events_ahead d ≡ events_ahead c
