-- How much a collection has left to do, on any disk.
use Rattle.std.specs.Prelude.{ℕ, zero, suc, ◌+◌, ◌-◌, ◌*◌, ◌/◌, Bool, if◌then◌else◌, length}
use Rattle.std.specs.List.{sum_by}
use Rattle.marking.specs.declared.memory.Grey.{Grey}
use Rattle.marking.specs.Colours.{Colours}
use Rattle.collector_steps.specs.declared.phase.Phase.{Phase}
use Rattle.collector_steps.specs.declared.phase.Phase.TheVariants as phases
use Rattle.collector_steps.specs.Collecting.{Collecting, colours_in, volume_of, waiting_in}

-- ---- reading

-- A grey index is read in one step for each place from its cursor on, and one more. No index has more than 15,360
-- leaves, and no draft of one has.
abbrev pub reads_of : Grey → ℕ
reads_of e = 1 + (30720 - e.cursor)

-- how many blocks below this one are not marked
unfoldable pub unmarked_below : ℕ → (ℕ → Bool) → ℕ
unmarked_below zero marked = 0
unmarked_below (suc n) marked = unmarked_below n marked + (if marked n then 0 else 1)

-- each such block may be shaded once, as an index of which no leaf was read
unfoldable pub reads_left : (blocks : ℕ) → Colours → ℕ
reads_left blocks c = 30721 * unmarked_below blocks c.marked + sum_by reads_of c.grey

-- ---- the steps of a collection

-- how many cylinders a sweep passes over
abbrev pub cylinders_of : Collecting → ℕ
cylinders_of k = volume_of k / 64

-- A collection that marks reads leaves and takes rescues, and then condemns. One that sweeps passes over each
-- cylinder twice, and then ends.
abbrev pub left_in : Phase → Collecting → ℕ
left_in phases.Idle k = 0
left_in phases.Marking k =
    reads_left (volume_of k) (colours_in k) + length (waiting_in k) + 2 * cylinders_of k + 4
left_in (phases.Inner cylinder) k = (cylinders_of k - cylinder) + cylinders_of k + 3
left_in (phases.Roots cylinder) k = (cylinders_of k - cylinder) + 2
left_in phases.Swept k = 1

-- how many steps are left, if nothing is rescued
abbrev pub steps_left : Collecting → ℕ
steps_left k = left_in k.phase k

-- how many steps a collection that begins on this many blocks makes at most, beside one for each rescue
abbrev pub most_steps : (blocks : ℕ) → ℕ
most_steps blocks = 30721 * blocks + 2 * (blocks / 64) + 5

-- ---- its events

-- objects vanish once, and then it is finished
abbrev pub events_left : Phase → ℕ
events_left phases.Idle = 0
events_left phases.Marking = 2
events_left (phases.Inner cylinder) = 1
events_left (phases.Roots cylinder) = 1
events_left phases.Swept = 1
