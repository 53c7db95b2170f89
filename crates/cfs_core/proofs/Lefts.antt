-- How much the collections that were called for have left: a step takes from it, and a request adds one step at most.
use Rattle.std.proofs.Common.{◌≡◌, ℕ, ◌+◌, ◌*◌, ◌/◌, ◌<◌, ◌≤◌, List, [], ◌∷◌, length, Bool, true, false, cond, ◌||◌, Option, Some, None, refl, sym, ◌∙◌, ap, subst, arith, add-mul, one-mul, length-append, option_to_list, nat_lt, IfSome}
use Rattle.cfs_core.proofs.Words.{Collecting, Colours, colours_in, IsPhaseOf, Pass, Phase, Puid, Rescue, events_left, left_in, most_steps, next_phase, reads_left, steps_left, volume_of, waiting_in}
use Rattle.collector_steps.specs.declared.phase.Phase.TheVariants as phases
use Rattle.ufs_model.specs.declared.asked.Event.{Event}
use Rattle.ufs_model.specs.declared.asked.Event.TheVariants as events
use Rattle.cfs_core.specs.declared.collecting.Collections.{Collections}
use Rattle.cfs_core.specs.declared.collecting.Step.{Step}
use Rattle.cfs_core.specs.declared.collecting.Step.TheVariants as steps
use Rattle.cfs_core.specs.Kernel.{AreCollections, marks_in, collection_runs, sweeps_in}
use Rattle.cfs_core.specs.Left.{AddsNone, AddsOne, LeavesFewer, RunsBy, events_due, steps_of, to_begin}
use Rattle.cfs_core.specs.Rescues.{AreRescued, HasRescued, all_ended, while_marking}
use Rattle.collector_steps.proofs.Lefts.{ended_less}
use Rattle.marking.specs.Colours.{draft_over}

-- ---- a step

-- nothing is left of a collection that doesn't run
at_rest : (o : Option Collecting) → collection_runs o ≡ false → (steps_of o ≡ 0) × (events_due o ≡ 0)
at_rest None none = (refl, refl)
at_rest (Some k) none = by k.phase refl none
  where
    by : (p : Phase) → k.phase ≡ p → (marks_in k.phase || sweeps_in k.phase) ≡ false → (steps_left k ≡ 0) × (events_left k.phase ≡ 0)
    by phases.Idle is none = (ap (λ q. left_in q k) is, ap events_left is)
    by phases.Marking is none = let no : true ≡ false = ap (λ q. marks_in q || sweeps_in q) (sym is) ∙ none in cc
    by (phases.Inner c) is none = let no : true ≡ false = ap (λ q. marks_in q || sweeps_in q) (sym is) ∙ none in cc
    by (phases.Roots c) is none = let no : true ≡ false = ap (λ q. marks_in q || sweeps_in q) (sym is) ∙ none in cc
    by phases.Swept is none = let no : true ≡ false = ap (λ q. marks_in q || sweeps_in q) (sym is) ∙ none in cc

-- with one that runs, or none
count_of : (b : Bool) (c : Collections) → collection_runs c.collector ≡ b → cond {A = ℕ} (collection_runs c.collector) 1 0 ≡ cond b 1 0
count_of b c is = ap {B = ℕ} (λ r. cond r 1 0) is

-- that of a collection that runs, and runs on
pub goes_within : (blocks : ℕ) (c d : Collections) (step : Step) (event : Option Event) → d.called ≡ c.called → d.finished ≡ c.finished → collection_runs c.collector ≡ true → collection_runs d.collector ≡ true → RunsBy step true true
    → steps_of d.collector < steps_of c.collector → events_due d.collector + length (option_to_list event) ≡ events_due c.collector → LeavesFewer blocks c d step event
goes_within blocks c d step event called finished before after by less events =
    let same : to_begin d ≡ to_begin c = omega (arith, called, finished, count_of true c before, count_of true d after) in
    let steps = ap (λ n. n * most_steps blocks) same in
    record {
      runs_by = rw (before, after) by;
      fewer = λ no. omega (arith, steps, less);
      events = omega (arith, same, events);
    }

-- a collection begins
pub goes_begun : (blocks : ℕ) (c d : Collections) (l : Collecting) → d.called ≡ c.called → d.finished ≡ c.finished → collection_runs c.collector ≡ false → c.finished < c.called → d.collector ≡ Some l → l.phase ≡ phases.Marking
    → steps_left l < most_steps blocks → LeavesFewer blocks c d steps.Began (Some events.Began)
goes_begun blocks c d l called finished before more there phase less =
    let now : collection_runs d.collector ≡ true = ap collection_runs there ∙ ap (λ p. marks_in p || sweeps_in p) phase in
    let rest = at_rest c.collector before in
    let one : to_begin c ≡ to_begin d + 1 = omega (arith, called, finished, more, count_of false c before, count_of true d now) in
    let steps = ap (λ n. n * most_steps blocks) one ∙ add-mul (to_begin d) 1 (most_steps blocks) in
    let its = ap steps_of there in
    let events : events_due d.collector ≡ 2 = ap events_due there ∙ ap events_left phase in
    record {
      runs_by = (before, now);
      fewer = λ no. omega (arith, steps, one-mul (most_steps blocks), its, less, rest.0);
      events = omega (arith, one, events, rest.1);
    }

-- and ends
pub goes_ended : (blocks : ℕ) (c d : Collections) (k l : Collecting) → d.called ≡ c.called → d.finished ≡ c.finished + 1 → c.collector ≡ Some k → d.collector ≡ Some l → k.phase ≡ phases.Swept → l.phase ≡ phases.Idle
    → LeavesFewer blocks c d steps.Finished (Some events.Finished)
goes_ended blocks c d k l called finished was there swept idle =
    let before : collection_runs c.collector ≡ true = ap collection_runs was ∙ ap (λ p. marks_in p || sweeps_in p) swept in
    let now : collection_runs d.collector ≡ false = ap collection_runs there ∙ ap (λ p. marks_in p || sweeps_in p) idle in
    let rest = at_rest d.collector now in
    let same : to_begin d ≡ to_begin c = omega (arith, called, finished, count_of true c before, count_of false d now) in
    let steps = ap (λ n. n * most_steps blocks) same in
    let last : steps_of c.collector ≡ 1 = ap steps_of was ∙ ap (λ p. left_in p k) swept in
    let events : events_due c.collector ≡ 1 = ap events_due was ∙ ap events_left swept in
    record {
      runs_by = (before, now);
      fewer = λ no. omega (arith, steps, last, rest.0);
      events = omega (arith, same, events, rest.1);
    }

-- a sweep that goes on is one still
pub events_swept : (cylinders : ℕ) (pass : Pass) (p : Phase) → IsPhaseOf pass p → events_left (next_phase cylinders p) ≡ events_left p
events_swept cylinders pass phases.Idle of = absurd of
events_swept cylinders pass phases.Marking of = absurd of
events_swept cylinders pass (phases.Inner c) of = elim (nat_lt (c + 1) cylinders) as (λ b. events_left (cond b (phases.Inner (c + 1)) (phases.Roots 0)) ≡ 1) [ true ↦ refl | false ↦ refl ]
events_swept cylinders pass (phases.Roots c) of = elim (nat_lt (c + 1) cylinders) as (λ b. events_left (cond b (phases.Roots (c + 1)) phases.Swept) ≡ 1) [ true ↦ refl | false ↦ refl ]
events_swept cylinders pass phases.Swept of = absurd of

-- ---- a request

few_wait : (b : Bool) (more : List Rescue) → length (cond b more []) ≤ length more
few_wait true more = omega arith
few_wait false more = omega arith

all_ended_less : (blocks : ℕ) (over : List Puid) (c : Colours) → reads_left blocks (all_ended over c) ≤ reads_left blocks c
all_ended_less blocks [] c = omega arith
all_ended_less blocks (id ∷ ids) c = omega (arith, ended_less blocks id c, all_ended_less blocks ids (draft_over id c))

rescued_left : (k l : Collecting) (more : List Rescue) (over : List Puid) → HasRescued k l more over → steps_left l ≤ steps_left k + length more
rescued_left k l more over is = subst (λ p. left_in p l ≤ left_in k.phase k + length more) (sym is.phase) (at k.phase)
  where
    volume : volume_of l ≡ volume_of k
    volume = is.volume

    at : (p : Phase) → left_in p l ≤ left_in p k + length more
    at phases.Idle = omega arith
    at phases.Marking =
        let waits = ap length is.waiting ∙ length-append (waiting_in k) (while_marking k more) in
        let few = few_wait (marks_in k.phase) more in
        let cylinders = ap (λ (n : ℕ). n / 64) is.volume in
        let reads = ap (λ (n : ℕ). reads_left n (colours_in l)) is.volume ∙ ap (reads_left (volume_of k)) is.colours in
        omega (arith, waits, few, cylinders, reads, all_ended_less (volume_of k) over (colours_in k))
    at (phases.Inner c) = omega (arith, volume)
    at (phases.Roots c) = omega (arith, volume)
    at phases.Swept = omega arith

rescued_runs : (o p : Option Collecting) (more : List Rescue) (over : List Puid) → AreRescued o p more over → (collection_runs p ≡ collection_runs o) × (steps_of p ≤ steps_of o + length more) × (events_due p ≡ events_due o)
rescued_runs None None more over is = (refl, omega arith, refl)
rescued_runs (Some k) (Some l) more over is = (ap (λ p. marks_in p || sweeps_in p) is.phase, rescued_left k l more over is, ap events_left is.phase)
rescued_runs None (Some l) more over is = absurd is
rescued_runs (Some k) None more over is = absurd is

pub adds_one : (blocks : ℕ) (c d : Collections) (more : List Rescue) (over : List Puid) → AreRescued c.collector d.collector more over → d.called ≡ c.called → d.finished ≡ c.finished → length more ≤ 1 → AddsOne blocks c d
adds_one blocks c d more over is called finished few =
    let three = rescued_runs c.collector d.collector more over is in
    let same : to_begin d ≡ to_begin c = omega (arith, called, finished, ap {B = ℕ} (λ r. cond r 1 0) three.0) in
    let steps = ap (λ n. n * most_steps blocks) same in
    record { running = three.0; more = omega (arith, steps, three.1, few); events = omega (arith, same, three.2) }

-- the collector is one of the volume still
pub kept_told : (room : ℕ) (c d : Collections) (more : List Rescue) (over : List Puid) → AreRescued c.collector d.collector more over → d.called ≡ c.called → d.finished ≡ c.finished → AreCollections room c → AreCollections room d
kept_told room c d more over told called finished kept = record {
  volume = at c.collector d.collector told kept.volume;
  few = omega (arith, kept.few, called, finished, ap {B = ℕ} (λ r. cond r 1 0) (rescued_runs c.collector d.collector more over told).0);
}
  where
    at : (o p : Option Collecting) → AreRescued o p more over → IfSome o (λ k. volume_of k ≡ room) → IfSome p (λ k. volume_of k ≡ room)
    at None None told is = tt
    at (Some k) (Some l) told is = told.volume ∙ is
    at None (Some l) told is = absurd told
    at (Some k) None told is = absurd told

-- nothing is rescued
pub adds_nothing : (blocks : ℕ) (c d : Collections) (over : List Puid) → AreRescued c.collector d.collector [] over → d.called ≡ c.called → d.finished ≡ c.finished → AddsNone blocks c d
adds_nothing blocks c d over is called finished =
    let three = rescued_runs c.collector d.collector [] over is in
    let same : to_begin d ≡ to_begin c = omega (arith, called, finished, ap {B = ℕ} (λ r. cond r 1 0) three.0) in
    let steps = ap (λ n. n * most_steps blocks) same in
    record { running = three.0; no_more = omega (arith, steps, three.1); events = omega (arith, same, three.2) }

pub adds_none : (blocks : ℕ) (c : Collections) → AddsOne blocks c c
adds_none blocks c = record { running = refl; more = omega arith; events = refl }

pub at_most_one : {A : Type 0} (o : Option A) → length (option_to_list o) ≤ 1
at_most_one None = omega arith
at_most_one (Some x) = omega arith
