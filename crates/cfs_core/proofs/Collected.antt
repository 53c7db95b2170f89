-- How the collector keeps up with what is asked, and with what a session's end drops.
use Rattle.std.proofs.Common.{◌≡◌, inl, ℕ, ◌+◌, ◌*◌, ◌/◌, List, [], ◌∷◌, ◌++◌, Bool, true, false, not, ◌||◌, cond, Option, Some, None, is_none, refl, sym, ◌∙◌, ap, subst, arith, append-nil}
use Rattle.cfs_core.proofs.Words.{allowed, and_parts, ask_changes, block_named, both_ways, by_outcome, Changes, changes_keep, Collecting, Collection, Colours, colours_in, colours_of, creates, false_from_ne_true, Image, is_free_root, is_marking, is_outcome, is_root, is_taken, IsAsBefore, IsCollecting, IsMarking, IsOfPart, IsPaced, IsState, IsSwept, AreStepsWithin, MapEntry, next, Puid}
use Rattle.cfs_core.proofs.Words.{NoInner, NoStray, outcome_leaves, outcome_of, pace_change, Phase, refusal_of, Reply, Request, Rescue, rescues_of, same_reply, State, stopped_at, volume_of, waiting_in, well}
use Rattle.collector_marks.specs.Kept.{blocks_marked}
use Rattle.marking.specs.Colours.{draft_over}
use Rattle.marking.specs.Pace.{added_with}
use Rattle.collector_steps.specs.declared.phase.Phase.TheVariants as phases
use Rattle.ufs_model.specs.declared.asked.Event.TheVariants as events
use Rattle.ufs_model.specs.declared.asked.Reply.TheVariants as replies
use Rattle.ufs_model.specs.declared.collection.Collection.TheVariants as collections
use Rattle.cfs_core.specs.Calls.{AddsNoStray}
use Rattle.cfs_core.specs.Kernel.{marks_in, sweeps_in}
use Rattle.cfs_core.specs.Rescues.{AreRescued, HasRescued, all_ended, ended_by, while_marking}
use Rattle.cfs_core.specs.StandsFor.{HasCollection, HasCollector, sweeps_now}
use Rattle.cfs_core.proofs.DraftEnds.{AreOver, all_ended_keep, all_ended_pace, over_asked}
use Rattle.cfs_core.proofs.Serving.{none_more}

-- ---- no request moves a collection on

pub none_is : (c : Collection) → is_marking c ≡ false → sweeps_now c ≡ false → c ≡ collections.None
none_is collections.None m w = refl
none_is (collections.Marking edges starts) m w = cc
none_is collections.Sweeping m w = cc

pub same_some : (a b : State) → Some a ≡ Some b → a ≡ b
same_some a b is = cc

none_from : (o : Option Reply) → is_none o ≡ true → o ≡ None
none_from None is = refl
none_from (Some r) is = cc

module _ (test : Collection → Bool) (tells : IsOfPart test) (seed : ℕ) (s : State) (state : IsState s) (who : ℕ) where
  abbrev pub IsKept : State → Type 0
  IsKept t = test t.collection ≡ test s.collection

  same : (t : State) → s ≡ t → IsKept t
  same t is = subst IsKept is refl

  by : (request : Request) (reply : Reply) (t : State) → by_outcome seed s who request reply ≡ Some t → IsKept t
  by request reply t is =
      let two = allowed (is_outcome seed s who request reply) (outcome_of seed s who request (block_named reply)).1 t is in
      let said = and_parts _ (same_reply (outcome_of seed s who request (block_named reply)).0 reply) two.0 in
      let free = and_parts _ (not (creates request) || is_free_root s.graph (block_named reply)) said.0 in
      let none = and_parts (is_none s.stopped) (is_none (refusal_of s who request)) free.0 in
      subst IsKept two.1 ((outcome_leaves seed s who state request (block_named reply) (none_from (refusal_of s who request) none.1)
      (λ makes. subst (λ (b : Bool). (not b || is_free_root s.graph (block_named reply)) ≡ true) makes free.1)).part test tells)

  pub part_stays : (request : Request) (reply : Reply) (t : State) → next seed s (events.Ask who request reply) ≡ Some t → IsKept t
  part_stays request replies.Done t h = by request replies.Done t h
  part_stays request (replies.Id id) t h = by request (replies.Id id) t h
  part_stays request (replies.Grant u) t h = by request (replies.Grant u) t h
  part_stays request (replies.Number n) t h = by request (replies.Number n) t h
  part_stays request (replies.Content bytes) t h = by request (replies.Content bytes) t h
  part_stays request replies.Memory t h = same t (same_some s t h)
  part_stays request (replies.Stopped moment) t h = same t (allowed _ s t h).1
  part_stays request (replies.Disk None) t h = same t (allowed _ s t h).1
  part_stays request (replies.Disk (Some moment)) t h = subst IsKept (allowed _ (stopped_at moment s) t h).1 refl
  part_stays request (replies.Damaged damage moment) t h = subst IsKept (allowed _ (stopped_at moment s) t h).1 refl
  part_stays request (replies.Full n) t h = same t (allowed _ s t h).1
  part_stays request reply t h = same t (allowed _ s t h).1

-- ---- one collector

-- Where the state changes so while a collection marks, and no block of an object that is gone is added, the collector keeps
-- up by these rescues, and where it reads no draft of these objects, of which none is left.
module _ (a b : Image) (s t : State) (more : List Rescue) (over : List Puid) (marked : is_marking t.collection ≡ is_marking s.collection) (swept : sweeps_now t.collection ≡ sweeps_now s.collection) (strays : AddsNoStray a b s.graph t.graph)
    (changes : is_marking s.collection ≡ true → Changes s t more) (none : AreOver t over) where
  inner_on : (n : ℕ) → NoInner a s.graph n → NoInner b t.graph n
  inner_on n none = λ m below stray. let two = strays m stray in subst (λ (e : Option MapEntry). is_root is_taken e ≡ true) (sym two.0) (none m below two.1)

  stray_on : (n : ℕ) → NoStray a s.graph n → NoStray b t.graph n
  stray_on n none = λ m below. false_from_ne_true _ (λ stray. both_ways _ (none m below) (strays m stray).1)

  swept_on : IsSwept a s.graph → IsSwept b t.graph
  swept_on is = record { none = λ m. false_from_ne_true _ (λ stray. both_ways _ (is.none m) (strays m stray).1) }

  module _ (k l : Collecting) (rescued : HasRescued k l more over) (has : HasCollector a s k) where
    within : (n : ℕ) → while_marking k more ≡ [] → AreStepsWithin k n → AreStepsWithin l n
    within n none is = λ few.
        let added : l.added ≡ k.added = rescued.added ∙ ap (λ (m : List Rescue). added_with m k.added) none in
        let now = is (omega (arith, few, added)) in omega (arith, now, added, rescued.steps, rescued.volume)

    on : (p : Phase) → k.phase ≡ p → IsCollecting p a s k → IsCollecting p b t l
    on phases.Idle is holds = tt
    on phases.Marking is holds =
        let change = changes (has.marking ∙ ap marks_in is) in
        let these : while_marking k more ≡ more = ap (λ p. cond (marks_in p) more []) is in
        let waiting : waiting_in l ≡ waiting_in k ++ more = rescued.waiting ∙ ap (λ m. waiting_in k ++ m) these in
        let added : l.added ≡ added_with more k.added = rescued.added ∙ ap (λ m. added_with m k.added) these in
        let paced = all_ended_pace t over (colours_in k) (waiting_in k ++ more) (volume_of k) k.steps (added_with more k.added)
        (pace_change s t (colours_in k) more (waiting_in k) (volume_of k) k.steps k.added (change.leaves (colours_in k)) (change.unread (colours_in k)) holds.1) in (
          subst (λ (c : Colours). IsMarking t c (waiting_in l)) (sym rescued.colours) (all_ended_keep t over none (colours_in k) (waiting_in l)
              (subst (λ (w : List Rescue). IsMarking t (colours_in k) w) (sym waiting) (changes_keep s t more change (colours_in k) (waiting_in k) holds.0))),
          subst (λ (c : Colours). IsPaced t c (waiting_in l) (volume_of l) l.steps l.added) (sym rescued.colours)
              (subst (λ (w : List Rescue). IsPaced t (all_ended over (colours_in k)) w (volume_of l) l.steps l.added) (sym waiting)
              (subst (λ (v : ℕ). IsPaced t (all_ended over (colours_in k)) (waiting_in k ++ more) v l.steps l.added) (sym rescued.volume)
              (subst (λ (n : ℕ). IsPaced t (all_ended over (colours_in k)) (waiting_in k ++ more) (volume_of k) n l.added) (sym rescued.steps)
              (subst (λ (n : ℕ). IsPaced t (all_ended over (colours_in k)) (waiting_in k ++ more) (volume_of k) k.steps n) (sym added) paced)))),
        )
    on (phases.Inner cylinder) is holds = (inner_on cylinder holds.0, within (2 + cylinder) (ap (λ p. cond (marks_in p) more []) is) holds.1)
    on (phases.Roots cylinder) is holds =
        let volume = rescued.volume in
        subst (λ (v : ℕ). NoInner b t.graph (v / 64) × (NoStray b t.graph cylinder × AreStepsWithin l (2 + v / 64 + cylinder))) (sym volume)
        (inner_on (volume_of k / 64) holds.0, (stray_on cylinder holds.1.0, within (2 + volume_of k / 64 + cylinder) (ap (λ p. cond (marks_in p) more []) is) holds.1.1))
    on phases.Swept is holds =
        subst (λ (v : ℕ). IsSwept b t.graph × AreStepsWithin l (2 + 2 * (v / 64))) (sym rescued.volume)
        (swept_on holds.0, within (2 + 2 * (volume_of k / 64)) (ap (λ p. cond (marks_in p) more []) is) holds.1)

    collector_on : HasCollector b t l
    collector_on = record {
      marking = marked ∙ has.marking ∙ ap marks_in (sym rescued.phase);
      sweeping = swept ∙ has.sweeping ∙ ap sweeps_in (sym rescued.phase);
      collects = subst (λ p. IsCollecting p b t l) (sym rescued.phase) (on k.phase refl has.collects);
    }

  pub collection_on : (o p : Option Collecting) → AreRescued o p more over → HasCollection a s o → HasCollection b t p
  collection_on None None rescued idle = none_is t.collection (marked ∙ ap is_marking idle) (swept ∙ ap sweeps_now idle)
  collection_on (Some k) (Some l) rescued has = collector_on k l rescued has
  collection_on None (Some l) rescued has = absurd rescued
  collection_on (Some k) None rescued has = absurd rescued

-- ---- what is asked

pub collection_asked : (a b : Image) (seed : ℕ) (s t : State) (who : ℕ) (request : Request) (reply : Reply) → next seed s (events.Ask who request reply) ≡ Some t → IsState s → AddsNoStray a b s.graph t.graph
    → (o p : Option Collecting) → AreRescued o p (rescues_of s who request reply) (ended_by s who request reply) → HasCollection a s o → HasCollection b t p
collection_asked a b seed s t who request reply step state strays o p rescued has =
    collection_on a b s t (rescues_of s who request reply) (ended_by s who request reply) (part_stays is_marking (λ a b c d. refl) seed s state who request reply t step) (part_stays sweeps_now (λ a b c d. refl) seed s state who request reply t step) strays
    (λ marking. ask_changes seed s (well s state) marking who request reply t step) (over_asked seed s t who request reply step state) o p rescued has

-- nothing is rescued, and nothing moves
no_more : (m : Bool) (ws : List Rescue) → ws ≡ ws ++ cond m [] []
no_more true ws = sym (append-nil ws)
no_more false ws = sym (append-nil ws)

none_added : (m : Bool) (n : ℕ) → n ≡ added_with (cond m [] []) n
none_added true n = refl
none_added false n = refl

pub as_before : (k l : Collecting) → IsAsBefore k l → HasRescued k l [] []
as_before k l same = record {
  volume = ap blocks_marked same.marks;
  colours = ap colours_of same.marks;
  phase = same.phase;
  steps = same.steps;
  waiting = same.rescues ∙ no_more (marks_in k.phase) (waiting_in k);
  added = same.added ∙ none_added (marks_in k.phase) k.added;
}

pub same_rescued : (o : Option Collecting) → AreRescued o o [] []
same_rescued None = tt
same_rescued (Some k) = as_before k k (record { marks = refl; rescues = refl; phase = refl; steps = refl; added = refl })

-- room was made first
pub rescued_after : (o p q : Option Collecting) (more : List Rescue) (over : List Puid) → AreRescued o p [] [] → AreRescued p q more over → AreRescued o q more over
rescued_after None None None more over ready rescued = tt
rescued_after (Some k) (Some l) (Some m) more over ready rescued = record {
  volume = rescued.volume ∙ ready.volume;
  colours = rescued.colours ∙ ap (all_ended over) ready.colours;
  phase = rescued.phase ∙ ready.phase;
  steps = rescued.steps ∙ ready.steps;
  waiting = rescued.waiting ∙ ap (λ ws. ws ++ while_marking l more) (ready.waiting ∙ sym (no_more (marks_in k.phase) (waiting_in k))) ∙ ap (λ p. waiting_in k ++ cond (marks_in p) more []) ready.phase;
  added = rescued.added ∙ ap (added_with (while_marking l more)) (ready.added ∙ sym (none_added (marks_in k.phase) k.added)) ∙ ap (λ p. added_with (cond (marks_in p) more []) k.added) ready.phase;
}
rescued_after None None (Some m) more over ready rescued = absurd rescued
rescued_after None (Some l) q more over ready rescued = absurd ready
rescued_after (Some k) None q more over ready rescued = absurd ready
rescued_after (Some k) (Some l) None more over ready rescued = absurd rescued

-- and drafts that ended last
pub ended_after : (o p q : Option Collecting) (more : List Rescue) (over : List Puid) → AreRescued o p more [] → AreRescued p q [] over → AreRescued o q more over
ended_after None None None more over rescued ends = tt
ended_after (Some k) (Some l) (Some m) more over rescued ends = record {
  volume = ends.volume ∙ rescued.volume;
  colours = ends.colours ∙ ap (all_ended over) rescued.colours;
  phase = ends.phase ∙ rescued.phase;
  steps = ends.steps ∙ rescued.steps;
  waiting = ends.waiting ∙ sym (no_more (marks_in l.phase) (waiting_in l)) ∙ rescued.waiting;
  added = ends.added ∙ sym (none_added (marks_in l.phase) l.added) ∙ rescued.added;
}
ended_after None None (Some m) more over rescued ends = absurd ends
ended_after None (Some l) q more over rescued ends = absurd rescued
ended_after (Some k) None q more over rescued ends = absurd rescued
ended_after (Some k) (Some l) None more over rescued ends = absurd ends

both_ended : (xs ys : List Puid) (c : Colours) → all_ended (xs ++ ys) c ≡ all_ended ys (all_ended xs c)
both_ended [] ys c = refl
both_ended (x ∷ xs) ys c = both_ended xs ys (draft_over x c)

-- more drafts that ended
pub ended_then : (o p q : Option Collecting) (xs ys : List Puid) → AreRescued o p [] xs → AreRescued p q [] ys → AreRescued o q [] (xs ++ ys)
ended_then None None None xs ys one two = tt
ended_then (Some k) (Some l) (Some m) xs ys one two = record {
  volume = two.volume ∙ one.volume;
  colours = two.colours ∙ ap (all_ended ys) one.colours ∙ sym (both_ended xs ys (colours_in k));
  phase = two.phase ∙ one.phase;
  steps = two.steps ∙ one.steps;
  waiting = two.waiting ∙ sym (no_more (marks_in l.phase) (waiting_in l)) ∙ one.waiting;
  added = two.added ∙ sym (none_added (marks_in l.phase) l.added) ∙ one.added;
}
ended_then None None (Some m) xs ys one two = absurd two
ended_then None (Some l) q xs ys one two = absurd one
ended_then (Some k) None q xs ys one two = absurd one
ended_then (Some k) (Some l) None xs ys one two = absurd two

-- no change
unchanged : (s : State) → Changes s s []
unchanged s = record {
  root = refl;
  kinds = λ x kind h. h;
  found = λ from place x h. inl (record { before = place; earlier = omega arith; there = h });
  rescues = λ index x w. absurd w;
  memory = λ index x h. h;
  leaves = λ c. omega arith;
  unread = λ c. omega arith;
}

pub collection_ready : (image : Image) (s : State) (o p : Option Collecting) → AreRescued o p [] [] → HasCollection image s o → HasCollection image s p
collection_ready image s o p ready has =
    collection_on image image s s [] [] refl refl (none_more image image s.graph refl) (λ marking. unchanged s) tt o p ready has
