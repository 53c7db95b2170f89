-- What may happen keeps a state well-formed.
use Rattle.std.proofs.Common.{◌≡◌, ℕ, zero, suc, ◌+◌, List, [], ◌∷◌, length, refl, ◌∙◌, ap, subst, arith, Bool, true, false, not, ◌&&◌, ◌||◌, Some, None, Option, map}
use Rattle.ufs_model.proofs.Words.{All, Event, Fill, Grant, Graph, IsGraph, IsInside, IsSpeakable, IsState, Object, Overwrite, Puid, Reply, Request, SetSize, State, after_leave, allowed_if, and_from, and_parts, answered, block_named, by_outcome, changed, conditions, creates, goes_nowhere, goes_through, has_no_grant, has_no_object, has_no_slot, is_among, is_beyond, is_free_root, is_grant_in, is_none, is_open_so, is_out_of_range, is_outcome, is_range, is_running, is_there, leb-false, leb-true, list_all, ltb-false, may_vanish, named, nat_le, nat_lt, new_file, new_index, next, not-false, opening, option_and_then, or_left, or_right, outcome_of, pairs_of, referred, refusal_of, replay_from, retains_nothing, same_puid, same_reply, seen, starts_now, stopped_at, stores_bytes, target, the_file, the_index, with_edge, without, ◌==◌}
use Rattle.ufs_model.specs.Limits.{most_bytes, most_slots}
use Rattle.std.specs.Prelude.{is_some}
use Rattle.cfs_base.specs.declared.kind.Mode.{Mode}
use Rattle.ufs_model.specs.declared.asked.Ref.TheVariants.{Direct}
use Rattle.cfs_base.specs.declared.kind.Mode.TheVariants as modes
use Rattle.ufs_model.specs.declared.asked.Request.TheVariants as asks
use Rattle.ufs_model.specs.declared.asked.Reply.TheVariants as replies
use Rattle.ufs_model.specs.declared.asked.Event.TheVariants as events
use Rattle.ufs_model.specs.declared.collection.Collection.TheVariants as collections
use Rattle.ufs_model.specs.declared.object.Object.TheVariants as objects
use Rattle.ufs_model.proofs.Reached.{same_puid_itself}
use Rattle.ufs_model.specs.Graph.{has_pair, graph_pairs}
use Rattle.ufs_model.specs.State.{draft_pairs}
use Rattle.ufs_model.specs.Refusal.{is_changing, opens_for_writing, is_locked, meets_a_grant, is_reading}
use Rattle.ufs_model.proofs.Reached.{each_pair, all_pairs}
use Rattle.std.proofs.lemmas.List.Folds.{list_any-append}
use Rattle.ufs_model.proofs.Drafts.{draft_open}
use Rattle.ufs_model.proofs.Objects.{new_file_whole, new_index_whole}
use Rattle.ufs_model.proofs.WellGraphs.{taken_keeps}
use Rattle.ufs_model.proofs.WellStates.{beside, Goes, goes, HasNoOther, has_no_other, changed_keeps, created_keeps}
use Rattle.ufs_model.proofs.WellGrants.{granted_keeps, closed_keeps, leave_keeps}
use Rattle.ufs_model.proofs.Vanishing.{may_vanish_meant, root_kept, open_kept, kept_stays}
use Rattle.ufs_model.proofs.Legal.{none_holds}

-- ---- what isn't refused lies within what it goes to

or_none : (a b : Bool) → (a || b) ≡ false → (a ≡ false) × (b ≡ false)
or_none true b h = cc
or_none false b h = (refl, h)

inside_slot : (o : Object) (slot : ℕ) (what : Option Puid) → is_beyond (length (the_index o).slots) (Some slot) ≡ false → IsInside (Fill slot what) o
inside_slot (objects.Index i) slot what h = leb-false (length i.slots) slot h
inside_slot (objects.File f) slot what h = tt

inside_range : (o : Object) (offset : ℕ) (bytes : List ℕ) → not (is_range (length (the_file o).bytes) offset (length bytes)) ≡ false → IsInside (Overwrite offset bytes) o
inside_range (objects.File f) offset bytes h = leb-true (offset + length bytes) (length f.bytes) (and_parts _ (nat_le (offset + length bytes) (length f.bytes)) (not-false _ h)).1
inside_range (objects.Index i) offset bytes h = tt

inside_size : (o : Object) (size : ℕ) → nat_lt most_bytes size ≡ false → IsInside (SetSize size) o
inside_size (objects.File f) size h = ltb-false most_bytes size h
inside_size (objects.Index i) size h = tt

-- ---- the outcome

module _ (s : State) (who : ℕ) (request : Request) (h : IsState s) (none : refusal_of s who request ≡ None) where
  pub unlocked : is_locked s who request ≡ false
  unlocked = none_holds (conditions s who request) 5 (is_locked s who request, replies.Locked) none refl

  pub to : Goes s who (target request)
  to = goes s who (target request) h (none_holds (conditions s who request) 0 (has_no_grant s who request, replies.NoGrant) none refl)
      (or_none (goes_nowhere s (target request)) (retains_nothing s request) (none_holds (conditions s who request) 1 (has_no_object s request, replies.NoObject) none refl)).0

  pub alone : HasNoOther s who (target request)
  alone = has_no_other s who (target request) (is_changing request || opens_for_writing request) h unlocked

  known : retains_nothing s request ≡ false
  known = (or_none (goes_nowhere s (target request)) (retains_nothing s request) (none_holds (conditions s who request) 1 (has_no_object s request, replies.NoObject) none refl)).1

  in_slots : has_no_slot s who request ≡ false
  in_slots = none_holds (conditions s who request) 6 (has_no_slot s who request, replies.Slot) none refl

  pub in_range : is_out_of_range s who request ≡ false
  in_range = none_holds (conditions s who request) 8 (is_out_of_range s who request, replies.Range) none refl

pub outcome_keeps : (seed : ℕ) (s : State) (who : ℕ) (request : Request) (b : ℕ) → IsState s → stores_bytes request ≡ true → refusal_of s who request ≡ None
    → (creates request ≡ true → is_free_root s.graph b ≡ true) → IsState (outcome_of seed s who request b).1
outcome_keeps seed s who (asks.CreateFile kind fill index slot) b h small none free =
    let r = asks.CreateFile kind fill index slot in
    created_keeps seed s who index slot (objects.File (new_file kind fill)) b h (to s who r h none) (alone s who r h none) (inside_slot (seen s who index).object slot None (in_slots s who r h none))
    (new_file_whole kind fill small) (λ x. refl) (free refl)
outcome_keeps seed s who (asks.CreateIndex slots index slot) b h small none free =
    let r = asks.CreateIndex slots index slot in
    let range = or_none (slots == 0) (nat_lt most_slots slots) (in_range s who r h none) in
    created_keeps seed s who index slot (objects.Index (new_index slots)) b h (to s who r h none) (alone s who r h none) (inside_slot (seen s who index).object slot None (in_slots s who r h none))
    (new_index_whole slots range.0 (ltb-false most_slots slots range.1)) (none_referred slots) (free refl)
  where
    none_referred : (n : ℕ) (x : Puid) → is_among x (referred (objects.Index (new_index n))) ≡ false
    none_referred zero x = refl
    none_referred (suc n) x = none_referred n x
outcome_keeps seed s who (asks.Retain index slot id) b h small none free =
    let r = asks.Retain index slot id in
    let c = Fill slot (Some id) in
    let one = changed_keeps s who index c h (to s who r h none) (alone s who r h none) (inside_slot (seen s who index).object slot (Some id) (in_slots s who r h none)) tt (not-false (is_there s.graph id) (known s who r h none)) in
    beside (changed s who index c) (changed s who index c).stopped (with_edge (named s who index) id s.collection) one
outcome_keeps seed s who (asks.Retrieve index slot) b h small none free = h
outcome_keeps seed s who (asks.Delete index slot) b h small none free =
    let r = asks.Delete index slot in
    changed_keeps s who index (Fill slot None) h (to s who r h none) (alone s who r h none) (inside_slot (seen s who index).object slot None (in_slots s who r h none)) tt tt
outcome_keeps seed s who (asks.Slots index) b h small none free = h
outcome_keeps seed s who (asks.OpenFor id mode) b h small none free =
    let r = asks.OpenFor id mode in
    let there = (or_none (goes_nowhere s (target r)) (retains_nothing s r) (none_holds (conditions s who r) 1 (has_no_object s r, replies.NoObject) none refl)).0 in
    granted_keeps seed s who id mode h (not-false (is_there s.graph id) there) (by_mode mode (unlocked s who r h none))
  where
    by_mode : (m : Mode) → is_locked s who (asks.OpenFor id m) ≡ false → meets_a_grant s (not (is_reading m)) (Direct id) ≡ false
    by_mode modes.Reading free = free
    by_mode modes.Writing free = free
outcome_keeps seed s who (asks.Close grant commit) b h small none free = closed_keeps s who grant commit h
outcome_keeps seed s who (asks.Read file offset count) b h small none free = h
outcome_keeps seed s who (asks.Write file offset bytes) b h small none free =
    let r = asks.Write file offset bytes in
    changed_keeps s who file (Overwrite offset bytes) h (to s who r h none) (alone s who r h none) (inside_range (seen s who file).object offset bytes (in_range s who r h none)) small tt
outcome_keeps seed s who (asks.Size file) b h small none free = h
outcome_keeps seed s who (asks.Resize file size) b h small none free =
    let r = asks.Resize file size in
    changed_keeps s who file (SetSize size) h (to s who r h none) (alone s who r h none) (inside_size (seen s who file).object size (in_range s who r h none)) tt tt

-- ---- an answer

allowed_is : (b : Bool) (s t : State) → allowed_if b s ≡ Some t → (b ≡ true) × (s ≡ t)
allowed_is true s t h = (refl, cc)
allowed_is false s t h = cc

none_is : (o : Option Reply) → is_none o ≡ true → o ≡ None
none_is None h = refl
none_is (Some r) h = cc

free_where_created : (a b : Bool) → (not a || b) ≡ true → a ≡ true → b ≡ true
free_where_created true b h is = h
free_where_created false b h is = cc

module _ (seed : ℕ) (s t : State) (who : ℕ) (request : Request) (h : IsState s) (small : stores_bytes request ≡ true) where
  same : (b : Bool) → allowed_if b s ≡ Some t → IsState t
  same b e = subst IsState (allowed_is b s t e).1 h

  stops : (b : Bool) (moment : ℕ) → allowed_if b (stopped_at moment s) ≡ Some t → IsState t
  stops b moment e = subst IsState (allowed_is b (stopped_at moment s) t e).1 (beside s (Some moment) s.collection h)

  done : (reply : Reply) → by_outcome seed s who request reply ≡ Some t → IsState t
  done reply e =
      let two = allowed_is (is_outcome seed s who request reply) (outcome_of seed s who request (block_named reply)).1 t e in
      let tests = and_parts _ (same_reply (outcome_of seed s who request (block_named reply)).0 reply) two.0 in
      let more = and_parts (goes_through s who request) (not (creates request) || is_free_root s.graph (block_named reply)) tests.0 in
      let none = none_is (refusal_of s who request) (and_parts (is_running s) (is_none (refusal_of s who request)) more.0).1 in
      subst IsState two.1 (outcome_keeps seed s who request (block_named reply) h small none (free_where_created (creates request) _ more.1))

  answered_keeps : (reply : Reply) → answered seed s who request reply ≡ Some t → IsState t
  answered_keeps replies.Memory e = let is : s ≡ t = cc in subst IsState is h
  answered_keeps (replies.Stopped moment) e = same _ e
  answered_keeps (replies.Disk None) e = same _ e
  answered_keeps (replies.Disk (Some moment)) e = stops _ moment e
  answered_keeps (replies.Damaged damage moment) e = stops _ moment e
  answered_keeps (replies.Full n) e = same _ e
  answered_keeps replies.NoGrant e = same _ e
  answered_keeps replies.NoObject e = same _ e
  answered_keeps replies.NotIndex e = same _ e
  answered_keeps replies.NotFile e = same _ e
  answered_keeps replies.ReadOnly e = same _ e
  answered_keeps replies.Locked e = same _ e
  answered_keeps replies.Slot e = same _ e
  answered_keeps replies.Empty e = same _ e
  answered_keeps replies.Range e = same _ e
  answered_keeps replies.Grants e = same _ e
  answered_keeps replies.Done e = done replies.Done e
  answered_keeps (replies.Id id) e = done (replies.Id id) e
  answered_keeps (replies.Grant t) e = done (replies.Grant t) e
  answered_keeps (replies.Number n) e = done (replies.Number n) e
  answered_keeps (replies.Content bytes) e = done (replies.Content bytes) e

-- ---- a collection takes some

vanished : (s : State) (ids : List Puid) → IsState s → may_vanish s ids ≡ true → IsState (record s { graph = without s.graph ids; collection = collections.Sweeping })
vanished s ids h test =
    let may = may_vanish_meant s ids h test in
    record {
      graph = taken_keeps s.graph ids h.graph (may.none_kept s.graph.root (root_kept s)) (λ i x own. may.none_referred i x (or_left_pair i x own));
      grants = open_still s.grants (λ x at. may.none_kept x (open_kept s x at)) h.grants;
      closed = all_pairs (λ _. is_there (without s.graph ids)) (draft_pairs s.grants) (λ i x pair.
          let stays = may.none_referred i x (or_right_pair i x pair) (may.none_kept i (open_kept s i (draft_open s.grants i x pair))) in
          ap is_some (kept_stays s.graph ids x stays) ∙ each_pair (λ _. is_there s.graph) (draft_pairs s.grants) i x h.closed pair);
      alone = h.alone;
      rising = h.rising;
      drawn = h.drawn;
    }
  where
    both : (i x : Puid) → has_pair (pairs_of s) i x ≡ (has_pair (graph_pairs s.graph) i x || has_pair (draft_pairs s.grants) i x)
    both i x = list_any-append (λ (e : Puid × Puid). same_puid i e.0 && same_puid x e.1) (graph_pairs s.graph) (draft_pairs s.grants)

    or_left_pair : (i x : Puid) → has_pair (graph_pairs s.graph) i x ≡ true → has_pair (pairs_of s) i x ≡ true
    or_left_pair i x h = both i x ∙ or_left _ (has_pair (draft_pairs s.grants) i x) h

    or_right_pair : (i x : Puid) → has_pair (draft_pairs s.grants) i x ≡ true → has_pair (pairs_of s) i x ≡ true
    or_right_pair i x h = both i x ∙ or_right (has_pair (graph_pairs s.graph) i x) _ h

    open_still : (gs : List Grant) → ((x : Puid) → is_among x (map (λ (g : Grant). g.id) gs) ≡ true → is_among x ids ≡ false) → list_all (is_grant_in s.graph) gs ≡ true → list_all (is_grant_in (without s.graph ids)) gs ≡ true
    open_still [] stays all = refl
    open_still (g ∷ gs) stays all =
        let two = and_parts (is_grant_in s.graph g) (list_all (is_grant_in s.graph) gs) all in
        and_from (is_grant_in (without s.graph ids) g) (list_all (is_grant_in (without s.graph ids)) gs)
        (ap (λ o. is_open_so o g.draft) (kept_stays s.graph ids g.id (stays g.id (or_left (same_puid g.id g.id) _ (same_puid_itself g.id)))) ∙ two.0)
        (open_still gs (λ x at. stays x (or_right (same_puid x g.id) _ at)) two.1)

-- ---- any event, and a run

pub next_keeps : (seed : ℕ) (s t : State) (event : Event) → IsState s → IsSpeakable event → next seed s event ≡ Some t → IsState t
next_keeps seed s t (events.Unread who why) h small e = let is : s ≡ t = cc in subst IsState is h
next_keeps seed s t (events.Ask who request reply) h small e = answered_keeps seed s t who request h small reply e
next_keeps seed s t (events.Leave who None) h small e = let is : after_leave s who ≡ t = cc in subst IsState is (leave_keeps s who h)
next_keeps seed s t (events.Leave who (Some moment)) h small e =
    subst IsState (allowed_is (is_running s) (stopped_at moment (after_leave s who)) t e).1 (beside (after_leave s who) (Some moment) s.collection (leave_keeps s who h))
next_keeps seed s t events.Began h small e = subst IsState (allowed_is _ (record s { collection = collections.Marking (pairs_of s) (starts_now s) }) t e).1 (beside s s.stopped _ h)
next_keeps seed s t (events.Vanish ids) h small e =
    let two = allowed_is (is_running s && may_vanish s ids) (record s { graph = without s.graph ids; collection = collections.Sweeping }) t e in
    subst IsState two.1 (vanished s ids h (and_parts (is_running s) (may_vanish s ids) two.0).1)
next_keeps seed s t events.Finished h small e = subst IsState (allowed_is _ (record s { collection = collections.None }) t e).1 (beside s s.stopped collections.None h)
next_keeps seed s t (events.Halted moment) h small e = subst IsState (allowed_is (is_running s) (stopped_at moment s) t e).1 (beside s (Some moment) s.collection h)

pub run_keeps : (seed : ℕ) (s t : State) (trail : List Event) → IsState s → All IsSpeakable trail → replay_from seed s trail ≡ Some t → IsState t
run_keeps seed s t [] h all e = let is : s ≡ t = cc in subst IsState is h
run_keeps seed s t (event ∷ events) h all e =
    elim (next seed s event) as (λ o. next seed s event ≡ o → option_and_then (λ m. replay_from seed m events) o ≡ Some t → IsState t) [
      | None ↦ λ is e. cc
      | Some m ↦ λ is e. run_keeps seed m t events (next_keeps seed s m event h (all 0 event (omega arith)) is) (λ k d lt. all (suc k) d (omega arith)) e
    ] refl e

pub opening_state : (g : Graph) → IsGraph g → IsState (opening g)
opening_state g h = record { graph = h; grants = refl; closed = refl; alone = refl; rising = refl; drawn = refl }
