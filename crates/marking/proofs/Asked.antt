-- Whatever is asked and answered is such a change.
use Rattle.std.proofs.Common.{◌≡◌, ℕ, ◌==◌, List, [], refl, sym, ◌∙◌, ap, subst, Bool, true, false, cond, ◌||◌, not, Option, Some, None}
use Rattle.marking.proofs.Words.{Changes, Fill, Overwrite, Puid, Ref, Reply, Request, Rescue, SetSize, State, Tuid, after_leave, allowed_if, and_parts, block_named, by_outcome, changed_draft, changed_object, creates, eqb-true, has_no_grant, has_no_object, is_carried_out, is_free_root, is_marking, is_none, is_outcome, is_there, new_file, new_index, next, outcome_of, refusal_of, rescues_of, same_Some, same_reply, seen, stopped_at}
use Rattle.ufs_model.specs.declared.asked.Request.TheVariants as asks
use Rattle.ufs_model.specs.declared.asked.Reply.TheVariants as replies
use Rattle.ufs_model.specs.declared.asked.Event.TheVariants as events
use Rattle.ufs_model.specs.declared.object.Object.TheVariants as objects
use Rattle.marking.proofs.Wells.{IsWell}
use Rattle.ufs_model.specs.Refusal.{is_locked, meets_a_grant}
use Rattle.marking.proofs.Puts.{GoesTo, goes_to, or_parts, seen_draft, seen_is, takes_drafts, unrefused}
use Rattle.marking.proofs.Sorts.{closed_changes, created_changes, empty_index, fewer, fill_changes, less_open, opened_changes, plain_changes}

-- ---- an answer

-- a done reply is of its request
done_now : (reply : Reply) → same_reply replies.Done reply ≡ true → is_carried_out reply ≡ true
done_now replies.Done h = refl
done_now reply h = cc

granted_now : (t : Tuid) (reply : Reply) → same_reply (replies.Grant t) reply ≡ true → is_carried_out reply ≡ true
granted_now t (replies.Grant u) h = refl
granted_now t reply h = cc

id_now : (id : Puid) (reply : Reply) → same_reply (replies.Id id) reply ≡ true → reply ≡ replies.Id id
id_now id (replies.Id x) h =
    let one = and_parts (id.block == x.block) _ h in
    let two = and_parts (id.word == x.word) _ one.1 in
    ap replies.Id (λ i. record { block = sym (eqb-true id.block x.block one.0) i; word = sym (eqb-true id.word x.word two.0) i })
id_now id reply h = cc

pub allowed : (b : Bool) (u t : State) → allowed_if b u ≡ Some t → (b ≡ true) × (u ≡ t)
allowed true u t h = (refl, same_Some u t h)
allowed false u t h = cc

abbrev either : Bool → List Rescue
either b = cond b [] []

module _ (seed : ℕ) (s : State) (well : IsWell s) (marking : is_marking s.collection ≡ true) (who : ℕ) where
  same : (t : State) → s ≡ t → Changes s t []
  same t is = subst (λ (u : State). Changes s u []) is (less_open s s well refl refl (λ x h. h) (λ i o h. h))

  stops : (moment : ℕ) (t : State) → stopped_at moment s ≡ t → Changes s t []
  stops moment t is = subst (λ (u : State). Changes s u []) is (less_open s (stopped_at moment s) well refl refl (λ x h. h) (λ i o h. h))

  goes : (request : Request) (ref : Ref) → has_no_grant s who request ≡ has_no_grant s who (asks.Slots ref) → has_no_object s (asks.Slots ref) ≡ false → is_locked s who request ≡ meets_a_grant s true ref → refusal_of s who request ≡ None → GoesTo s who ref
  goes request ref grant object locked none = goes_to s well who ref (sym grant ∙ (unrefused s who request none).0) object (sym locked ∙ (unrefused s who request none).2)

  -- a request that adds no rescue
  plain : (t : State) (reply : Reply) → Changes s t [] → Changes s t (either (is_carried_out reply))
  plain t reply change = elim (is_carried_out reply) as (λ b. Changes s t (either b)) [ true ↦ change | false ↦ change ]

  outcome_changes : (request : Request) (reply : Reply) → refusal_of s who request ≡ None → (not (creates request) || is_free_root s.graph (block_named reply)) ≡ true → same_reply (outcome_of seed s who request (block_named reply)).0 reply ≡ true
      → Changes s (outcome_of seed s who request (block_named reply)).1 (rescues_of s who request reply)
  outcome_changes (asks.CreateFile kind fill index slot) reply none free said =
      let request = asks.CreateFile kind fill index slot in
      let to = goes request index refl (unrefused s who request none).1 refl none in
      subst (λ (more : List Rescue). Changes s (outcome_of seed s who request (block_named reply)).1 more) (sym (ap (rescues_of s who request) (id_now _ reply said)))
      (created_changes seed s (outcome_of seed s who request (block_named reply)).1 who index slot (objects.File (new_file kind fill)) (block_named reply) well marking to free refl (λ leaf x h. cc) refl refl refl)
  outcome_changes (asks.CreateIndex slots index slot) reply none free said =
      let request = asks.CreateIndex slots index slot in
      let to = goes request index refl (unrefused s who request none).1 refl none in
      subst (λ (more : List Rescue). Changes s (outcome_of seed s who request (block_named reply)).1 more) (sym (ap (rescues_of s who request) (id_now _ reply said)))
      (created_changes seed s (outcome_of seed s who request (block_named reply)).1 who index slot (objects.Index (new_index slots)) (block_named reply) well marking to free refl (empty_index slots) refl refl refl)
  outcome_changes (asks.Retain index slot id) reply none free said =
      let request = asks.Retain index slot id in
      let to = goes request index refl (ap (λ b. b || false) (or_parts _ (not (is_there s.graph id)) (unrefused s who request none).1).0) refl none in
      rw (done_now reply said) (fill_changes s (outcome_of seed s who request (block_named reply)).1 well.ordered who index slot id (changed_draft (Fill slot (Some id)) (seen s who index)) to (takes_drafts s well who index to.id to.is) marking
      (λ no_draft. ap (changed_object (Fill slot (Some id))) (seen_is s who index to no_draft)) (λ old some. ap (changed_object (Fill slot (Some id))) (seen_draft s who index old some)) refl refl refl)
  outcome_changes (asks.OpenFor id mode) reply none free said = rw (granted_now _ reply said) (opened_changes seed s well who id mode (block_named reply) marking)
  outcome_changes (asks.Close t commit) reply none free said = plain _ reply (closed_changes seed s who t commit (block_named reply) well)
  outcome_changes (asks.Delete index slot) reply none free said =
      let request = asks.Delete index slot in
      plain _ reply (plain_changes s well who index (Fill slot None) (goes request index refl (unrefused s who request none).1 refl none) refl)
  outcome_changes (asks.Write file offset bytes) reply none free said =
      let request = asks.Write file offset bytes in
      plain _ reply (plain_changes s well who file (Overwrite offset bytes) (goes request file refl (unrefused s who request none).1 refl none) refl)
  outcome_changes (asks.Resize file size) reply none free said =
      let request = asks.Resize file size in
      plain _ reply (plain_changes s well who file (SetSize size) (goes request file refl (unrefused s who request none).1 refl none) refl)
  outcome_changes (asks.Retrieve index slot) reply none free said = plain s reply (same s refl)
  outcome_changes (asks.Slots index) reply none free said = plain s reply (same s refl)
  outcome_changes (asks.Read file offset count) reply none free said = plain s reply (same s refl)
  outcome_changes (asks.Size file) reply none free said = plain s reply (same s refl)

  by_outcome_changes : (request : Request) (reply : Reply) (t : State) → by_outcome seed s who request reply ≡ Some t → Changes s t (rescues_of s who request reply)
  by_outcome_changes request reply t h =
      let two = allowed (is_outcome seed s who request reply) _ t h in
      let said = and_parts _ (same_reply (outcome_of seed s who request (block_named reply)).0 reply) two.0 in
      let free = and_parts _ (not (creates request) || is_free_root s.graph (block_named reply)) said.0 in
      let none = and_parts (is_none s.stopped) (is_none (refusal_of s who request)) free.0 in
      subst (λ (u : State). Changes s u (rescues_of s who request reply)) two.1 (outcome_changes request reply (is_none_is (refusal_of s who request) none.1) free.1 said.1)
    where
      is_none_is : (o : Option Reply) → is_none o ≡ true → o ≡ None
      is_none_is None h = refl
      is_none_is (Some r) h = cc

  pub ask_changes : (request : Request) (reply : Reply) (t : State) → next seed s (events.Ask who request reply) ≡ Some t → Changes s t (rescues_of s who request reply)
  ask_changes request replies.Done t h = by_outcome_changes request replies.Done t h
  ask_changes request (replies.Id id) t h = by_outcome_changes request (replies.Id id) t h
  ask_changes request (replies.Grant u) t h = by_outcome_changes request (replies.Grant u) t h
  ask_changes request (replies.Number n) t h = by_outcome_changes request (replies.Number n) t h
  ask_changes request (replies.Content bytes) t h = by_outcome_changes request (replies.Content bytes) t h
  ask_changes request replies.Memory t h = same t (same_Some s t h)
  ask_changes request (replies.Stopped moment) t h = same t (allowed _ s t h).1
  ask_changes request (replies.Disk None) t h = same t (allowed _ s t h).1
  ask_changes request (replies.Disk (Some moment)) t h = stops moment t (allowed _ _ t h).1
  ask_changes request (replies.Damaged damage moment) t h = stops moment t (allowed _ _ t h).1
  ask_changes request (replies.Full n) t h = same t (allowed _ s t h).1
  ask_changes request reply t h = same t (allowed _ s t h).1

pub leave_changes : (seed : ℕ) (s : State) → IsWell s → (who : ℕ) (stop : Option ℕ) (t : State) → next seed s (events.Leave who stop) ≡ Some t → Changes s t []
leave_changes seed s well who None t h = subst (λ (u : State). Changes s u []) (same_Some (after_leave s who) t h) (less_open s (after_leave s who) well refl refl (fewer (λ g. not (g.session == who)) s.grants) (well.fewer (λ g. not (g.session == who))))
leave_changes seed s well who (Some moment) t h =
    subst (λ (u : State). Changes s u []) (allowed _ (stopped_at moment (after_leave s who)) t h).1 (less_open s (stopped_at moment (after_leave s who)) well refl refl (fewer (λ g. not (g.session == who)) s.grants) (well.fewer (λ g. not (g.session == who))))
