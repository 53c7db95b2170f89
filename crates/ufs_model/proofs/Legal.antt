-- An answer is an event that may happen.
use Rattle.std.proofs.Common.{◌≡◌, ◌≢◌, ℕ, zero, suc, List, [], ◌∷◌, ◌++◌, refl, sym, ap, arith, Bool, true, false, cond, not, ◌&&◌, ◌||◌, Some, None, Option, slice_get}
use Rattle.ufs_model.proofs.Words.{Err, Event, Graph, IfOk, IsAnswer, IsLeastFreeRoot, IsPlainReply, NoMemory, Ok, OnErr, Puid, Reply, Request, Result, State, allowed_if, answered, block_named, bytes_eq, conditions, creates, finds_empty, first_of, is_free_root, is_id, is_none, is_outcome, is_running, list_all, nat_lt, nat_tests, next, option_and_then, outcome_of, parts_of, refusal_of, refused_or, replay_from, result_unwrap_or, same_reply, slot_reply, ◌==◌}
use Rattle.ufs_model.specs.declared.asked.Request.TheVariants as asks
use Rattle.ufs_model.specs.declared.asked.Reply.TheVariants as replies
use Rattle.ufs_model.specs.declared.asked.Event.TheVariants as events

-- the replies that refuse, and those of what is done
abbrev refuses : Reply → Bool
refuses r = nat_lt 6 (parts_of r).0 && nat_lt (parts_of r).0 17

abbrev is_done : Reply → Bool
is_done r = nat_lt (parts_of r).0 5

same_number : (n : ℕ) → (n == n) ≡ true
same_number n = grind (arith, nat_tests)

same_numbers : (ns : List ℕ) → bytes_eq ns ns ≡ true
same_numbers [] = refl
same_numbers (n ∷ ns) = rw (same_number n) (same_numbers ns)

same_reply-itself : (r : Reply) → same_reply r r ≡ true
same_reply-itself r = rw (same_number (parts_of r).0) (same_numbers (parts_of r).1)

wrong : {A : Type 0} → false ≡ true → A
wrong h = cc

both : (a b : Bool) → (a && b) ≡ true → (a ≡ true) × (b ≡ true)
both true b h = (refl, h)
both false b h = cc

-- ---- the first condition that holds has one of the list's replies, and if there is none no condition holds

first_refuses : (cs : List (Bool × Reply)) (r : Reply) → list_all (λ c. refuses c.1) cs ≡ true → first_of cs ≡ Some r → refuses r ≡ true
first_refuses [] r all h = cc
first_refuses (c ∷ cs) r all h =
    elim c.0 as (λ b. cond b (Some c.1) (first_of cs) ≡ Some r → refuses r ≡ true) [
      | true ↦ λ e. let same : c.1 ≡ r = cc in rw (← same) (both _ _ all).0
      | false ↦ λ e. first_refuses cs r (both _ _ all).1 e
    ] h

first_none : (b : Bool) (x : Reply) (o : Option Reply) → cond b (Some x) o ≡ None → (b ≡ false) × (o ≡ None)
first_none true x o h = cc
first_none false x o h = (refl, h)

pub none_holds : (cs : List (Bool × Reply)) (i : ℕ) (c : Bool × Reply) → first_of cs ≡ None → slice_get cs i ≡ Some c → c.0 ≡ false
none_holds [] i c h at = cc
none_holds (d ∷ cs) zero c h at = let same : d ≡ c = cc in rw (← same) (first_none d.0 d.1 (first_of cs) h).0
none_holds (d ∷ cs) (suc i) c h at = none_holds cs i c (first_none d.0 d.1 (first_of cs) h).1 at

-- what is refused is answered by a reply without a disk, a stop or a content
plain_refusal : (r : Reply) → refuses r ≡ true → IsPlainReply r
plain_refusal (replies.Content bytes) h = cc
plain_refusal (replies.Full n) h = cc
plain_refusal (replies.Stopped moment) h = cc
plain_refusal (replies.Disk doubt) h = cc
plain_refusal (replies.Damaged damage moment) h = cc
plain_refusal r h = tt

pub refused_plain : (s : State) (who : ℕ) (request : Request) (r : Reply) → refusal_of s who request ≡ Some r → IsPlainReply r
refused_plain s who request r h = plain_refusal r (first_refuses (conditions s who request) r refl h)

not_an_id : (r : Reply) → refuses r ≡ true → is_id r ≡ true → ⊥
not_an_id (replies.Id id) h is = wrong h
not_an_id r h is = wrong is

-- a refusal is the answer
pub refused_answer : (seed : ℕ) (s : State) (who : ℕ) (request : Request) (r : Reply) → refusal_of s who request ≡ Some r → IsAnswer seed s who request r s
refused_answer seed s who request r h = record {
  is = rw h refl;
  least = λ makes is. absurd (not_an_id r (first_refuses (conditions s who request) r refl h) is);
}

refused_legal : (seed : ℕ) (s : State) (who : ℕ) (request : Request) (r : Reply) → is_running s ≡ true → refusal_of s who request ≡ Some r → refuses r ≡ true → answered seed s who request r ≡ Some s
refused_legal seed s who request replies.NoGrant run h k = rw (run, h) refl
refused_legal seed s who request replies.NoObject run h k = rw (run, h) refl
refused_legal seed s who request replies.NotIndex run h k = rw (run, h) refl
refused_legal seed s who request replies.NotFile run h k = rw (run, h) refl
refused_legal seed s who request replies.ReadOnly run h k = rw (run, h) refl
refused_legal seed s who request replies.Locked run h k = rw (run, h) refl
refused_legal seed s who request replies.Slot run h k = rw (run, h) refl
refused_legal seed s who request replies.Empty run h k = rw (run, h) refl
refused_legal seed s who request replies.Range run h k = rw (run, h) refl
refused_legal seed s who request replies.Grants run h k = rw (run, h) refl
refused_legal seed s who request r run h k = wrong k

-- ---- what is not refused is done

slot_reply_is_done : (o : Option Puid) → is_none o ≡ false → is_done (slot_reply o) ≡ true
slot_reply_is_done (Some id) h = refl
slot_reply_is_done None h = cc

outcome_is_done : (seed : ℕ) (s : State) (who : ℕ) (request : Request) (b : ℕ) → refusal_of s who request ≡ None → is_done (outcome_of seed s who request b).0 ≡ true
outcome_is_done seed s who (asks.Retrieve index slot) b h =
    slot_reply_is_done _ (none_holds (conditions s who (asks.Retrieve index slot)) 7 (finds_empty s who (asks.Retrieve index slot), replies.Empty) h refl)
outcome_is_done seed s who request b h = refl

allowed : (b : Bool) (s t : State) → b ≡ true → s ≡ t → allowed_if b s ≡ Some t
allowed b s t h e = rw (h, e) refl

done_legal : (seed : ℕ) (s : State) (who : ℕ) (request : Request) (r : Reply) (after : State) → outcome_of seed s who request (block_named r) ≡ (r, after)
    → is_outcome seed s who request r ≡ true → is_done r ≡ true → answered seed s who request r ≡ Some after
done_legal seed s who request replies.Done after e test k = allowed _ _ _ test (ap (λ x. x.1) e)
done_legal seed s who request (replies.Id id) after e test k = allowed _ _ _ test (ap (λ x. x.1) e)
done_legal seed s who request (replies.Grant t) after e test k = allowed _ _ _ test (ap (λ x. x.1) e)
done_legal seed s who request (replies.Number n) after e test k = allowed _ _ _ test (ap (λ x. x.1) e)
done_legal seed s who request (replies.Content bytes) after e test k = allowed _ _ _ test (ap (λ x. x.1) e)
done_legal seed s who request r after e test k = wrong k

-- ---- a request that makes an object is answered by an identifier with a block of its own

creates_id : (seed : ℕ) (s : State) (who : ℕ) (request : Request) (b : ℕ) → creates request ≡ true → is_id (outcome_of seed s who request b).0 ≡ true
creates_id seed s who (asks.CreateFile kind fill index slot) b h = refl
creates_id seed s who (asks.CreateIndex slots index slot) b h = refl
creates_id seed s who request b h = wrong h

pub least_is_free : (g : Graph) (b : ℕ) → IsLeastFreeRoot g.objects b → is_free_root g b ≡ true
least_is_free g b least = grind (arith, nat_tests, least.from_three, least.free)

free_where_made : (seed : ℕ) (s : State) (who : ℕ) (request : Request) (r : Reply) (after : State) → outcome_of seed s who request (block_named r) ≡ (r, after)
    → (creates request ≡ true → is_id r ≡ true → IsLeastFreeRoot s.graph.objects (block_named r)) → (not (creates request) || is_free_root s.graph (block_named r)) ≡ true
free_where_made seed s who request r after e least =
    elim (creates request) as (λ b. creates request ≡ b → (not b || is_free_root s.graph (block_named r)) ≡ true) [
      | true ↦ λ h. least_is_free s.graph _ (least h (rw (ap (λ x. is_id x.0) (sym e)) (creates_id seed s who request _ h)))
      | false ↦ λ h. refl
    ] refl

outcome_test : (seed : ℕ) (s : State) (who : ℕ) (request : Request) (r : Reply) (after : State) → is_running s ≡ true → refusal_of s who request ≡ None
    → outcome_of seed s who request (block_named r) ≡ (r, after) → (not (creates request) || is_free_root s.graph (block_named r)) ≡ true → is_outcome seed s who request r ≡ true
outcome_test seed s who request r after run none e free = rw (run, none, free, e) (same_reply-itself r)

-- ---- the laws

-- the outcome's reply names the block that it was made for
same_outcome : (seed : ℕ) (s : State) (who : ℕ) (request : Request) (b : ℕ) → outcome_of seed s who request (block_named (outcome_of seed s who request b).0) ≡ outcome_of seed s who request b
same_outcome seed s who (asks.CreateFile kind fill index slot) b = refl
same_outcome seed s who (asks.CreateIndex slots index slot) b = refl
same_outcome seed s who request b = refl

block_free : (seed : ℕ) (s : State) (who : ℕ) (request : Request) (b : ℕ) → (creates request ≡ true → is_free_root s.graph b ≡ true)
    → (not (creates request) || is_free_root s.graph (block_named (outcome_of seed s who request b).0)) ≡ true
block_free seed s who (asks.CreateFile kind fill index slot) b free = free refl
block_free seed s who (asks.CreateIndex slots index slot) b free = free refl
block_free seed s who request b free = refl

-- what is not refused may be answered by its outcome, whichever free root block a new object takes
pub outcome_legal : (seed : ℕ) (s : State) (who : ℕ) (request : Request) (b : ℕ) → is_running s ≡ true → refusal_of s who request ≡ None → (creates request ≡ true → is_free_root s.graph b ≡ true)
    → next seed s (events.Ask who request (outcome_of seed s who request b).0) ≡ Some (outcome_of seed s who request b).1
outcome_legal seed s who request b run none free =
    let r = (outcome_of seed s who request b).0 in
    let after = (outcome_of seed s who request b).1 in
    let e : outcome_of seed s who request (block_named r) ≡ (r, after) = same_outcome seed s who request b in
    done_legal seed s who request r after e (outcome_test seed s who request r after run none e (block_free seed s who request b free)) (outcome_is_done seed s who request b none)

-- an answer may be given, and leaves the state that it says
pub answer_legal : (seed : ℕ) (s : State) (who : ℕ) (request : Request) (r : Reply) (after : State) → is_running s ≡ true → IsAnswer seed s who request r after
    → next seed s (events.Ask who request r) ≡ Some after
answer_legal seed s who request r after run h =
    elim (refusal_of s who request) as (λ o. refusal_of s who request ≡ o → refused_or o s (outcome_of seed s who request (block_named r)) ≡ (r, after) → answered seed s who request r ≡ Some after) [
      | Some refused ↦ λ is e.
          let same : refused ≡ r = ap (λ x. x.0) e in
          rw (← ap (λ x. x.1) e) (refused_legal seed s who request r run (rw (← same) is) (rw (← same) (first_refuses (conditions s who request) refused refl is)))
      | None ↦ λ is e.
          let done : is_done r ≡ true = rw (ap (λ x. is_done x.0) (sym e)) (outcome_is_done seed s who request _ is) in
          done_legal seed s who request r after e (outcome_test seed s who request r after run is e (free_where_made seed s who request r after e h.least)) done
    ] refl h.is

last : (o : Option State) → option_and_then (λ t. Some t) o ≡ o
last (Some t) = refl
last None = refl

-- a run goes on by one event
pub replay_from-push : (seed : ℕ) (s : State) (es : List Event) (e : Event) → replay_from seed s (es ++ e ∷ []) ≡ option_and_then (λ t. next seed t e) (replay_from seed s es)
replay_from-push seed s [] e = last (next seed s e)
replay_from-push seed s (d ∷ es) e =
    elim (next seed s d) as (λ o. option_and_then (λ t. replay_from seed t (es ++ e ∷ [])) o ≡ option_and_then (λ t. next seed t e) (option_and_then (λ t. replay_from seed t es) o)) [
      | Some t ↦ replay_from-push seed t es e
      | None ↦ refl
    ]

-- the same of an answer that may be want of memory, which changes nothing
module _ (seed : ℕ) (s : State) (who : ℕ) (request : Request) (after : State) where
  pub told_legal : (r : Result Reply NoMemory) → is_running s ≡ true → IfOk r (λ reply. IsAnswer seed s who request reply after) → OnErr r (after ≡ s)
      → next seed s (events.Ask who request (result_unwrap_or r replies.Memory)) ≡ Some after
  told_legal (Ok reply) run is same = answer_legal seed s who request reply after run is
  told_legal (Err e) run is same = ap Some (sym same)

  pub told_answer : (r : Result Reply NoMemory) → IfOk r (λ reply. IsAnswer seed s who request reply after)
      → result_unwrap_or r replies.Memory ≢ replies.Memory → IsAnswer seed s who request (result_unwrap_or r replies.Memory) after
  told_answer (Ok reply) is some = is
  told_answer (Err e) is some = absurd (some refl)
