-- A session that has left has no grant; once all have left there is none.
use Rattle.std.proofs.Common.{◌≡◌, ℕ, zero, suc, ◌+◌, ◌≤◌, ◌==◌, ◌&&◌, Bool, true, false, not, cond, List, [], ◌∷◌, ◌++◌, length, filter, Option, Some, None, slice_get, refl, sym, ap, ◌∙◌, subst, arith}
use Rattle.cfs_serve.proofs.Cited.{AreOver, Change, Direct, Draft, Event, Fill, Grant, Graph, Object, Overwrite, Puid, PortReading, Ref, Reply, Request, Client, SetSize, State, Through, Tuid, after_leave, all_filter, all_passing, allowed_if, and_parts, block_named, by_outcome, changed_draft, created, draft_of, events_of_session, grant_of, is_grant, is_of_session, is_outcome, list_all, named, new_file, new_index, next, opening, option_and_then, outcome_of, put, put_draft-at, put_object-at, replay, replay_from, seen, stopped_at, turns_in, with_draft, with_object, word}
use Rattle.ufs_model.specs.declared.asked.Event.TheVariants as events
use Rattle.ufs_model.specs.declared.asked.Reply.TheVariants as replies
use Rattle.ufs_model.specs.declared.asked.Request.TheVariants as asks
use Rattle.ufs_model.specs.declared.object.Object.TheVariants as objects
use Rattle.cfs_serve.proofs.Logs.{all-push, some_same}
use Rattle.cfs_serve.proofs.Sessions.{test_refl}

-- the grant is of another session
abbrev is_anothers : ℕ → Grant → Bool
is_anothers k g = not (g.session == k)

-- session k has no grant
abbrev HasNone : ℕ → State → Type 0
HasNone k s = list_all (is_anothers k) s.grants ≡ true

-- ---- one event

stays : (b : Bool) (s t : State) → allowed_if b s ≡ Some t → s ≡ t
stays true s t is = some_same s t is
stays false s t is = absurd (cc is)

put_nowhere : (s : State) (who : ℕ) (ref : Ref) (d : Draft) → named s who ref ≡ None → draft_of s who ref ≡ None → put s who ref d ≡ s
put_nowhere s who ref d name none = rw (none, name, put) refl

module _ (k : ℕ) where
  drafted : (who : ℕ) (t : Tuid) (d : Draft) (gs : List Grant) → list_all (is_anothers k) (with_draft who t d gs) ≡ list_all (is_anothers k) gs
  drafted who t d [] = refl
  drafted who t d (g ∷ gs) =
      elim (is_grant who t g) as (λ b. (is_anothers k (cond b (record g { draft = Some d }) g) && list_all (is_anothers k) (with_draft who t d gs)) ≡ (is_anothers k g && list_all (is_anothers k) gs)) [
        | true ↦ ap (λ b. is_anothers k g && b) (drafted who t d gs)
        | false ↦ ap (λ b. is_anothers k g && b) (drafted who t d gs)
      ]

  put_none : (s : State) (who : ℕ) (ref : Ref) (d : Draft) → HasNone k s → HasNone k (put s who ref d)
  put_none s who (Direct id) d none = none
  put_none s who (Through t) d none = at (grant_of s who t) refl
    where
      of_grant : (g : Grant) (o : Option Draft) → grant_of s who t ≡ Some g → g.draft ≡ o → HasNone k (put s who (Through t) d)
      of_grant g (Some old) found has = subst (HasNone k) (sym (put_draft-at s who t g old d found has)) (drafted who t d s.grants ∙ none)
      of_grant g None found has =
          subst (HasNone k) (sym (put_object-at s who (Through t) g.id d (ap (λ o. option_and_then (λ (x : Grant). Some x.id) o) found) (ap (λ o. option_and_then (λ (x : Grant). x.draft) o) found ∙ has))) none

      at : (o : Option Grant) → grant_of s who t ≡ o → HasNone k (put s who (Through t) d)
      at (Some g) found = of_grant g g.draft found refl
      at None found = subst (HasNone k) (sym (put_nowhere s who (Through t) d (ap (λ o. option_and_then (λ (x : Grant). Some x.id) o) found) (ap (λ o. option_and_then (λ (x : Grant). x.draft) o) found))) none

  module _ (seed : ℕ) (s : State) (none : HasNone k s) (who : ℕ) where
    created_none : (index : Ref) (slot : ℕ) (o : Object) (b : ℕ) → HasNone k (created seed s who index slot o b).1
    created_none index slot o b =
        let id : Puid = record { block = b; word = word seed (s.drawn + 1) } in
        put_none (record s { graph = with_object s.graph id o; drawn = s.drawn + 1 }) who index (changed_draft (Fill slot (Some id)) (seen s who index)) none

    changed_none : (ref : Ref) (c : Change) → HasNone k (put s who ref (changed_draft c (seen s who ref)))
    changed_none ref c = put_none s who ref (changed_draft c (seen s who ref)) none

    module _ (other : (who == k) ≡ false) where
      outcome_none : (request : Request) (b : ℕ) → HasNone k (outcome_of seed s who request b).1
      outcome_none (asks.CreateFile kind fill index slot) b = created_none index slot (objects.File (new_file kind fill)) b
      outcome_none (asks.CreateIndex slots index slot) b = created_none index slot (objects.Index (new_index slots)) b
      outcome_none (asks.Retain index slot id) b = changed_none index (Fill slot (Some id))
      outcome_none (asks.Retrieve index slot) b = none
      outcome_none (asks.Delete index slot) b = changed_none index (Fill slot None)
      outcome_none (asks.Slots index) b = none
      outcome_none (asks.OpenFor id mode) b = all-push (is_anothers k) s.grants _ none (ap not other)
      outcome_none (asks.Close grant commit) b = all_filter (is_anothers k) (λ g. not (is_grant who grant g)) s.grants none
      outcome_none (asks.Read file offset count) b = none
      outcome_none (asks.Write file offset bytes) b = changed_none file (Overwrite offset bytes)
      outcome_none (asks.Size file) b = none
      outcome_none (asks.Resize file size) b = changed_none file (SetSize size)

      by : (request : Request) (reply : Reply) (t : State) → by_outcome seed s who request reply ≡ Some t → HasNone k t
      by request reply t h =
          subst (HasNone k) (stays (is_outcome seed s who request reply) (outcome_of seed s who request (block_named reply)).1 t h) (outcome_none request (block_named reply))

      same : (t : State) → s ≡ t → HasNone k t
      same t is = subst (HasNone k) is none

      ask_none : (request : Request) (reply : Reply) (t : State) → next seed s (events.Ask who request reply) ≡ Some t → HasNone k t
      ask_none request replies.Done t h = by request replies.Done t h
      ask_none request (replies.Id id) t h = by request (replies.Id id) t h
      ask_none request (replies.Grant u) t h = by request (replies.Grant u) t h
      ask_none request (replies.Number n) t h = by request (replies.Number n) t h
      ask_none request (replies.Content bytes) t h = by request (replies.Content bytes) t h
      ask_none request replies.Memory t h = same t (some_same s t h)
      ask_none request (replies.Stopped moment) t h = same t (stays _ s t h)
      ask_none request (replies.Disk None) t h = same t (stays _ s t h)
      ask_none request (replies.Disk (Some moment)) t h = subst (HasNone k) (stays _ (stopped_at moment s) t h) none
      ask_none request (replies.Damaged damage moment) t h = subst (HasNone k) (stays _ (stopped_at moment s) t h) none
      ask_none request (replies.Full n) t h = same t (stays _ s t h)
      ask_none request reply t h = same t (stays _ s t h)

  -- after another's event
  other_none : (seed : ℕ) (s t : State) (e : Event) → next seed s e ≡ Some t → is_of_session k e ≡ false → HasNone k s → HasNone k t
  other_none seed s t (events.Unread who why) step other none = subst (HasNone k) (some_same s t step) none
  other_none seed s t (events.Ask who request reply) step other none = ask_none seed s none who other request reply t step
  other_none seed s t (events.Leave who None) step other none = subst (HasNone k) (some_same (after_leave s who) t step) (all_filter (is_anothers k) (is_anothers who) s.grants none)
  other_none seed s t (events.Leave who (Some moment)) step other none =
      subst (HasNone k) (stays _ (stopped_at moment (after_leave s who)) t step) (all_filter (is_anothers k) (is_anothers who) s.grants none)
  other_none seed s t events.Began step other none = subst (HasNone k) (stays _ _ t step) none
  other_none seed s t (events.Vanish ids) step other none = subst (HasNone k) (stays _ _ t step) none
  other_none seed s t events.Finished step other none = subst (HasNone k) (stays _ _ t step) none
  other_none seed s t (events.Halted moment) step other none = subst (HasNone k) (stays _ (stopped_at moment s) t step) none

  -- after its leave
  leave_none : (seed : ℕ) (s t : State) (stopped : Option ℕ) → next seed s (events.Leave k stopped) ≡ Some t → HasNone k t
  leave_none seed s t None step = subst (HasNone k) (some_same (after_leave s k) t step) (all_passing (is_anothers k) s.grants)
  leave_none seed s t (Some moment) step = subst (HasNone k) (stays _ (stopped_at moment (after_leave s k)) t step) (all_passing (is_anothers k) s.grants)

-- ---- a run

first_step : {P : Type 0} (seed : ℕ) (s t : State) (e : Event) (es : List Event) → replay_from seed s (e ∷ es) ≡ Some t
    → ((u : State) → next seed s e ≡ Some u → replay_from seed u es ≡ Some t → P) → P
first_step {P} seed s t e es legal then = at (next seed s e) refl legal
  where
    at : (o : Option State) → next seed s e ≡ o → option_and_then (λ u. replay_from seed u es) o ≡ Some t → P
    at (Some u) is on = then u is on
    at None is on = absurd (cc on)

first_out : (test : Event → Bool) (e : Event) (es : List Event) → filter test (e ∷ es) ≡ [] → (test e ≡ false) × (filter test es ≡ [])
first_out test e es is = elim (test e) as (λ b. test e ≡ b → cond b (e ∷ filter test es) (filter test es) ≡ [] → (test e ≡ false) × (filter test es ≡ [])) [
  | true ↦ λ yes none. absurd (cc none)
  | false ↦ λ no none. (no, none)
] refl is

never_last : (xs : List Event) (x : Event) → [] ≡ xs ++ x ∷ [] → ⊥
never_last [] x is = cc is
never_last (y ∷ xs) x is = cc is

module _ (k seed : ℕ) where
  -- of which no event is the session's
  others_run : (es : List Event) (s t : State) → replay_from seed s es ≡ Some t → events_of_session k es ≡ [] → HasNone k s → HasNone k t
  others_run [] s t legal out none = subst (HasNone k) (some_same s t legal) none
  others_run (e ∷ es) s t legal out none =
      let two = first_out (is_of_session k) e es out in
      first_step seed s t e es legal (λ u step on. others_run es u t on two.1 (other_none k seed s u e step two.0 none))

  -- the first of its events is this one
  by_first : (e : Event) (es xs : List Event) (s u t : State) (stopped : Option ℕ) → next seed s e ≡ Some u → replay_from seed u es ≡ Some t → e ∷ events_of_session k es ≡ xs ++ events.Leave k stopped ∷ []
      → ((ys : List Event) → events_of_session k es ≡ ys ++ events.Leave k stopped ∷ [] → HasNone k t) → HasNone k t
  by_first e es [] s u t stopped step on is later =
      let here : e ≡ events.Leave k stopped = cc is in
      let rest : events_of_session k es ≡ [] = cc is in
      others_run es u t on rest (leave_none k seed s u stopped (subst (λ x. next seed s x ≡ Some u) here step))
  by_first e es (x ∷ xs) s u t stopped step on is later =
      let rest : events_of_session k es ≡ xs ++ events.Leave k stopped ∷ [] = cc is in
      later xs rest

  -- of which the session's last is its leave
  left_run : (es xs : List Event) (s t : State) (stopped : Option ℕ) → replay_from seed s es ≡ Some t → events_of_session k es ≡ xs ++ events.Leave k stopped ∷ [] → HasNone k t
  left_run [] xs s t stopped legal is = absurd (never_last xs (events.Leave k stopped) is)
  left_run (e ∷ es) xs s t stopped legal is =
      first_step seed s t e es legal (λ u step on. elim (is_of_session k e) as (λ b. cond b (e ∷ events_of_session k es) (events_of_session k es) ≡ xs ++ events.Leave k stopped ∷ [] → HasNone k t) [
        | true ↦ λ mine. by_first e es xs s u t stopped step on mine (λ ys rest. left_run es ys u t stopped on rest)
        | false ↦ λ rest. left_run es xs u t stopped on rest
      ] is)

-- ---- all sessions

client_or_past : {P : Type 0} (clients : List Client) (ports : List PortReading) (k : ℕ) → length ports ≡ length clients
    → ((client : Client) (p : PortReading) → slice_get clients k ≡ Some client → slice_get ports k ≡ Some p → P) → (length clients ≤ k → P) → P
client_or_past [] ports k same there past = past (omega arith)
client_or_past (client ∷ clients) [] k same there past = absurd (omega (arith, same))
client_or_past (client ∷ clients) (p ∷ ports) zero same there past = there client p refl refl
client_or_past (client ∷ clients) (p ∷ ports) (suc k) same there past = client_or_past clients ports k (omega (arith, same)) there (λ le. past (omega (arith, le)))

of_nobody : (gs : List Grant) → ((k : ℕ) → list_all (is_anothers k) gs ≡ true) → gs ≡ []
of_nobody [] all = refl
of_nobody (g ∷ gs) all =
    let not_own = (and_parts (is_anothers g.session g) (list_all (is_anothers g.session) gs) (all g.session)).0 in
    absurd (cc (subst (λ b. not b ≡ true) (test_refl g.session) not_own))

-- Where each session has left, and no event is of anybody else, no grant stands.
pub none_stands : (root : Puid) (collections : ℕ) (clients : List Client) (trail : List Event) (ports : List PortReading) (seed : ℕ) (graph : Graph) (last : State) → AreOver root collections clients trail ports
    → replay seed graph trail ≡ Some last → last.grants ≡ []
none_stands root collections clients trail ports seed graph last over legal = of_nobody last.grants (λ k.
    client_or_past clients ports k over.count
    (λ client p client_is at. let one = over.each k client p client_is at in left_run k seed trail (turns_in k trail) (opening graph) last one.stopped legal one.leaves)
    (λ past. others_run k seed trail (opening graph) last legal (over.none k past) refl))
