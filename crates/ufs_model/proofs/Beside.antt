-- What a request does leaves the stop as it is, and the collection but for what it is to remember.
use Rattle.std.proofs.Common.{◌≡◌, ℕ, ◌+◌, ◌≤◌, refl, ap, ◌∙◌, arith, Bool, true, false, Some, None, Option, ◌&&◌, ◌||◌, not}
use Rattle.ufs_model.proofs.Words.{Change, Collection, Direct, Draft, Edge, Fill, Grant, Graph, IsState, Object, Overwrite, Puid, Ref, Reply, Request, SetSize, State, Through, Tuid, allowed_if, answered, beside, block_named, by_outcome, changed, changed_draft, created, creates, draws, goes_through, grant_of, has_block, is_done, is_free_root, is_none, is_outcome, is_refusal, is_running, is_some, named, option_and_then, outcome_of, put, put_draft, put_object, refusal_of, refuses, seen, seen_by, target, with_edge, with_object, with_seen, word, ◌==◌}
use Rattle.std.specs.Option.{option_map}
use Rattle.ufs_model.specs.declared.asked.Request.TheVariants as asks
use Rattle.ufs_model.specs.declared.asked.Reply.TheVariants as replies
use Rattle.ufs_model.specs.declared.collection.Collection.TheVariants as collections

pub beside_state : (t : State) (st : Option ℕ) (c : Collection) → IsState t → IsState (beside t st c)
beside_state t st c h = record { graph = h.graph; grants = h.grants; closed = h.closed; alone = h.alone; rising = h.rising; drawn = h.drawn }

pub state_beside : (t : State) (st : Option ℕ) (c : Collection) → IsState (beside t st c) → IsState t
state_beside t st c h = record { graph = h.graph; grants = h.grants; closed = h.closed; alone = h.alone; rising = h.rising; drawn = h.drawn }

abbrev put_through : ℕ → Tuid → Draft → State → Option Grant → State
put_through who u d s o = elim (option_and_then (λ (g : Grant). g.draft) o) [
  | Some old ↦ put_draft s who (Through u) d
  | None ↦ put_object s (option_and_then (λ (g : Grant). Some g.id) o) d.object
]

module _ (t : State) (st : Option ℕ) (c : Collection) (who : ℕ) (d : Draft) where
  through : (u : Tuid) (o : Option Grant) → put_through who u d (beside t st c) o ≡ beside (put_through who u d t o) st c
  through u None = refl
  through u (Some g) = elim g.draft as (λ (e : Option Draft).
      elim e as (λ (x : Option Draft). State) [ Some old ↦ put_draft (beside t st c) who (Through u) d | None ↦ put_object (beside t st c) (Some g.id) d.object ]
      ≡ beside (elim e as (λ (x : Option Draft). State) [ Some old ↦ put_draft t who (Through u) d | None ↦ put_object t (Some g.id) d.object ]) st c) [
        | None ↦ refl
        | Some old ↦ refl
      ]

  put_beside : (ref : Ref) → put (beside t st c) who ref d ≡ beside (put t who ref d) st c
  put_beside (Direct id) = refl
  put_beside (Through u) = through u (grant_of t who u)

edge_seen : (to : Option Puid) (x : Puid) (c : Collection) → with_edge to x c ≡ with_seen (option_map (λ i. Edge i x) to) c
edge_seen (Some i) x c = refl
edge_seen None x collections.None = refl
edge_seen None x (collections.Marking edges starts) = refl
edge_seen None x collections.Sweeping = refl

-- ---- the outcome

module _ (seed : ℕ) (t : State) (st : Option ℕ) (c : Collection) (who : ℕ) where
  -- what was changed, with this more remembered
  noted : (s u : State) (to : Option Puid) (x : Puid) → s ≡ beside u st c
      → record s { collection = with_edge to x c } ≡ beside u st (with_seen (option_map (λ i. Edge i x) to) c)
  noted s u to x same = rw (same, edge_seen to x c) refl

  changed_beside : (ref : Ref) (d : Change) → changed (beside t st c) who ref d ≡ beside (changed t who ref d) st c
  changed_beside ref d = put_beside t st c who (changed_draft d (seen t who ref)) ref

  created_beside : (index : Ref) (slot : ℕ) (o : Object) (b : ℕ) → (created seed (beside t st c) who index slot o b).1
      ≡ beside (created seed t who index slot o b).1 st
      (with_seen (option_map (λ i. Edge i (record { block = b; word = word seed (t.drawn + 1) })) (named t who index)) c)
  created_beside index slot o b =
      let id : Puid = record { block = b; word = word seed (t.drawn + 1) } in
      let new : State = record t { graph = with_object t.graph id o; drawn = t.drawn + 1 } in
      let d = changed_draft (Fill slot (Some id)) (seen t who index) in
      noted (put (beside new st c) who index d) (put new who index d) (named t who index) id (put_beside new st c who d index)

  -- the outcome is the same, and the collection remembers what it is to remember
  pub outcome_beside : (request : Request) (b : ℕ) → outcome_of seed (beside t st c) who request b
      ≡ (
        (outcome_of seed t who request b).0,
        beside (outcome_of seed t who request b).1 st (with_seen (seen_by (named t who (target request)) request (outcome_of seed t who request b).0) c),
      )
  outcome_beside (asks.CreateFile kind fill index slot) b = ap (λ s. (replies.Id (record { block = b; word = word seed (t.drawn + 1) }), s)) (created_beside index slot _ b)
  outcome_beside (asks.CreateIndex slots index slot) b = ap (λ s. (replies.Id (record { block = b; word = word seed (t.drawn + 1) }), s)) (created_beside index slot _ b)
  outcome_beside (asks.Retain index slot id) b =
      ap (λ s. (replies.Done, s)) (noted (changed (beside t st c) who index (Fill slot (Some id))) (changed t who index (Fill slot (Some id))) (named t who index) id (changed_beside index (Fill slot (Some id))))
  outcome_beside (asks.Retrieve index slot) b = refl
  outcome_beside (asks.Delete index slot) b = ap (λ s. (replies.Done, s)) (changed_beside index (Fill slot None))
  outcome_beside (asks.Slots index) b = refl
  outcome_beside (asks.OpenFor id mode) b = refl
  outcome_beside (asks.Close grant commit) b = refl
  outcome_beside (asks.Read file offset count) b = refl
  outcome_beside (asks.Write file offset bytes) b = ap (λ s. (replies.Done, s)) (changed_beside file (Overwrite offset bytes))
  outcome_beside (asks.Size file) b = refl
  outcome_beside (asks.Resize file size) b = ap (λ s. (replies.Done, s)) (changed_beside file (SetSize size))

-- ---- answers

wrong : {A : Type 0} → false ≡ true → A
wrong h = cc

-- a reply that tells what was done is judged by the outcome, and one that refuses by the refusal
pub answered_done : (seed : ℕ) (s : State) (who : ℕ) (request : Request) (r : Reply) → is_done r ≡ true → answered seed s who request r ≡ by_outcome seed s who request r
answered_done seed s who request replies.Done k = refl
answered_done seed s who request (replies.Id id) k = refl
answered_done seed s who request (replies.Grant t) k = refl
answered_done seed s who request (replies.Number n) k = refl
answered_done seed s who request (replies.Content bytes) k = refl
answered_done seed s who request r k = wrong k

pub answered_refused : (seed : ℕ) (s : State) (who : ℕ) (request : Request) (r : Reply) → refuses r ≡ true
    → answered seed s who request r ≡ allowed_if (is_refusal s who request r) s
answered_refused seed s who request replies.NoGrant k = refl
answered_refused seed s who request replies.NoObject k = refl
answered_refused seed s who request replies.NotIndex k = refl
answered_refused seed s who request replies.NotFile k = refl
answered_refused seed s who request replies.ReadOnly k = refl
answered_refused seed s who request replies.Locked k = refl
answered_refused seed s who request replies.Slot k = refl
answered_refused seed s who request replies.Empty k = refl
answered_refused seed s who request replies.Range k = refl
answered_refused seed s who request replies.Grants k = refl
answered_refused seed s who request r k = wrong k

pub at_most_one : (request : Request) → draws request ≤ 1
at_most_one (asks.CreateFile kind fill index slot) = omega arith
at_most_one (asks.CreateIndex slots index slot) = omega arith
at_most_one (asks.OpenFor id mode) = omega arith
at_most_one request = omega arith

module _ (seed : ℕ) (t : State) (st : Option ℕ) (c : Collection) (who : ℕ) (request : Request) (r : Reply) (run : t.stopped ≡ None) (runs : st ≡ None) (k : is_done r ≡ true) where
  test_beside : is_outcome seed (beside t st c) who request r ≡ is_outcome seed t who request r
  test_beside = rw (outcome_beside seed t st c who request (block_named r), run, runs) refl

  -- the state after a reply that is the outcome's; and any other may not be given
  pub outcome_made : (told : Reply) (u : State) → is_outcome seed t who request r ≡ true → outcome_of seed t who request (block_named r) ≡ (told, u)
      → answered seed (beside t st c) who request r ≡ Some (beside u st (with_seen (seen_by (named t who (target request)) request told) c))
  outcome_made told u test done =
      let to = named t who (target request) in
      answered_done seed (beside t st c) who request r k
      ∙ ap (λ b. allowed_if b (outcome_of seed (beside t st c) who request (block_named r)).1) (test_beside ∙ test)
      ∙ ap (λ (x : Reply × State). Some x.1) (outcome_beside seed t st c who request (block_named r))
      ∙ ap (λ (x : Reply × State). Some (beside x.1 st (with_seen (seen_by to request x.0) c))) done

  pub outcome_none : is_outcome seed t who request r ≡ false → answered seed (beside t st c) who request r ≡ None
  outcome_none test =
      answered_done seed (beside t st c) who request r k
      ∙ ap (λ b. allowed_if b (outcome_of seed (beside t st c) who request (block_named r)).1) (test_beside ∙ test)

pub outcome_stopped : (seed : ℕ) (s : State) (who : ℕ) (request : Request) (r : Reply) → is_running s ≡ false → is_done r ≡ true → answered seed s who request r ≡ None
outcome_stopped seed s who request r stopped k = answered_done seed s who request r k ∙ rw stopped refl

both : (a b : Bool) → (a && b) ≡ true → (a ≡ true) × (b ≡ true)
both true b h = (refl, h)
both false b h = cc

none_refused : (o : Option Reply) → is_none o ≡ true → o ≡ None
none_refused None h = refl
none_refused (Some x) h = cc

pub outcome_parts : (seed : ℕ) (t : State) (who : ℕ) (request : Request) (r : Reply) → is_outcome seed t who request r ≡ true
    → (refusal_of t who request ≡ None) × (creates request ≡ true → is_free_root t.graph (block_named r) ≡ true)
outcome_parts seed t who request r test =
    let two = both (goes_through t who request && (not (creates request) || is_free_root t.graph (block_named r))) _ test in
    let first = both (goes_through t who request) (not (creates request) || is_free_root t.graph (block_named r)) two.0 in
    (none_refused (refusal_of t who request) (both (is_running t) (is_none (refusal_of t who request)) first.0).1, λ makes. by (creates request) (is_free_root t.graph (block_named r)) makes first.1)
  where
    by : (a b : Bool) → a ≡ true → (not a || b) ≡ true → b ≡ true
    by true b h i = i
    by false b h i = cc

pub free_block : (g : Graph) (b : ℕ) → is_free_root g b ≡ true → has_block g.objects b ≡ false
free_block g b h = by (has_block g.objects b) (both (not (b == 0)) (not (has_block g.objects b)) h).1
  where
    by : (a : Bool) → not a ≡ true → a ≡ false
    by true i = cc
    by false i = refl

pub none_some : {A : Type 0} (o : Option A) → is_some o ≡ false → o ≡ None
none_some None h = refl
none_some (Some x) h = cc

pub some_stops : {A : Type 0} (o : Option A) → is_some o ≡ true → is_none o ≡ false
some_stops None h = cc
some_stops (Some x) h = refl
