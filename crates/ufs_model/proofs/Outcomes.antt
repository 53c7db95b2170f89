-- What an outcome leaves of a state, and what it answers.
use Rattle.std.proofs.Common.{List, ◌≡◌, ℕ, ◌+◌, ◌<◌, ◌≤◌, length, refl, sym, ◌∙◌, subst, length-drop, Bool, true, false, ◌&&◌, Some, None, Option, arith}
use Rattle.ufs_model.proofs.Words.{Collection, Draft, Fill, Grant, Graph, IsLeastFreeRoot, IsPlainReply, IsState, Object, Puid, Ref, Request, State, Tuid, and_parts, changed_draft, closed, committed, created, creates, draws, file_seen, grant_of, has_block, index_seen, is_free_root, is_range, leb-true, length-take, most_at_once, named, nat_le, nat_lt, nat_tests, not-false, outcome_of, put, refusal_of, seen, slot_of, slot_reply, with_edge, with_object, with_start, word, ◌==◌}
use Rattle.ufs_model.specs.declared.asked.Request.TheVariants as asks
use Rattle.ufs_model.specs.declared.collection.Collection.TheVariants as collections
use Rattle.ufs_model.proofs.KeepsStates.{in_range, to}
use Rattle.ufs_model.proofs.Legal.{least_is_free}
use Rattle.ufs_model.proofs.RootBlocks.{has_block-new, has_block-still}
use Rattle.ufs_model.proofs.WellStates.{Goes, ToObject, ToDraft, goes_still, put_draft-at, put_object-at}

-- ---- what a request leaves

-- a test that tells a collection's part alone: none, marking or sweeping
abbrev pub IsOfPart : (Collection → Bool) → Type 0
IsOfPart test = (a b : List (Puid × Puid)) (c d : List Puid) → test (collections.Marking a c) ≡ test (collections.Marking b d)

-- the same part of a collection, as many words drawn, and no root block lost
pub record Leaves (s t : State) (drawn : ℕ) : Type 0 where
  pub part : (test : Collection → Bool) → IsOfPart test → test t.collection ≡ test s.collection
  pub words : t.drawn ≡ drawn
  pub blocks : (b : ℕ) → has_block s.graph.objects b ≡ true → has_block t.graph.objects b ≡ true

put_leaves : (s : State) (who : ℕ) (ref : Ref) (d : Draft) → Goes s who ref → Leaves s (put s who ref d) s.drawn
put_leaves s who ref d (ToObject id o name none at) =
    subst (λ t. Leaves s t s.drawn) (sym (put_object-at s who ref id d name none))
    (record { part = λ test tells. refl; words = refl; blocks = λ b has. has_block-still b id d.object s.graph.objects has })
put_leaves s who ref d (ToDraft t g old found has) =
    subst (λ t. Leaves s t s.drawn) (sym (put_draft-at s who t g old d found has)) (record { part = λ test tells. refl; words = refl; blocks = λ b has. has })

pub edge_stays : (test : Collection → Bool) → IsOfPart test → (index : Option Puid) (x : Puid) (c : Collection) → test (with_edge index x c) ≡ test c
edge_stays test tells (Some index) x (collections.Marking edges starts) = tells _ _ _ _
edge_stays test tells None x (collections.Marking edges starts) = refl
edge_stays test tells (Some index) x collections.None = refl
edge_stays test tells None x collections.None = refl
edge_stays test tells (Some index) x collections.Sweeping = refl
edge_stays test tells None x collections.Sweeping = refl

pub start_stays : (test : Collection → Bool) → IsOfPart test → (x : Puid) (c : Collection) → test (with_start x c) ≡ test c
start_stays test tells x (collections.Marking edges starts) = tells _ _ _ _
start_stays test tells x collections.None = refl
start_stays test tells x collections.Sweeping = refl

module _ (seed : ℕ) (s : State) (who : ℕ) (index : Ref) (slot : ℕ) (o : Object) (b : ℕ) (to : Goes s who index) (free : is_free_root s.graph b ≡ true) where
  abbrev made : Puid
  made = record { block = b; word = word seed (s.drawn + 1) }

  filled : Leaves (record s { graph = with_object s.graph made o; drawn = s.drawn + 1 }) (put (record s { graph = with_object s.graph made o; drawn = s.drawn + 1 }) who index (changed_draft (Fill slot (Some made)) (seen s who index))) (s.drawn + 1)
  filled = put_leaves (record s { graph = with_object s.graph made o; drawn = s.drawn + 1 }) who index (changed_draft (Fill slot (Some made)) (seen s who index)) (goes_still s made o free who index to).0

  created_leaves : Leaves s (created seed s who index slot o b).1 (s.drawn + 1)
  created_leaves = record {
    part = λ test tells. edge_stays test tells (named s who index) made s.collection;
    words = filled.words;
    blocks = λ c has. filled.blocks c (has_block-still c made o s.graph.objects has);
  }

  created_has : has_block (created seed s who index slot o b).1.graph.objects b ≡ true
  created_has = filled.blocks b (has_block-new made o s.graph.objects)

same_leaves : (s : State) → Leaves s s s.drawn
same_leaves s = record { part = λ test tells. refl; words = refl; blocks = λ b has. has }

closed_leaves : (s : State) (who : ℕ) (t : Tuid) (commit : Bool) → Leaves s (closed s who t commit) s.drawn
closed_leaves s who t false = record { part = λ test tells. refl; words = refl; blocks = λ b has. has }
closed_leaves s who t true = record { part = λ test tells. refl; words = refl; blocks = λ b has. still b (grant_of s who t) has }
  where
    still : (b : ℕ) (g : Option Grant) → has_block s.graph.objects b ≡ true → has_block (committed g s.graph).objects b ≡ true
    still b None has = has
    still b (Some g) has = elim g.draft as (λ (d : Option Draft). has_block (elim d as (λ (e : Option Draft). Graph) [ None ↦ s.graph | Some e ↦ with_object s.graph g.id e.object ]).objects b ≡ true) [
      | None ↦ has
      | Some d ↦ has_block-still b g.id d.object s.graph.objects has
    ]

module _ (seed : ℕ) (s : State) (who : ℕ) (h : IsState s) where
  pub outcome_leaves : (request : Request) (b : ℕ) → refusal_of s who request ≡ None → (creates request ≡ true → is_free_root s.graph b ≡ true)
      → Leaves s (outcome_of seed s who request b).1 (s.drawn + draws request)
  outcome_leaves (asks.CreateFile kind fill index slot) b none free = created_leaves seed s who index slot _ b (to s who (asks.CreateFile kind fill index slot) h none) (free refl)
  outcome_leaves (asks.CreateIndex slots index slot) b none free = created_leaves seed s who index slot _ b (to s who (asks.CreateIndex slots index slot) h none) (free refl)
  outcome_leaves (asks.Retain index slot id) b none free =
      let is = put_leaves s who index (changed_draft (Fill slot (Some id)) (seen s who index)) (to s who (asks.Retain index slot id) h none) in
      record { part = λ test tells. edge_stays test tells (named s who index) id s.collection; words = is.words ∙ (omega arith); blocks = is.blocks }
  outcome_leaves (asks.Retrieve index slot) b none free = subst (Leaves s s) ((omega arith)) (same_leaves s)
  outcome_leaves (asks.Delete index slot) b none free = subst (Leaves s _) ((omega arith)) (put_leaves s who index _ (to s who (asks.Delete index slot) h none))
  outcome_leaves (asks.Slots index) b none free = subst (Leaves s s) ((omega arith)) (same_leaves s)
  outcome_leaves (asks.OpenFor id mode) b none free = record { part = λ test tells. start_stays test tells id s.collection; words = refl; blocks = λ b has. has }
  outcome_leaves (asks.Close grant commit) b none free = subst (Leaves s _) ((omega arith)) (closed_leaves s who grant commit)
  outcome_leaves (asks.Read file offset count) b none free = subst (Leaves s s) ((omega arith)) (same_leaves s)
  outcome_leaves (asks.Write file offset bytes) b none free = subst (Leaves s _) ((omega arith)) (put_leaves s who file _ (to s who (asks.Write file offset bytes) h none))
  outcome_leaves (asks.Size file) b none free = subst (Leaves s s) ((omega arith)) (same_leaves s)
  outcome_leaves (asks.Resize file size) b none free = subst (Leaves s _) ((omega arith)) (put_leaves s who file _ (to s who (asks.Resize file size) h none))

  -- a new object has the block that it was given
  pub outcome_has : (request : Request) (b : ℕ) → refusal_of s who request ≡ None → is_free_root s.graph b ≡ true → creates request ≡ true
      → has_block (outcome_of seed s who request b).1.graph.objects b ≡ true
  outcome_has (asks.CreateFile kind fill index slot) b none free makes = created_has seed s who index slot _ b (to s who (asks.CreateFile kind fill index slot) h none) free
  outcome_has (asks.CreateIndex slots index slot) b none free makes = created_has seed s who index slot _ b (to s who (asks.CreateIndex slots index slot) h none) free
  outcome_has request b none free makes = cc

-- where a new object takes the first block that is free, the next block is the first that may be
pub taken_after : (seed : ℕ) (s : State) (who : ℕ) (request : Request) (b c : ℕ) → IsState s → refusal_of s who request ≡ None → creates request ≡ true → IsLeastFreeRoot s.graph.objects b
    → 3 ≤ c → c < b + 1 → has_block (outcome_of seed s who request b).1.graph.objects c ≡ true
taken_after seed s who request b c h none makes least le lt =
    let free = least_is_free s.graph b least in
    elim (c == b) as (λ t. (c == b) ≡ t → has_block (outcome_of seed s who request b).1.graph.objects c ≡ true) [
      | true ↦ λ is. let same : b ≡ c = grind (arith, nat_tests) in subst (λ n. has_block (outcome_of seed s who request b).1.graph.objects n ≡ true) same (outcome_has seed s who h request b none free makes)
      | false ↦ λ no. let less : c < b = grind (arith, nat_tests) in (outcome_leaves seed s who h request b none (λ _. free)).blocks c (least.least c le less)
    ] refl

-- ---- what it answers

slot_plain : (o : Option Puid) → IsPlainReply (slot_reply o)
slot_plain None = tt
slot_plain (Some id) = tt

pub outcome_plain : (seed : ℕ) (s : State) (who : ℕ) (request : Request) (b : ℕ) → IsState s → refusal_of s who request ≡ None → IsPlainReply (outcome_of seed s who request b).0
outcome_plain seed s who (asks.Read file offset count) b h none =
    let bytes = (file_seen s who file).bytes in
    let range = not-false (is_range (length bytes) offset count) (in_range s who (asks.Read file offset count) h none) in
    let tests = and_parts (nat_lt 0 count && nat_le count most_at_once) (nat_le (offset + count) (length bytes)) range in
    let few : count ≤ most_at_once = leb-true count most_at_once (and_parts (nat_lt 0 count) (nat_le count most_at_once) tests.0).1 in
    let within : offset + count ≤ length bytes = leb-true (offset + count) (length bytes) tests.1 in
    simp (length-take, length-drop) (omega arith)
outcome_plain seed s who (asks.Retrieve index slot) b h none = slot_plain (slot_of (index_seen s who index) slot)
outcome_plain seed s who request b h none = tt
