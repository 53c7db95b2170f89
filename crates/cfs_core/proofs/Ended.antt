-- A grant is closed that has a draft: the draft is given up, or becomes the object.
use Rattle.std.proofs.Common.{◌≡◌, ℕ, ◌+◌, ◌/◌, ◌≤◌, List, [], ◌∷◌, length, Bool, true, false, ◌≢◌, Option, Some, None, Ok, Err, refl, sym, ◌∙◌, ap, subst, arith, ⊎_elim, option_map, option_to_list, sum}
use Rattle.cfs_core.proofs.Words.{and_parts, block_there, ChangesOnly, closed, closed_graph, closed_keeps, Committed, committed, Draft, Drafting, Dropped, FitsDisk, Ghosts, Grant, grant_of, Graph, graph_blocks, has_block, has_number, Holds, Image, insert_entry-same, is_meant, is_placed, IsClosedGraph, IsOfThese, IsOldOrNew, Drafts, draft_blocks_if, taken_put, taken_with, blocks_taken}
use Rattle.cfs_core.proofs.Words.{IsState, Kept, keys_of-kinds_in, directory_kind-kinds_in, object_kind, kinds_in-insert_entry, kinds_of, Leaves, MapEntry, nat_tests, next, Object, of_drafts, of_owners, opened_as, outcome_legal, owner_of, Puid, refusal_of, refused_by, rises, room, State, sum_by, sum_is, the_draft, Trouble, Tuid, wider, with_object, without_draft}
use Rattle.cfs_base.specs.declared.refusal.Trouble.TheVariants as troubles
use Rattle.cyl_alloc.specs.Left.{LeftCommit}
use Rattle.open_table.specs.Grants as tables
use Rattle.open_table.specs.declared.grant.OpenGrant as handles
use Rattle.ufs_model.specs.declared.asked.Event.TheVariants as events
use Rattle.ufs_model.specs.declared.asked.Reply.TheVariants as replies
use Rattle.ufs_model.specs.declared.asked.Request.TheVariants as asks
use Rattle.cfs_core.specs.Calls.{AddsNoStray, Answers, ByOutcome, EndsSo, IsInDoubt, MayBeRead, Owes, Undone, Whole}
use Rattle.cfs_core.specs.Drafts.{DraftEnds, EndsDraft, LeavesDraftCommit}
use Rattle.cfs_core.specs.Kernel.{Kernel}
use Rattle.cfs_core.specs.Handles.{handles_but, with_drafting}
use Rattle.std.specs.Prelude.{IsSome}
use Rattle.intentions.specs.Left.{StoreWith, coming, final_image}
use Rattle.special_files.specs.Committing.{IsNoted}
use Rattle.cfs_core.specs.StandsFor.{AreDraftsOf, CoreServes, StoresState, drafts_of_handles, free_to_come}
use Rattle.cfs_core.proofs.Answering.{owes}
use Rattle.cfs_core.proofs.Changed.{of_this}
use Rattle.cfs_core.proofs.Drafted.{but_with, gone_drafts, gone_have}
use Rattle.cfs_core.proofs.Granted.{close_goes, closed_stepped}
use Rattle.cfs_core.proofs.Grown.{replaced_blocks}
use Rattle.cfs_core.proofs.Handled.{grants_with}
use Rattle.cfs_core.proofs.Serving.{fits, running}
use Rattle.cfs_core.proofs.Moved.{HasStepped, IsStepped, four_left, makes_committed, makes_stepped, stores_stepped, strays_stepped}
use Rattle.cfs_core.proofs.Taken.{replaced_few}
use Rattle.cfs_core.proofs.Views.{IsHeld, draft_view, open_in, so}
use Rattle.cfs_core.proofs.Ways.{draft_kind}
use Rattle.cfs_core.specs.Claimed.{ClaimsStay, owners_of}
use Rattle.cfs_core.proofs.Claimed.{claims_meant, claims_only, takes_alone}

-- what is meant for an object that is there
pub of_its_draft : (graph : Graph) (id : Puid) → has_block graph.objects id.block ≡ true → IsOfThese (λ entry. of_drafts (id.block ∷ []) entry) graph graph
of_its_draft graph id there = record {
  there = λ entry is made. let two = and_parts (is_placed is_meant entry) _ is in subst (λ (n : ℕ). has_block graph.objects n ≡ true) (sym (owner entry two.1)) there;
  more = λ r has. has;
}
  where
    owner : (entry : Option MapEntry) → has_number (owner_of entry) (id.block ∷ []) ≡ true → owner_of entry ≡ id.block
    owner entry has = grind (arith, nat_tests)

-- a grant's draft becomes its object
committed_by : (graph : Graph) (o : Option Grant) (x : Grant) (d : Draft) → o ≡ Some x → x.draft ≡ Some d → committed o graph ≡ with_object graph x.id d.object
committed_by graph o x d found has = rw (found, has) refl

module _ {D : Type 0} (g : Ghosts D) (k : Kernel D) (s : State) (serves : CoreServes g k s) (who : ℕ) (t : Tuid) (was : Drafting) (held : IsHeld g k s who t was) where
  abbrev ds : Drafts
  ds = drafts_of_handles k.handles s.grants

  abbrev id : Puid
  id = held.handle.grant.id

  abbrev before : Draft
  before = held.before

  abbrev object : Object
  object = held.object

  alike : object_kind before.object ≡ object_kind object
  alike = draft_kind object before.object (so g k s serves who t was held)

  pub block : has_block s.graph.objects id.block ≡ true
  block = block_there s.graph id object held.there

  abbrev left : Drafts
  left = without_draft id ds

  allowed : (commit : Bool) → refusal_of s who (asks.Close t commit) ≡ None
  allowed commit = close_goes 0 s who t commit held.x held.found

  -- the grants that are left are the same with and without a commit
  drafts_left : (commit : Bool) → drafts_of_handles (handles_but (tables.is_session_grant who t) k.handles) (closed s who t commit).grants ≡ left
  drafts_left commit = gone_drafts who t k.handles s.grants held.handle held.x held.place serves.drafts was before held.drafting held.draft_was serves.state.alone

  have_left : (commit : Bool) → AreDraftsOf left (handles_but (tables.is_session_grant who t) k.handles) (closed s who t commit).grants
  have_left commit = gone_have who t k.handles s.grants held.handle held.x held.place serves.drafts was before held.drafting held.draft_was serves.state.alone

  fresh : ℕ
  fresh = sum_by length before.fresh

  takes : blocks_taken s.graph left + fresh ≤ blocks_taken s.graph ds
  unfolding fresh
  takes = omega (arith, taken_with s.graph ds id object None serves.store.ordered held.there, ap draft_blocks_if (open_in g k s serves who t was held).alone)

  owners : (commit : Bool) → owners_of s who (asks.Close t commit) replies.Done ≡ id.block ∷ []
  owners commit = rw held.found (ap (λ (e : handles.OpenGrant). e.id.block ∷ []) (sym held.place.here))

  -- nothing is owed but the outcome
  owed : (commit : Bool) → Owes k.words.seed s who (asks.Close t commit) (g.content k.disk) (sum k.space.free) replies.Done
  owed commit = owes k.words.seed s who (asks.Close t commit) (g.content k.disk) (sum k.space.free) replies.Done tt
      (ByOutcome (allowed commit) (record { block = 0; least = λ made. let no : true ≡ false = sym made in cc; reply_is = refl; room = λ short. omega (arith, short.few, serves.four) }))

  pub legal : (commit : Bool) → k.stop ≡ None → next k.words.seed s (events.Ask who (asks.Close t commit) replies.Done) ≡ Some (closed s who t commit)
  legal commit none = outcome_legal k.words.seed s who (asks.Close t commit) 0 (running g k s serves none) (allowed commit) (λ made. let no : true ≡ false = sym made in cc)

  -- ---- it is given up

  module _ (d : D) (space : Kept) where
    abbrev pub aborted : Kernel D
    aborted = record k { disk = d; space = space; handles = handles_but (tables.is_session_grant who t) k.handles }

    abbrev T : Option MapEntry → Bool
    T entry = of_drafts (id.block ∷ []) entry

    stepped : IsStepped k aborted s (closed s who t false) s.graph
    stepped = closed_stepped g k s serves who t false d space s.graph refl refl refl

    module _ (bare : was.created ≡ None) (finished : space.left ≡ None) (dropped : Dropped g s.graph ds id was.created k.disk d space) where
      -- nothing is left, so the content is what is to come
      end_is : final_image g d space ≡ g.content d
      end_is = ap (coming (g.content d)) finished

      has : HasStepped g None k aborted s s.graph T left
      has = record {
        store = subst (StoreWith g s.graph left d space) (sym finished) dropped.store;
        only = subst (ChangesOnly T (g.content k.disk)) (sym end_is) (subst (λ o. ChangesOnly (λ entry. of_drafts (id.block ∷ option_to_list o) entry) (g.content k.disk) (g.content d)) bare dropped.only);
        these = of_its_draft s.graph id block;
      }

      four : 4 ≤ free_to_come g aborted
      four = four_left g k aborted s (closed s who t false) s.graph serves T left has 0 (omega (arith, takes)) (omega (arith, serves.four))

      pub stores_aborted : StoresState g aborted (closed s who t false)
      stores_aborted = stores_stepped g k aborted s (closed s who t false) s.graph serves T left has stepped (closed_keeps s who t false serves.state) (drafts_left false) (have_left false) four

      pub strays_aborted : AddsNoStray (g.content k.disk) (final_image g d space) s.graph s.graph
      strays_aborted = strays_stepped g k aborted s (closed s who t false) s.graph serves T left has stepped (closed_keeps s who t false serves.state) (drafts_left false) (have_left false) four

      pub aborts : ((c : D) (n : ℕ) (i : Image) → g.left_since c n i → length i ≡ g.blocks c) → length (g.content k.disk) ≡ g.blocks d → k.stop ≡ None → Leaves g k.disk d (λ c. Holds c s.graph) → Answers g None k aborted s who (asks.Close t false) replies.Done
      aborts left_sized wide none leaves = record {
        event = makes_stepped g k aborted s (closed s who t false) s.graph serves T left has stepped (closed_keeps s who t false serves.state) (drafts_left false) (have_left false) four
            left_sized wide (events.Ask who (asks.Close t false) replies.Done) (legal false none) refl leaves;
        still = λ all. let no : true ≡ false = sym all in cc;
        full = λ full. let no : false ≡ true = full in cc;
        owed = owed false;
        taken = λ done. takes_alone k.handles s who (asks.Close t false) replies.Done (g.content k.disk) (final_image g d space) refl (subst (λ (ns : List ℕ). ClaimsStay false [] ns (g.content k.disk) (final_image g d space)) (sym (owners false)) (claims_meant (id.block ∷ []) (g.content k.disk) (final_image g d space) has.only));
        noted = λ done some. let no : false ≡ true = some in cc;
      }

    -- what the handles are where it failed
    abbrev doubtful : Kernel D
    doubtful = record k { disk = d; space = space; handles = with_drafting t.draw None k.handles }

    pub abort_in_doubt : length (g.content k.disk) ≡ g.blocks d → Leaves g k.disk d (λ c. Holds c s.graph) → IsInDoubt g k doubtful s who (asks.Close t false)
    abort_in_doubt wide leaves = record {
      allowed = allowed false;
      drawn = refl;
      named = refl;
      grants = grants_with t.draw None k.handles;
      leaves = wider g k.disk d _ _ leaves (λ c holds. record { graph = s.graph; may = Undone; fits = fits g k s serves (g.blocks d) wide; holds = holds });
    }

    -- ---- it becomes the object

    abbrev h : Graph
    h = with_object s.graph id before.object

    graph_is : (closed s who t true).graph ≡ h
    graph_is = committed_by s.graph (grant_of s who t) held.x before held.found held.draft_was ∙ ap (λ (e : handles.OpenGrant). with_object s.graph e.id before.object) (sym held.place.here)

    few : graph_blocks h ≤ graph_blocks s.graph + fresh
    unfolding fresh
    few = replaced_blocks s.graph id object before.object (sum_by length before.fresh) serves.store.ordered held.there
        (replaced_few (g.content k.disk) s.graph serves.store.account.holds id object held.there (serves.store.account.objects id object held.there) (opened_as was before)
        (the_draft (g.content k.disk) ds id was before (open_in g k s serves who t was held) (serves.store.account.drafts id object held.there)))

    directory_stays : kinds_of h ≡ kinds_of s.graph
    directory_stays = kinds_in-insert_entry s.graph.objects id before.object
        ∙ insert_entry-same _ id (object_kind before.object) (ap rises (keys_of-kinds_in s.graph.objects) ∙ serves.store.ordered) (directory_kind-kinds_in s.graph.objects id ∙ ap (option_map object_kind) held.there ∙ ap (λ n. Some n) (sym alike))

    state : IsState (closed s who t true)
    state = closed_keeps s who t true serves.state

    fits_after : length (g.content k.disk) ≡ g.blocks d → FitsDisk (g.blocks d) h
    fits_after wide = record {
      closed = subst IsClosedGraph graph_is (closed_graph (closed s who t true).graph state.graph);
      room = omega (arith, few, takes, room (g.content k.disk) s.graph ds serves.store.account serves.store.ordered, sum_is (g.content k.disk) k.space serves.store.counts, serves.four, ap (λ (m : ℕ). m / 64) wide);
    }

    steps : IsStepped k aborted s (closed s who t true) h
    steps = closed_stepped g k s serves who t true d space h graph_is refl directory_stays

    abbrev U : Option MapEntry → Bool
    U entry = of_owners (id.block ∷ []) entry

    module _ (noted : (l : LeftCommit) × IsNoted was.at space.left l) (committed : Committed g s.graph ds id before.object None k.disk d space) where
      holds_now : HasStepped g None k aborted s h U left
      holds_now = record { store = committed.store; only = committed.only; these = of_this s.graph id before.object }

      four_now : 4 ≤ free_to_come g aborted
      four_now = four_left g k aborted s (closed s who t true) h serves U left holds_now 0 (omega (arith, few, takes, taken_put s.graph left id object before.object serves.store.ordered held.there)) (omega (arith, serves.four))

      pub commits : ((c : D) (n : ℕ) (i : Image) → g.left_since c n i → length i ≡ g.blocks c) → length (g.content k.disk) ≡ g.blocks d → k.stop ≡ None → Leaves g k.disk d (IsOldOrNew s.graph s.graph id before.object)
          → Answers g None k aborted s who (asks.Close t true) replies.Done
      commits left_sized wide none leaves = record {
        event = makes_committed g k aborted s (closed s who t true) h serves U left holds_now steps state (drafts_left true) (have_left true) four_now
            left_sized wide (events.Ask who (asks.Close t true) replies.Done) (legal true none) (fits_after wide) leaves;
        still = λ all. let no : true ≡ false = sym all in cc;
        full = λ full. let no : false ≡ true = full in cc;
        owed = owed true;
        taken = λ done. takes_alone k.handles s who (asks.Close t true) replies.Done (g.content k.disk) (final_image g d space) refl (subst (λ (ns : List ℕ). ClaimsStay false [] ns (g.content k.disk) (final_image g d space)) (sym (owners true)) (claims_only (id.block ∷ []) (g.content k.disk) (final_image g d space) committed.only));
        noted = λ done some. subst (λ (w : Option LeftCommit). IsSome w) (sym noted.1.is) refl;
      }

    pub commit_in_doubt : length (g.content k.disk) ≡ g.blocks d → Leaves g k.disk d (IsOldOrNew s.graph s.graph id before.object) → IsInDoubt g k doubtful s who (asks.Close t true)
    commit_in_doubt wide leaves = record {
      allowed = allowed true;
      drawn = refl;
      named = refl;
      grants = grants_with t.draw None k.handles;
      leaves = wider g k.disk d _ _ leaves (λ c holds. ⊎_elim
          (λ was. record { graph = s.graph; may = Undone; fits = fits g k s serves (g.blocks d) wide; holds = was })
          (λ now. record { graph = h; may = subst (MayBeRead k.words.seed s who (asks.Close t true)) graph_is (Whole 0 (λ made. let no : true ≡ false = sym made in cc)); fits = fits_after wide; holds = now }) holds);
    }

  -- ---- as a call ends

  module _ (d : D) (space : Kept) where
    -- with its handle gone once its draft was taken
    abbrev gone : Kernel D
    gone = record k { disk = d; space = space; handles = handles_but (tables.is_session_grant who t) (with_drafting t.draw None k.handles) }

    pub gone_is : handles_but (tables.is_session_grant who t) k.handles ≡ handles_but (tables.is_session_grant who t) (with_drafting t.draw None k.handles)
    gone_is = sym (but_with who t k.handles s.grants held.handle held.x held.place)

    module _ (bare : was.created ≡ None) (left_sized : (c : D) (n : ℕ) (i : Image) → g.left_since c n i → length i ≡ g.blocks c) (wide : length (g.content k.disk) ≡ g.blocks d) (none : k.stop ≡ None) (commit : Bool) where
      pub ended_ok : EndsDraft g commit was k.disk d k.space space (Ok tt) → Answers g None k gone s who (asks.Close t commit) replies.Done
      ended_ok is = subst (λ ss. Answers g None k (record k { disk = d; space = space; handles = ss }) s who (asks.Close t commit) replies.Done) gone_is (by commit is.left (is.ends (draft_view g k s serves who t was held)))
        where
          by : (b : Bool) → LeavesDraftCommit b was.at space.left → DraftEnds (draft_view g k s serves who t was held) b d space (Ok tt) → Answers g None k (aborted d space) s who (asks.Close t b) replies.Done
          by true left e = commits d space left e.done left_sized wide none e.leaves
          by false left e = aborts d space bare left e.done left_sized wide none e.leaves

      pub ended_err : (e : Trouble) → EndsDraft g commit was k.disk d k.space space (Err e) → EndsSo g None k (doubtful d space) s who (asks.Close t commit) (Err (refused_by e))
      ended_err e is = by commit e is.tried (is.ends (draft_view g k s serves who t was held))
        where
          by : (b : Bool) (x : Trouble) → x ≢ troubles.Disk false → DraftEnds (draft_view g k s serves who t was held) b d space (Err x) → EndsSo g None k (doubtful d space) s who (asks.Close t b) (Err (refused_by x))
          by true (troubles.Disk true) tried e = commit_in_doubt d space wide e.leaves
          by false (troubles.Disk true) tried e = abort_in_doubt d space wide e.leaves
          by b (troubles.Disk false) tried e = absurd (tried refl)
          by true (troubles.Damaged damage) tried e = let no : true ≡ false = e.sound in cc
          by false (troubles.Damaged damage) tried e = let no : true ≡ false = e.sound in cc
