-- How an opening for reading ends, and a closing of a grant that has no draft.
use Rattle.std.proofs.Common.{◌≡◌, ℕ, ◌+◌, List, [], ◌∷◌, ◌++◌, length, Bool, true, false, cond, Option, Some, None, is_some, IsTrue, Ok, refl, sym, ◌∙◌, arith, ◌==◌, nat_le}
use Rattle.cfs_core.proofs.Words.{AcquireFault, and_parts, closed, closed_keeps, committed, fault_by, Ghosts, Grant, grant_of, Graph, Image, Kept, kinds_of, list_all, list_all-append, list_any, Mode, MOST_GRANTS, nat_tests, outcome_legal, refusal_of, State, Tuid}
use Rattle.open_table.specs.declared.fault.AcquireFault.TheVariants as faults
use Rattle.open_table.specs.Grants as tables
use Rattle.ufs_model.specs.declared.asked.Event.TheVariants as events
use Rattle.ufs_model.specs.declared.asked.Reply.TheVariants as replies
use Rattle.ufs_model.specs.declared.asked.Request.TheVariants as asks
use Rattle.cfs_core.specs.Calls.{Answers, ByOutcome, Tries}
use Rattle.cfs_core.specs.Kernel.{Kernel, Handle, is_drawn_by}
use Rattle.cfs_core.specs.Handles.{have_draft, is_at, is_drawn, handles_but}
use Rattle.std.specs.Prelude.{◌&&◌}
use Rattle.cyl_alloc.specs.Left.{LeftCommit}
use Rattle.cfs_core.specs.Commits.{commits}
use Rattle.cfs_core.specs.StandsFor.{ServesIs, ServesWith, StoresState, end_in, free_to_come}
use Rattle.cfs_core.proofs.Answering.{owes}
use Rattle.cfs_base.proofs.Went.{reads_none}
use Rattle.cfs_core.proofs.Moved.{IsStepped}
use Rattle.cfs_core.proofs.Regranted.{KeepsDrafts, but_keeps, but_table, draft_none, drawn_more, makes_after, stores_after}
use Rattle.cfs_core.proofs.Handled.{none_of_grant}
use Rattle.cfs_core.proofs.Went.{went_so}
use Rattle.cfs_core.proofs.Serving.{honest, running}
use Rattle.cfs_core.specs.Claimed.{owners_of}
use Rattle.cfs_core.proofs.Claimed.{claims_none, takes_alone}

-- ---- why a grant isn't acquired

pub locked_by : (m : Option Mode) (count : ℕ) (fault : AcquireFault) (mode : Mode) → fault_by m count ≡ Some fault → fault ≡ faults.Locked mode → is_some m ≡ true
locked_by (Some x) count fault mode is same = refl
locked_by None count fault mode is same = at (nat_le MOST_GRANTS count) is
  where
    at : (b : Bool) → cond b (Some faults.Grants) None ≡ Some fault → false ≡ true
    at true h = cc
    at false h = cc

pub many_by : (m : Option Mode) (count : ℕ) (fault : AcquireFault) → fault_by m count ≡ Some fault → fault ≡ faults.Grants → (is_some m ≡ false) × (nat_le MOST_GRANTS count ≡ true)
many_by (Some x) count fault is same = cc
many_by None count fault is same = (refl, at (nat_le MOST_GRANTS count) is)
  where
    at : (b : Bool) → cond b (Some faults.Grants) None ≡ Some fault → b ≡ true
    at true h = refl
    at false h = cc

pub none_by : (m : Option Mode) (count : ℕ) → fault_by m count ≡ None → (is_some m ≡ false) × (nat_le MOST_GRANTS count ≡ false)
none_by (Some x) count is = cc
none_by None count is = (refl, at (nat_le MOST_GRANTS count) is)
  where
    at : (b : Bool) → cond b (Some faults.Grants) None ≡ None → b ≡ false
    at true h = cc
    at false h = refl

-- ---- a grant is closed

module _ (seed : ℕ) (s : State) (who : ℕ) (t : Tuid) (commit : Bool) where
  pub close_none : grant_of s who t ≡ None → refusal_of s who (asks.Close t commit) ≡ Some replies.NoGrant
  close_none none = rw none refl

  pub close_goes : (x : Grant) → grant_of s who t ≡ Some x → refusal_of s who (asks.Close t commit) ≡ None
  close_goes x found = rw found refl

-- the state without it, of which these are the objects
pub closed_stepped : {D : Type 0} {w : Option LeftCommit} (g : Ghosts D) (k : Kernel D) (s : State) → ServesWith g k s w → (who : ℕ) (t : Tuid) (commit : Bool) (d : D) (space : Kept) (h : Graph) → (closed s who t commit).graph ≡ h → h.root ≡ s.graph.root → kinds_of h ≡ kinds_of s.graph
    → IsStepped k (record k { disk = d; space = space; handles = handles_but (tables.is_session_grant who t) k.handles }) s (closed s who t commit) h
closed_stepped g k s serves who t commit d space h graph rooted kinds = record {
  graph = graph;
  rooted = rooted;
  stopped = refl;
  sweeping = refl;
  drawn = serves.front.drawn;
  named = serves.front.directory ∙ sym kinds;
  root = refl;
  stop = refl;
  table = but_table (tables.is_session_grant who t) k.handles s.grants serves.front.grants;
}

and_false : (b : Bool) → (b && false) ≡ false
and_false true = refl
and_false false = refl

-- where its handle has no draft
module _ {D : Type 0} (g : Ghosts D) (k : Kernel D) (s : State) (serves : ServesIs g k s) (who : ℕ) (t : Tuid) (commit : Bool) (x : Grant) (found : grant_of s who t ≡ Some x) (bare : have_draft (is_at t.draw) k.handles ≡ false) where
  abbrev left : List Handle
  left = handles_but (tables.is_session_grant who t) k.handles

  none_of_it : have_draft (tables.is_session_grant who t) k.handles ≡ false
  none_of_it = none_of_grant who t k.handles bare

  closed_graph : (closed s who t commit).graph ≡ s.graph
  closed_graph = at commit
    where
      kept : committed (grant_of s who t) s.graph ≡ s.graph
      kept = let none = draft_none _ who t k.handles s.grants serves.front.grants serves.drafts none_of_it x found in rw (found, none) refl

      at : (b : Bool) → (closed s who t b).graph ≡ s.graph
      at true = kept
      at false = refl

  stepped : IsStepped k (record k { handles = left }) s (closed s who t commit) s.graph
  stepped = closed_stepped g k s serves who t commit k.disk k.space s.graph closed_graph refl refl

  keeps : KeepsDrafts k.handles left s.grants (closed s who t commit).grants
  keeps = but_keeps (tables.is_session_grant who t) _ k.handles s.grants serves.front.grants serves.drafts none_of_it

  pub stores_closed : StoresState g (record k { handles = left }) (closed s who t commit)
  stores_closed = stores_after g k left s (closed s who t commit) serves stepped (closed_keeps s who t commit serves.state) keeps

  pub answers_closed : ((d : D) (t : ℕ) (c : Image) → g.left_since d t c → length c ≡ g.blocks d) → ((d : D) → IsTrue (g.honest d) → length (g.content d) ≡ g.blocks d) → k.stop ≡ None
      → Answers g k.space.left k (record k { handles = left }) s who (asks.Close t commit) replies.Done
  answers_closed left_sized sized none = record {
    event = makes_after g k left s (closed s who t commit) serves stepped (closed_keeps s who t commit serves.state) keeps left_sized (sized k.disk (honest g k s serves))
        (events.Ask who (asks.Close t commit) replies.Done) (outcome_legal k.words.seed s who (asks.Close t commit) 0 (running g k s serves none) goes (λ made. let no : true ≡ false = sym made in cc));
    still = λ all. let no : false ≡ true = all in cc;
    full = λ full. let no : false ≡ true = full in cc;
    noted = λ done some. let no : true ≡ false = sym some ∙ undrafted_closes in cc;
    taken = λ done. takes_alone k.handles s who (asks.Close t commit) replies.Done (end_in g k) (end_in g k) refl (claims_none (owners_of s who (asks.Close t commit) replies.Done) (end_in g k) (end_in g k) refl);
    owed = owes k.words.seed s who (asks.Close t commit) (end_in g k) (free_to_come g k) replies.Done tt
        (ByOutcome goes (record { block = 0; least = λ made. let no : true ≡ false = sym made in cc; reply_is = refl; room = λ short. omega (arith, short.few, serves.four) }));
  }
    where
      -- no draft is committed
      undrafted_closes : commits s who (asks.Close t commit) ≡ false
      undrafted_closes = rw (found, draft_none _ who t k.handles s.grants serves.front.grants serves.drafts none_of_it x found) (and_false commit)

      goes : refusal_of s who (asks.Close t commit) ≡ None
      goes = close_goes 0 s who t commit x found

pub tries_closed : {D : Type 0} (g : Ghosts D) → ((d : D) (t : ℕ) (c : Image) → g.left_since d t c → length c ≡ g.blocks d) → ((d : D) → IsTrue (g.honest d) → length (g.content d) ≡ g.blocks d)
    → (k : Kernel D) (who : ℕ) (t : Tuid) (commit : Bool) → have_draft (is_at t.draw) k.handles ≡ false → ((s : State) → ServesIs g k s → (x : Grant) × (grant_of s who t ≡ Some x))
    → Tries g k (record k { handles = handles_but (tables.is_session_grant who t) k.handles }) who (asks.Close t commit) (Ok replies.Done)
tries_closed g left_sized sized k who t commit bare the = record {
  keeps = λ _. record { space = refl; most = 0; reads = reads_none g 0 k.disk };
  ends = λ s serves none. let x = the s serves in answers_closed g k s serves who t commit x.0 x.1 bare left_sized sized none;
  went = went_so g k k.disk k.space (handles_but (tables.is_session_grant who t) k.handles) refl (omega arith) (omega arith) (asks.Close t commit) (Ok replies.Done) tt tt;
}

-- ---- what is drawn next is of no grant yet

pub not_drawn : (ss : List Handle) (n draw : ℕ) → draw ≡ n + 1 → list_all (is_drawn_by n) ss ≡ true → list_any (is_drawn draw) ss ≡ false
not_drawn [] n draw next is = refl
not_drawn (x ∷ ss) n draw next is =
    let two = and_parts (is_drawn_by n x) (list_all (is_drawn_by n) ss) is in
    let other : is_drawn draw x ≡ false = apart x.grant.tuid.draw n draw next two.0 in rw (other, not_drawn ss n draw next two.1) refl
  where
    apart : (d n m : ℕ) → m ≡ n + 1 → nat_le d n ≡ true → (m == d) ≡ false
    apart d n m next le = grind (arith, nat_tests)

pub drawn_push : (ss : List Handle) (x : Handle) (n m : ℕ) → m ≡ n + 1 → x.grant.tuid.draw ≡ m → list_all (is_drawn_by n) ss ≡ true → list_all (is_drawn_by m) (ss ++ x ∷ []) ≡ true
drawn_push ss x n m next draw is = list_all-append (is_drawn_by m) ss (x ∷ []) ∙ rw (drawn_more ss n m next is, last x.grant.tuid.draw m draw) refl
  where
    last : (d m : ℕ) → d ≡ m → nat_le d m ≡ true
    last d m same = grind (arith, nat_tests)
