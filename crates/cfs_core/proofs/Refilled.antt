-- A draft changed, with what was left of a commit carried out before.
use Rattle.std.proofs.Common.{◌≡◌, ◌+◌, ℕ, length, Some, None, Result, Ok, true, false, IsTrue, refl, sym, ap, subst, arith, nat_lt, eq-eqb, Bool, List}
use Rattle.ufs_model.specs.Next.{is_direct_delete}
use Rattle.cfs_core.specs.Claimed.{claims_for_slot}
use Rattle.cfs_core.proofs.Words.{Change, Fill, Ghosts, Image, list_all, nat_tests, Puid, Refused, Request, State, Through, Tuid, named, edge_stays}
use Rattle.ufs_model.specs.declared.asked.Request.TheVariants as asks
use Rattle.ufs_model.specs.declared.asked.Reply.TheVariants as replies
use Rattle.ufs_model.specs.Outcome.{with_edge}
use Rattle.cyl_alloc.specs.Space.{Kept}
use Rattle.cfs_core.specs.Calls.{done_or}
use Rattle.cfs_core.specs.Drafts.{ChangesDraft, HasGrant, IsAltering, TriesThroughWith}
use Rattle.cfs_core.specs.Finished.{FinishesLeft, since}
use Rattle.cfs_core.specs.Handles.{ChangesHeld, with_drafting}
use Rattle.cfs_core.specs.Kernel.{Handle, Kernel, is_ready}
use Rattle.cfs_core.specs.StandsFor.{sweeps_now}
use Rattle.cfs_core.proofs.Altered.{altered_through, changed_through, not_beside}
use Rattle.cfs_core.proofs.Joined.{done_decides, done_never, where_since}
use Rattle.cfs_core.proofs.Views.{held_in}

-- ---- the requests on a slot

-- an identifier is put into a slot of a draft
pub retain_alters : (s : State) (who : ℕ) (t : Tuid) (slot : ℕ) (id : Puid) → IsAltering s who t (asks.Retain (Through t) slot id) (Fill slot (Some id))
retain_alters s who t slot id = record {
  memory = with_edge (named s who (Through t)) id s.collection;
  sweeps = edge_stays sweeps_now (λ a b c d. refl) (named s who (Through t)) id s.collection;
  outcome = λ seed b x d found has. ap (λ (y : State). (replies.Done, record y { collection = with_edge (named s who (Through t)) id s.collection })) (changed_through s who t (Fill slot (Some id)) x d found has);
  need = refl;
  makes = refl;
  to = refl;
  claims = λ handles reply d has. rw (has, claims_for_slot) refl;
  resizes = refl;
  alone = λ d has. not_beside s who t d has;
  commits_is = λ d has. not_beside s who t d has;
  delete = refl;
  full = λ seed n run goes need few. let less : nat_lt n.free (n.need + 4) ≡ true = grind (arith, nat_tests) in rw (run, goes, eq-eqb n.need _ need, less) refl;
  speaks = refl;
}

-- a slot of a draft is emptied
pub delete_alters : (s : State) (who : ℕ) (t : Tuid) (slot : ℕ) → IsAltering s who t (asks.Delete (Through t) slot) (Fill slot None)
delete_alters s who t slot = record {
  memory = s.collection;
  sweeps = refl;
  outcome = λ seed b x d found has. ap (λ (y : State). (replies.Done, y)) (changed_through s who t (Fill slot None) x d found has);
  need = refl;
  makes = refl;
  to = refl;
  claims = λ handles reply d has. rw (has, claims_for_slot) refl;
  resizes = refl;
  alone = λ d has. not_beside s who t d has;
  commits_is = λ d has. not_beside s who t d has;
  delete = refl;
  full = λ seed n run goes need few. let less : nat_lt n.free (n.need + 4) ≡ true = grind (arith, nat_tests) in rw (run, goes, eq-eqb n.need _ need, less) refl;
  speaks = refl;
}

-- ---- the whole call

pub tries_redrafted : {D : Type 0} (g : Ghosts D) (left_sized : (d : D) (t : ℕ) (c : Image) → g.left_since d t c → length c ≡ g.blocks d) (sized : (d : D) → IsTrue (g.honest d) → length (g.content d) ≡ g.blocks d)
    (k : Kernel D) (d1 : D) (k1 : Kept) (tried : Bool) (finishes : FinishesLeft g k.disk d1 k.space k1 (Ok tried)) (ready : list_all (is_ready k.directory.room) k.handles ≡ true) (who : ℕ) (t : Tuid) (change : Change) (request : Request) (has : HasGrant k who t)
    (delete : is_direct_delete request ≡ false) (disk : D) (space : Kept) (result : Result (Unit {0}) Refused) (handles : List Handle) (done : ChangesHeld t.draw k.handles handles (λ was now. ChangesDraft g change d1 disk k1 space was now result))
    → TriesThroughWith g k.space.left k (record k { disk = disk; space = space; handles = handles }) who t change request (since tried (done_or result))
tries_redrafted g left_sized sized k d1 k1 tried finishes ready who t change request has delete disk space result handles done =
    let mid : Kernel _ = record k { disk = d1; space = k1 } in
    let new : Kernel _ = record k { disk = disk; space = space; handles = with_drafting t.draw (Some done.now) k.handles } in
    let changed = altered_through g left_sized sized mid ready who t done.was done.has (held_in g mid who t done.was done.has has.found has.law) change request delete done.now disk space result done.so in
    subst (λ hs. TriesThroughWith g k.space.left k (record k { disk = disk; space = space; handles = hs }) who t change request (since tried (done_or result))) (sym done.with_it)
    (where_since g k d1 k1 tried finishes left_sized sized new done.so.calls.same.size request (done_or result) (done_decides result) (done_never result (λ is. rw is at done.so.refused)) who _ (λ s so. so.goes) changed)
