-- What a request came to, as the core has it then.
use Rattle.std.proofs.Common.{◌≡◌, ◌<◌, ℕ, [], length, false, Some, None, Result, Ok, Err, IsTrue, IfOk, sym, ◌∙◌, ap, subst, true}
use Rattle.cfs_core.proofs.Words.{creates, Ghosts, Image, Index, IsPlainReply, need_of, OnlyReads, Puid, Ref, refusal_of, Refused, Reply, Request, State, Through, Tuid, Wanted}
use Rattle.ufs_model.specs.declared.object.Object.TheVariants as objects
use Rattle.cyl_alloc.specs.Left.{block_shown}
use Rattle.cfs_core.specs.Calls.{Tries, TriesOn}
use Rattle.cfs_core.specs.Claimed.{claims_for}
use Rattle.cfs_core.specs.Commits.{commits}
use Rattle.cfs_core.specs.Drafts.{IsDrafted}
use Rattle.cfs_core.specs.Handles.{HoldsDraft}
use Rattle.cfs_core.specs.Kernel.{Kernel}
use Rattle.cfs_core.specs.Looks.{IsCalm, KnowsObject, ReachesAll, WasRead}
use Rattle.cfs_core.specs.StandsFor.{ServesIs}
use Rattle.cfs_core.specs.Visits.{CameTo, ReachesDraft, Sort, Visits, VisitsObject, as_object}
use Rattle.cfs_core.specs.Ways.{GoesBy, Reaches}
use Rattle.cfs_core.specs.declared.visiting.There.{There}
use Rattle.cfs_core.specs.declared.visiting.Visited.{Visited}
use Rattle.cfs_core.specs.declared.visiting.Visited.TheVariants as visited
use Rattle.cfs_core.specs.declared.way.Way.{Way}
use Rattle.cfs_core.specs.Writes.{changes_disk}
use Rattle.cfs_core.proofs.After.{absurd_keeps}
use Rattle.cfs_core.proofs.Answering.{tries_failed, tries_refused, tries_seen}
use Rattle.cfs_core.proofs.Refusing.{IsSeen}

-- ---- to which of them

module _ {D : Type 0} (g : Ghosts D) (wants : Wanted) (way : Way) (who : ℕ) (old new : Kernel D) (v : Visited) (visits : Visits g wants way who old new (Ok v)) where
  pub refused_there : (reply : Reply) → v ≡ visited.Refused reply → (request : Request) → GoesBy request wants way → Tries g old new who request (Ok reply)
  refused_there reply is = subst (λ (x : Visited). Visits g wants way who old new (Ok x)) is visits

  pub draft_there : (grant : Tuid) → v ≡ visited.Draft grant → (new ≡ old) × ReachesDraft wants way who old grant
  draft_there grant is = subst (λ (x : Visited). Visits g wants way who old new (Ok x)) is visits

  pub held_there : (grant : Tuid) → v ≡ visited.Draft grant → HoldsDraft new.handles grant.draw 0
  held_there grant is = let two = draft_there grant is in subst (λ (k : Kernel D). HoldsDraft k.handles grant.draw 0) (sym two.0) two.1.holds

  -- what is asked of the draft
  pub drafted_there : (grant : Tuid) → v ≡ visited.Draft grant → (last : Kernel D) (result : Result Reply Refused) (ask : Ref → Request) → ((session : ℕ) → IsDrafted new wants session grant → Tries g new last session (ask (Through grant)) result) → Tries g old last who (ask way.to) result
  drafted_there grant is last result ask tries =
      let two = draft_there grant is in
      subst (λ (to : Ref). Tries g old last who (ask to) result) (sym two.1.through)
      (subst (λ (k : Kernel D). Tries g k last who (ask (Through grant)) result) two.0 (tries who (subst (λ (k : Kernel D). IsDrafted k wants who grant) (sym two.0) two.1.has)))

  pub object_there : (there : There) → v ≡ visited.Object there → VisitsObject g wants way who old new there
  object_there there is = subst (λ (x : Visited). Visits g wants way who old new (Ok x)) is visits

-- ---- an object

-- on a slot of an index that is reached
pub tries_on : {D : Type 0} (g : Ghosts D) (old new : Kernel D) (who : ℕ) (request : Request) (index : Puid) (slot : ℕ) (result : Result Reply Refused) → changes_disk old request ≡ true → ReachesAll g objects.Index old who request index → TriesOn g old new index slot request result
    → ((s : State) (i : Index) → ServesIs g old s → Reaches s who request index (objects.Index i) → (slot < length i.slots) × (refusal_of s who request ≡ None)) → Tries g old new who request result
tries_on g old new who request index slot result changes reaches tries goes = record {
  keeps = λ none. absurd_keeps changes none;
  ends = λ s serves none.
      let i = reaches.0 s serves in
      let may = goes s i.0 serves i.1 in
      tries.ends s who i.0 serves none i.1 i.2 may.0 may.1;
  went = tries.went reaches.1;
}

pub near_there : {D : Type 0} (g : Ghosts D) (wants : Wanted) (way : Way) (who : ℕ) (old new : Kernel D) (there : There) → VisitsObject g wants way who old new there → there.id.block < g.blocks new.disk
near_there g wants way who old new there visits = subst (λ (n : ℕ). there.id.block < n) (sym visits.came.read.reads.same.size) visits.reaches.on_disk

module _ {D : Type 0} (g : Ghosts D) (left_sized : (d : D) (t : ℕ) (c : Image) → g.left_since d t c → length c ≡ g.blocks d) (sized : (d : D) → IsTrue (g.honest d) → length (g.content d) ≡ g.blocks d)
    (wants : Wanted) (way : Way) (who : ℕ) (old new : Kernel D) (there : There) (visits : VisitsObject g wants way who old new there) where
  -- the core as it stands then, where the object is shown at this block, and after more reads
  module _ (k : Kernel D) (view : k ≡ new) (at : ℕ) (shown : at ≡ block_shown k.space.left there.id.block) where
    since_then : (d : D) → record k { disk = d } ≡ record old { disk = d }
    since_then d = ap (λ (x : Kernel D). record x { disk = d }) (view ∙ visits.came.same)

    pub shown_there : at ≡ block_shown old.space.left there.id.block
    shown_there = shown ∙ ap (λ (x : Kernel D). block_shown x.space.left there.id.block) (view ∙ visits.came.same)

    pub read_there : WasRead g 1 at there.root old.disk k.disk
    read_there = subst (λ (d : D). WasRead g 1 at there.root old.disk d) (sym (ap (λ (x : Kernel D). x.disk) view)) (subst (λ (n : ℕ). WasRead g 1 n there.root old.disk new.disk) (sym shown_there) visits.came.read)

    pub came_there : (n : ℕ) (d : D) → OnlyReads g n old.disk d → CameTo g n old (record k { disk = d }) there.id there.root
    came_there n d reads = record { same = since_then d; read = record { reads = reads; rooted = visits.came.read.rooted } }

    module _ (request : Request) (by : GoesBy request wants way) (n : ℕ) (d : D) where
      -- it couldn't be read
      pub failed_there : (e : Refused) → IsCalm {B = Reply} g (as_object wants) n at old.disk d (Err e) → Tries g old (record k { disk = d }) who request (Err e)
      failed_there e calm = subst (λ (x : Kernel D). Tries g old x who request (Err e)) (sym (since_then d)) (tries_failed g left_sized sized (as_object wants) old there.id at shown_there who request (visits.reaches.reached request by) n d e calm.reads calm.sound calm.cause)

      -- what was asked of it
      pub seen_there : (says : Sort wants → Reply) (result : Result Reply Refused) → creates request ≡ false → ((s : State) → commits s who request ≡ false) → ((s : State) (reply : Reply) → claims_for old.handles s who request reply ≡ [])
          → ((s : State) (a : Sort wants) → ServesIs g old s → Reaches s who request there.id (as_object wants a) → (need_of s who request ≡ 0) × IsSeen old.words.seed s who request (says a)) → IfOk result IsPlainReply
          → ((a : Sort wants) → KnowsObject g old.disk at (as_object wants a) → IfOk result (λ reply. reply ≡ says a)) → IsCalm g (as_object wants) n at old.disk d result → Tries g old (record k { disk = d }) who request result
      seen_there says result makes still claims replied plain exact calm = subst (λ (x : Kernel D). Tries g old x who request result) (sym (since_then d)) (tries_seen g left_sized sized (as_object wants) old there.id at shown_there who request (visits.reaches.reached request by) n d says result makes still claims replied plain exact calm)

      -- it is refused
      pub turned_there : (reply : Reply) → IsPlainReply reply → OnlyReads g n old.disk d
          → ((s : State) (a : Sort wants) → ServesIs g old s → Reaches s who request there.id (as_object wants a) → KnowsObject g old.disk at (as_object wants a) → refusal_of s who request ≡ Some reply) → Tries g old (record k { disk = d }) who request (Ok reply)
      turned_there reply plain reads is = subst (λ (x : Kernel D). Tries g old x who request (Ok reply)) (sym (since_then d)) (tries_refused g left_sized sized (as_object wants) old there.id at shown_there who request (visits.reaches.reached request by) n d reply plain reads is)
