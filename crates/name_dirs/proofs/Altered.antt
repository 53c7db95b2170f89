-- What a request that changes an object tells, and what it leaves.
use Rattle.std.proofs.Common.{◌≡◌, inl, inr, ℕ, ◌+◌, ◌<◌, ◌≤◌, Bool, true, false, Option, Some, None, [], ◌∷◌, refl, sym, ◌∙◌, ap, subst, arith, ◌||◌, cond}
use Rattle.std.specs.Prelude.{Err, Ok, Result, is_some}
use Rattle.cfs_base.specs.declared.identifier.Puid.{Puid}
use Rattle.cfs_base.specs.declared.refusal.Need.{Need}
use Rattle.ufs_model.specs.declared.asked.Reply.{Reply}
use Rattle.ufs_model.specs.declared.asked.Reply.TheVariants as replies
use Rattle.ufs_model.specs.declared.asked.Request.{Request}
use Rattle.ufs_model.specs.declared.asker.Asker.{Ghosts}
use Rattle.ufs_model.specs.declared.object.Object.{Object}
use Rattle.ufs_model.specs.Asks.{IsAsked, IsExactIn}
use Rattle.ufs_model.specs.Came.{ByOutcome, ByRefusal, ByTrouble, ByWant, Came, IsTroubleIn, after_trouble}
use Rattle.ufs_model.specs.Graph.{Graph, is_free_root, is_there, object_at, with_object}
use Rattle.ufs_model.specs.Identifier.{is_among, same_puid}
use Rattle.ufs_model.specs.Limits.{reserve}
use Rattle.ufs_model.specs.Need.{need_of}
use Rattle.ufs_model.specs.Next.{is_sweeping}
use Rattle.ufs_model.specs.Object.{blocks_of}
use Rattle.ufs_model.specs.Outcome.{creates, outcome_of}
use Rattle.ufs_model.specs.Refusal.{refusal_of}
use Rattle.ufs_model.specs.Room.{IsRoom, blocks_in}
use Rattle.ufs_model.specs.State.{State, is_running}
use Rattle.ufs_model.proofs.Came.{came}
use Rattle.ufs_model.proofs.Graphs.{object_at-with_object}
use Rattle.ufs_model.proofs.Reached.{same_puid_is, same_puid_itself}
use Rattle.ufs_model.proofs.Takes.{takes_no_less}
use Rattle.ufs_model.proofs.WellGraphs.{still_there}
use Rattle.name_dirs.specs.declared.fault.DirFault.{DirFault}
use Rattle.name_dirs.specs.declared.fault.DirFault.TheVariants as faults
use Rattle.name_dirs.specs.Chain.{Calls, KeepsObjects, Start, Then}
use Rattle.name_dirs.specs.Changing.{Alters, IsAlterFault, OneOf, TellsChange, done_told, id_told}
use Rattle.name_dirs.specs.Faults.{IsTooFull, after_fault, fault_told}
use Rattle.name_dirs.proofs.Chains.{keeps_same}
use Rattle.name_dirs.proofs.Heard.{loss_graph, never}

-- ---- objects after one is put

pub elsewhere : (x y : Puid) → (x ≡ y → ⊥) → same_puid x y ≡ false
elsewhere x y other = by (same_puid x y) refl
  where
    by : (b : Bool) → same_puid x y ≡ b → b ≡ false
    by true same = absurd (other (same_puid_is x y same))
    by false same = refl

pub not_same : (x y : Puid) → same_puid x y ≡ false → x ≡ y → ⊥
not_same x y other same = let both : true ≡ false = sym (same_puid_itself y) ∙ ap (λ z. same_puid z y) (sym same) ∙ other in cc both

pub at_here : (g : Graph) (x : Puid) (o : Object) → object_at (with_object g x o) x ≡ Some o
at_here g x o = object_at-with_object g x o x ∙ ap (λ b. cond b (Some o) (object_at g x)) (same_puid_itself x)

pub at_other : (g : Graph) (x : Puid) (o : Object) (y : Puid) → (y ≡ x → ⊥) → object_at (with_object g x o) y ≡ object_at g y
at_other g x o y other = object_at-with_object g x o y ∙ ap (λ b. cond b (Some o) (object_at g y)) (elsewhere y x other)

one_of : (y x : Puid) → is_among y (x ∷ []) ≡ false → y ≡ x → ⊥
one_of y x none = not_same y x (by (same_puid y x) none)
  where
    by : (b : Bool) → (b || false) ≡ false → b ≡ false
    by true h = h
    by false h = refl

pub keeps_put : (g : Graph) (x : Puid) (o : Object) → ((old : Object) → object_at g x ≡ Some old → blocks_of old ≤ blocks_of o) → KeepsObjects (x ∷ []) g (with_object g x o)
keeps_put g x o more = record {
  root = refl;
  there = λ y there. still_there g x o y there;
  others = λ y there none. at_other g x o y (one_of y x none);
  blocks = takes_no_less g x o more;
}

-- what is there is none that isn't
pub apart_from : (g : Graph) (x y : Puid) → is_there g x ≡ true → is_there g y ≡ false → x ≡ y → ⊥
apart_from g x y there none same = let both : true ≡ false = sym there ∙ ap (is_there g) same ∙ none in cc both

absent : (o : Option Object) (old : Object) → is_some o ≡ false → o ≡ Some old → ⊥
absent None old none is = cc is
absent (Some x) old none is = cc none

-- a new object, and one put in another's place
pub keeps_made : (g : Graph) (id : Puid) (o : Object) (x : Puid) (old new : Object) → is_there g id ≡ false → object_at g x ≡ Some old → blocks_of old ≤ blocks_of new → KeepsObjects (x ∷ []) g (with_object (with_object g id o) x new)
keeps_made g id o x old new none at more =
    let there : is_there g x ≡ true = ap is_some at in
    let m = with_object g id o in
    let first : KeepsObjects (id ∷ []) g m = keeps_put g id o (λ before is. absurd (absent (object_at g id) before none is)) in
    let held = at_other g id o x (apart_from g x id there none) in
    let second : KeepsObjects (x ∷ []) m (with_object m x new) = keeps_put m x new (λ before is. let same : old ≡ before = cc (sym at ∙ sym held ∙ is) in subst (λ (b : Object). blocks_of b ≤ blocks_of new) same more) in
    record {
      root = refl;
      there = λ y is. second.there y (first.there y is);
      others = λ y is among. second.others y (first.there y is) among ∙ at_other g id o y (apart_from g y id is none);
      blocks = let one = first.blocks in let two = second.blocks in omega (arith, one, two);
    }

-- ---- a request

-- what it makes of the state, done
pub record IsDone {E : Type 0} (s : State) (x : Puid) (tell : Reply → Result E DirFault) (Made : E → Graph → Type 0) (reply : Reply) (t : State) : Type 0 where
  pub answer : E
  pub tells : tell reply ≡ Ok answer
  pub made : Made answer t.graph
  pub graph : KeepsObjects (x ∷ []) s.graph t.graph
  pub grants : t.grants ≡ s.grants
  pub sweeps : is_sweeping t.collection ≡ is_sweeping s.collection
  pub stopped : t.stopped ≡ s.stopped

-- trouble and a want of blocks are told as they are
pub record TellsTroubles {E : Type 0} (s : State) (tell : Reply → Result E DirFault) : Type 0 where
  pub errs : (r : Reply) → IsTroubleIn s r → tell r ≡ Err (fault_told r)
  pub full : (n : Need) → tell (replies.Full n) ≡ Err (faults.Asked (replies.Full n))

pub done_tells : (s : State) → TellsTroubles s done_told
done_tells s = record { errs = by; full = λ n. refl }
  where
    by : (r : Reply) → IsTroubleIn s r → done_told r ≡ Err (fault_told r)
    by replies.Memory lost = refl
    by (replies.Stopped moment) lost = refl
    by (replies.Disk doubt) lost = refl
    by (replies.Damaged damage moment) lost = refl
    by r lost = absurd lost

pub id_tells : (s : State) → TellsTroubles s id_told
id_tells s = record { errs = by; full = λ n. refl }
  where
    by : (r : Reply) → IsTroubleIn s r → id_told r ≡ Err (fault_told r)
    by replies.Memory lost = refl
    by (replies.Stopped moment) lost = refl
    by (replies.Disk doubt) lost = refl
    by (replies.Damaged damage moment) lost = refl
    by r lost = absurd lost

module _ {A E : Type 0} (g : Ghosts A) (who : ℕ) (a b : A) (s : State) (x : Puid) (request : Request) (reply : Reply) (tell : Reply → Result E DirFault) (Made : E → Graph → Type 0) (most : ℕ) (also : Option Puid)
    (runs : is_running s ≡ true) (tells : TellsTroubles s tell)
    (done : (n : ℕ) → refusal_of s who request ≡ None → (creates request ≡ true → is_free_root s.graph n ≡ true) → IsDone s x tell Made (outcome_of (g.seed a) s who request n).0 (outcome_of (g.seed a) s who request n).1)
    (refused : (r : Reply) → refusal_of s who request ≡ Some r → (tell r ≡ Err (faults.Asked r)) × ((t : State) → (t ≡ s) → (t ≡ after_fault (faults.Asked r) s) × IsAlterFault (g.cylinders a) most also s x t (faults.Asked r)))
    (small : need_of s who request ≤ most)
    (asked : g.asked a who request reply b) (e : IsAsked (g.stands b) (g.seed a) s who request reply) (exact : IsExactIn (g.cylinders a) s request reply) where
  abbrev Cause : State → DirFault → Type 0
  Cause t fault = IsAlterFault (g.cylinders a) most also s x t fault

  abbrev Both : Type 0
  Both = Calls g who (OneOf s.graph Made) (x ∷ []) a b s e.after × TellsChange s Made Cause (tell reply) e.after

  kept : (t : State) → e.after ≡ t → t.graph ≡ s.graph → t.grants ≡ s.grants → t.collection ≡ s.collection → Calls g who (OneOf s.graph Made) (x ∷ []) a b s e.after
  kept t to graph grants collection = record {
    stands = e.standing;
    chain = Then (Start (inl refl)) request reply asked e.step (inl (ap (λ (u : State). u.graph) to ∙ graph));
    graph = keeps_same (x ∷ []) s.graph e.after.graph (ap (λ (u : State). u.graph) to ∙ graph);
    grants = ap (λ (u : State). u.grants) to ∙ grants;
    sweeps = ap (λ (u : State). is_sweeping u.collection) to ∙ ap is_sweeping collection;
  }

  changed : (t : State) (r : Reply) → e.after ≡ t → reply ≡ r → IsDone s x tell Made r t → Both
  changed t r to is d = (
    record {
      stands = e.standing;
      chain = Then (Start (inl refl)) request reply asked e.step (inr (d.answer, subst (λ (u : State). Made d.answer u.graph) (sym to) d.made));
      graph = subst (λ (u : State). KeepsObjects (x ∷ []) s.graph u.graph) (sym to) d.graph;
      grants = ap (λ (u : State). u.grants) to ∙ d.grants;
      sweeps = ap (λ (u : State). is_sweeping u.collection) to ∙ d.sweeps;
    },
    rw (is, d.tells, to, d.stopped) (runs, d.made),
  )

  full : (n : Need) → n.need ≡ need_of s who request → n.free < n.need + reserve → (is_sweeping s.collection ≡ false → IsRoom (g.cylinders a) s n.free) → (t : State) → t ≡ s → IsTooFull (g.cylinders a) most t n
  full n needs few has t to = record {
    few = few;
    within = omega (arith, needs, small);
    room = λ calm room is_room. let fits = has (ap (λ (u : State). is_sweeping u.collection) (sym to) ∙ calm) in omega (arith, is_room, fits, ap blocks_in to);
  }

  missed : (r : Reply) → IsTroubleIn s r → IsExactIn (g.cylinders a) s request r → (t : State) → t ≡ after_trouble r s → TellsChange s Made Cause (tell r) t
  missed replies.Memory lost exact t to = rw (tells.errs replies.Memory lost) (to, tt)
  missed (replies.Stopped moment) lost exact t to = absurd (never s.stopped moment runs lost)
  missed (replies.Disk None) lost exact t to = rw (tells.errs (replies.Disk None) lost) (to, tt)
  missed (replies.Disk (Some moment)) lost exact t to = rw (tells.errs (replies.Disk (Some moment)) lost) (to, tt)
  missed (replies.Damaged damage moment) lost exact t to = absurd exact
  missed r lost exact t to = absurd lost

  by : Came (g.seed a) s who request reply e.after → Both
  by (ByOutcome n runs_ none free is to) = changed _ _ to is (done n none free)
  by (ByRefusal runs_ none to) = let r = refused reply none in (kept s to refl refl refl, rw r.0 (r.1 e.after to))
  by (ByWant n runs_ none direct needs few is to) = (
    kept s to refl refl refl,
    rw (is, tells.full n) (to, full n needs few (subst (IsExactIn (g.cylinders a) s request) is exact).1 e.after to),
  )
  by (ByTrouble lost to) =
      let stays = loss_graph reply s in
      (kept (after_trouble reply s) to stays.0 stays.1 stays.2, missed reply lost exact e.after to)

  pub alters : Alters g who s x Made Cause a b (tell reply)
  alters = let both = by (came (g.seed a) s e.after who request reply e.step) in record { after = e.after; calls = both.0; told = both.1 }
