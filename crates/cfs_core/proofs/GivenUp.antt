-- How a draft is given up while a session leaves.
use Rattle.std.proofs.Common.{◌≡◌, ◌≢◌, ◌-◌, ◌≤◌, Bool, true, false, Some, None, Result, Ok, Err, refl, sym, ◌∙◌, ap, subst, arith}
use Rattle.cfs_base.proofs.Went.{makes_none}
use Rattle.cfs_core.proofs.Words.{Drafting, Ghosts, HasFailed, Holds, is_damage, IsDraftTrouble, Kept, Leaves, refused_by, then, Trouble}
use Rattle.cfs_base.specs.declared.refusal.Trouble.TheVariants as troubles
use Rattle.cfs_base.specs.declared.refusal.Damage.{Damage}
use Rattle.special_files.specs.Committing.{AbortCall, AbortEnds, draft_top}
use Rattle.special_files.specs.Refusal.{IsDraftDamage, NoMap}
use Rattle.cfs_core.specs.declared.kernel.Stop.{Stop}
use Rattle.cfs_core.specs.Asked.{stopped_by, reply_to}
use Rattle.cfs_core.specs.Kernel.{Kernel}
use Rattle.cfs_base.proofs.Calls.{failed_since}
use Rattle.cfs_base.specs.Refusals.{trouble_after_try}
use Rattle.finisher.proofs.Finished.{finished_content, finished_store}
use Rattle.finisher.specs.Going.{IsLeftTrouble}
use Rattle.intentions.specs.Left.{StoreIs}
use Rattle.special_files.specs.View.{DraftSeen, DraftView}
use Rattle.cfs_core.specs.Finished.{FinishesLeft}
use Rattle.cfs_core.specs.Leaving.{GivesUp, MeetsDamage}
use Rattle.cfs_core.proofs.Stored.{going_in}

-- A draft wasn't given up, and the core stops.
stops_so : {D : Type 0} (g : Ghosts D) (was : Drafting) (k : Kernel D) (d : D) (space : Kept) → g.blocks d ≡ g.blocks k.disk → g.faults k.disk ≤ g.faults d → g.moment k.disk ≤ g.moment d → k.stop ≡ None
    → ((v : DraftSeen g k.disk was) → v.space ≡ k.space → Leaves g k.disk d (λ c. Holds c v.graph))
    → (e : Trouble) → e ≢ troubles.Disk false → ((b : Bool) → e ≡ troubles.Disk b → HasFailed g k.disk d) → ((damage : Damage) → e ≡ troubles.Damaged damage → MeetsDamage g (draft_top was) k (record k { disk = d; space = space }) damage)
    → ((v : DraftSeen g k.disk was) → v.space ≡ k.space → is_damage e ≡ false)
    → GivesUp g was k (record k { disk = d; space = space; stop = stopped_by (reply_to (refused_by e) (g.moment d)) k.stop })
stops_so g was k d space size faults later runs leaves e untried failed met sound = at e refl untried
  where
    no_stop : {A : Type 0} (stop : Stop) → k.stop ≡ Some stop → A
    no_stop stop is = let no : None ≡ Some stop = sym runs ∙ is in cc

    with_stop : (stop : Stop) → (stop.damage ≡ None → HasFailed g k.disk d × (stop.moment ≡ g.moment d - 1)) → ((damage : Damage) → stop.damage ≡ Some damage → MeetsDamage g (draft_top was) k (record k { disk = d; space = space }) damage × (stop.moment ≡ g.moment d))
        → ((v : DraftSeen g k.disk was) → v.space ≡ k.space → stop.damage ≡ None)
        → GivesUp g was k (record k { disk = d; space = space; stop = Some stop })
    with_stop stop fails meets calm = record {
      same = refl;
      size = size;
      faults = faults;
      later = later;
      idle = λ other is. no_stop other is;
      left = λ none still. let no : Some stop ≡ None = still in cc;
      ends = λ v now none. record {
        leaves = leaves v now;
        given = λ still. let no : Some stop ≡ None = still in cc;
        sound = λ other is. let same : stop ≡ other = cc in ap (λ (x : Stop). x.damage) (sym same) ∙ calm v now;
      };
      failed = λ other none is quiet. let same : stop ≡ other = cc in rw (← same) (fails (ap (λ (x : Stop). x.damage) same ∙ quiet));
      damaged = λ other damage none is there. let same : stop ≡ other = cc in
          let two = meets damage (ap (λ (x : Stop). x.damage) same ∙ there) in
          (record { mid = two.0.mid; calls = two.0.calls; is = two.0.is }, ap (λ (x : Stop). x.moment) (sym same) ∙ two.1);
    }

    at : (t : Trouble) → t ≡ e → t ≢ troubles.Disk false → GivesUp g was k (record k { disk = d; space = space; stop = stopped_by (reply_to (refused_by t) (g.moment d)) k.stop })
    at (troubles.Disk true) is first = with_stop _ (λ none. (failed true (sym is), refl)) (λ damage none. let no : None ≡ Some damage = none in cc) (λ v now. refl)
    at (troubles.Disk false) is first = absurd (first refl)
    at (troubles.Damaged damage) is first = with_stop _ (λ none. let no : Some damage ≡ None = none in cc) (λ other same. let one : damage ≡ other = cc in (met other (sym is ∙ ap (λ (x : Damage). troubles.Damaged x) one), refl))
        (λ v now. let no : true ≡ false = ap is_damage is ∙ sound v now in cc)

-- What was left of a commit was carried out first.
module _ {D : Type 0} (g : Ghosts D) (was : Drafting) (k : Kernel D) (d1 : D) (space1 : Kept) (tried : Bool) (fin : FinishesLeft g k.disk d1 k.space space1 (Ok tried)) (d : D) (space : Kept) (runs : k.stop ≡ None)
    (result : Result (Unit {0}) Trouble) (aborts : (v : DraftView g d1 space1 was) → AbortEnds g v.graph v.ds v.id was.created d1 d space result) (call : AbortCall g was d1 d space1 space result) where
  no_stop : {A : Type 0} (stop : Stop) → k.stop ≡ Some stop → A
  no_stop stop is = let no : None ≡ Some stop = sym runs ∙ is in cc

  size : g.blocks d ≡ g.blocks k.disk
  size = call.calls.same.size ∙ fin.ends.calls.same.size

  module _ (v : DraftSeen g k.disk was) (now : v.space ≡ k.space) where
    store : StoreIs g v.graph v.ds k.disk k.space
    store = subst (StoreIs g v.graph v.ds k.disk) now v.store

    -- the store has the draft then
    abbrev then_view : DraftView g d1 space1 was
    then_view = record { graph = v.graph; ds = v.ds; id = v.id; object = v.object; draft = v.draft; store = finished_store g v.graph v.ds k.disk d1 k.space space1 fin.goes store fin.done; at = v.at; opened = v.opened }

    leaves : Leaves g k.disk d (λ c. Holds c v.graph)
    leaves = then g k.disk d1 d _ _ (fin.goes.leaves v.graph (going_in g v.graph v.ds k.disk k.space k.space.left store)) (aborts then_view).leaves (λ c p. p)

  pub given_up : result ≡ Ok tt → GivesUp g was k (record k { disk = d; space = space })
  given_up ok = record {
    same = refl;
    size = size;
    faults = omega (arith, fin.ends.calls.faults, call.calls.faults);
    later = omega (arith, fin.ends.calls.later, call.calls.later);
    idle = λ stop is. no_stop stop is;
    left = λ none still. call.left ∙ fin.done;
    ends = λ v now none. record {
      leaves = leaves v now;
      given = λ still. record {
        mid = d1;
        space = space1;
        store = (then_view v now).store;
        none = fin.done;
        content = finished_content g v.graph v.ds k.disk d1 k.space space1 fin.goes (store v now) fin.done;
        dropped = rw ok at (aborts (then_view v now)).done;
      };
      sound = λ stop is. no_stop stop is;
    };
    failed = λ stop none is quiet. no_stop stop is;
    damaged = λ stop damage none is met. no_stop stop is;
  }

  -- it stops
  pub not_given_up : (e : Trouble) → result ≡ Err e → GivesUp g was k (record k { disk = d; space = space; stop = stopped_by (reply_to (refused_by e) (g.moment d)) k.stop })
  not_given_up e is = stops_so g was k d space size (omega (arith, fin.ends.calls.faults, call.calls.faults)) (omega (arith, fin.ends.calls.later, call.calls.later)) runs leaves e (rw is at call.tried) (at e (rw is at call.refused)) (met e (rw is at call.refused)) (λ v now. rw is at (aborts (then_view v now)).sound)
    where
      at : (t : Trouble) → IsDraftTrouble g (draft_top was) d1 d space t → (b : Bool) → t ≡ troubles.Disk b → HasFailed g k.disk d
      at (troubles.Disk x) is b same = failed_since g k.disk d1 d fin.ends.calls.later fin.ends.calls.faults is.failed
      at (troubles.Damaged damage) is b same = cc

      met : (t : Trouble) → IsDraftTrouble g (draft_top was) d1 d space t → (damage : Damage) → t ≡ troubles.Damaged damage → MeetsDamage g (draft_top was) k (record k { disk = d; space = space }) damage
      met (troubles.Disk x) is damage same = cc
      met (troubles.Damaged damage) is other same = let one : damage ≡ other = cc in record { mid = d1; calls = fin.ends.calls; is = subst (IsDraftDamage g (draft_top was) d1 d space) one is }

-- It couldn't be carried out: the draft is gone, and the core stops, also where nothing was tried.
pub not_finished : {D : Type 0} (g : Ghosts D) (was : Drafting) (k : Kernel D) (d : D) (space : Kept) (why : Trouble) (fin : FinishesLeft g k.disk d k.space space (Err why)) → k.stop ≡ None → GivesUp g was k (record k { disk = d; space = space; stop = stopped_by (reply_to (refused_by (trouble_after_try why)) (g.moment d)) k.stop })
not_finished g was k d space why fin runs = stops_so g was k d space fin.ends.calls.same.size fin.ends.calls.faults fin.ends.calls.later runs (λ v now. fin.goes.leaves v.graph (going_in g v.graph v.ds k.disk k.space k.space.left (store v now))) (trouble_after_try why) (never why) (at why fin.ends.refused) (met why fin.ends.refused)
    (λ v now. sound why (fin.goes.sound v.graph (going_in g v.graph v.ds k.disk k.space k.space.left (store v now))))
  where
    store : (v : DraftSeen g k.disk was) → v.space ≡ k.space → StoreIs g v.graph v.ds k.disk k.space
    store v now = subst (StoreIs g v.graph v.ds k.disk) now v.store

    never : (t : Trouble) → trouble_after_try t ≢ troubles.Disk false
    never (troubles.Disk x) = λ is. cc
    never (troubles.Damaged damage) = λ is. cc

    at : (t : Trouble) → IsLeftTrouble g k.disk d t → (b : Bool) → trouble_after_try t ≡ troubles.Disk b → HasFailed g k.disk d
    at (troubles.Disk x) is b same = is.failed
    at (troubles.Damaged damage) is b same = cc

    met : (t : Trouble) → IsLeftTrouble g k.disk d t → (damage : Damage) → trouble_after_try t ≡ troubles.Damaged damage → MeetsDamage g (draft_top was) k (record k { disk = d; space = space }) damage
    met (troubles.Disk x) is damage same = cc
    met (troubles.Damaged damage) is other same = let one : damage ≡ other = cc in record { mid = k.disk; calls = makes_none g k.disk _ _; is = subst (IsDraftDamage g (draft_top was) k.disk d space) one (NoMap is.0 is.1 is.2 is.3) }

    sound : (t : Trouble) → is_damage t ≡ false → is_damage (trouble_after_try t) ≡ false
    sound (troubles.Disk x) is = refl
    sound (troubles.Damaged damage) is = is
