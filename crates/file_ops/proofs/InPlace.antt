-- A normal file changed in place.
use Rattle.file_ops.proofs.Words.{if_err, Change, Damage, Err, File, Ghosts, IfErr, Kept, Leaves, MakesAtMost, Ok, OnOk, OnlyReads, Option, Refused, Result, TellsNeed, ap, arith, is_full_refusal, is_untried, length, makes_within, reads_within, refl, subst, sum, sym, true, false, ℕ, ◌+◌, ◌<◌, ◌∙◌, ◌≡◌, ◌≤◌, None, inl}
use Rattle.cyl_alloc.specs.Left.{LeftCommit}
use Rattle.file_ops.specs.Changes.{ChangesSo, ClaimsFor, EndsChange, IsDurable, IsFileRefusal, IsPlaceDamage, MayChangeFile, MayLeaveFile, need_for}
use Rattle.file_ops.specs.Limits.{change_calls, change_tries, drafted_calls}
use Rattle.intentions.specs.Left.{StoreWith, coming}
use Rattle.leaf_changes.specs.Tops.{Top}
use Rattle.normal_files.specs.Ends.{is_damaged}
use Rattle.normal_files.specs.Refusal.{IsRefusal}
use Rattle.normal_files.specs.Standing.{BecomesFile}
use Rattle.cfs_base.specs.Run.{IsSettled}
use Rattle.special_files.proofs.CommitLeft.{none_unfinished}
use Rattle.ufs_model.specs.Graph.{with_object}
use Rattle.ufs_model.specs.Object.{changed_object}
use Rattle.vol_owners.specs.Change.{ChangesOnly, of_owner}
use Rattle.cfs_base.specs.declared.kind.FileKind.TheVariants as kinds
use Rattle.cfs_base.specs.declared.refusal.Refused.TheVariants as refused
use Rattle.ufs_model.specs.declared.object.Object.TheVariants as objects

module _ {D : Type 0} (g : Ghosts D) (IsSo : Damage → Type 0) (floor : ℕ) (d0 d1 : D) (k0 : Kept) where
  full_for : (n : ℕ) (e : Refused) → IsRefusal g IsSo floor d0 d1 k0 e → TellsNeed n e → is_full_refusal e ≡ true → (e ≡ refused.Full (record { free = sum k0.free; need = n })) × (sum k0.free < n + floor)
  full_for n (refused.Full need) is told full = (
    ap (λ (m : ℕ). refused.Full (record { free = m; need = need.need })) is.0 ∙ ap (λ (m : ℕ). refused.Full (record { free = sum k0.free; need = m })) told,
    omega (arith, is.1, told),
  )
  full_for n (refused.Disk tried) is told full = cc
  full_for n (refused.Damaged damage) is told full = cc
  full_for n refused.Memory is told full = cc

-- what a call says that changed the file into another
pub record Placed {D : Type 0} {g : Ghosts D} {at : ℕ} {change : Change} {d0 : D} {k0 : Kept} (m : MayChangeFile g at kinds.Normal change d0 k0) (floor : ℕ) (to : File) (d1 : D) (k1 : Kept) (r : Result (Unit {0}) Refused) : Type 0 where
  pub done : OnOk r (BecomesFile g m.view.graph m.view.ds m.view.id to d0 d1 k1)
  pub settled : IsDurable kinds.Normal change m.file → OnOk r (IsSettled g d1)
  pub order : OnOk r (ClaimsFor kinds.Normal change at m.file (g.content d0) (g.content d1))
  pub leaves : Leaves g d0 d1 (MayLeaveFile kinds.Normal change m.view.graph m.view.id m.file)
  pub room : OnOk r (need_for kinds.Normal change m.file + floor ≤ sum k0.free)
  pub full : IfErr r (TellsNeed (need_for kinds.Normal change m.file))
  pub begun : IfErr r (λ e. e ≡ refused.Disk true → need_for kinds.Normal change m.file + floor ≤ sum k0.free)
  pub sound : IfErr r (λ e. is_damaged e ≡ false)

module _ {D : Type 0} {g : Ghosts D} {at floor : ℕ} {change : Change} {d0 d1 : D} {k0 k1 : Kept} {m : MayChangeFile g at kinds.Normal change d0 k0} {to : File} (IsSo : Damage → Type 0) (is : changed_object change (objects.File m.file) ≡ objects.File to) (none : k1.left ≡ None) where
  pub place_so : (r : Result (Unit {0}) Refused) → Placed m floor to d1 k1 r → IfErr r (IsRefusal g IsSo floor d0 d1 k0) → ChangesSo m floor d1 k1 r
  place_so (Ok tt) x why = let final = sym (ap (coming (g.content d1)) none) in record {
    done = record {
      store = rw is (subst (λ (w : Option LeftCommit). StoreWith g (with_object m.view.graph m.view.id (objects.File to)) m.view.ds d1 k1 w) (sym none) x.done.store);
      only = subst (ChangesOnly (λ entry. of_owner m.view.id.block entry) (g.content d0)) final x.done.only;
      settled = x.settled;
    };
    order = subst (ClaimsFor kinds.Normal change at m.file (g.content d0)) final x.order;
    leaves = x.leaves;
    room = x.room;
    full = tt;
    begun = tt;
    sound = tt;
  }
  place_so (Err e) x why = record {
    done = tt;
    order = tt;
    leaves = x.leaves;
    room = tt;
    full = full_for g IsSo floor d0 d1 k0 _ e why x.full;
    begun = λ tried. inl (x.begun tried);
    sound = x.sound;
  }

-- how it ends on any disk
module _ {D : Type 0} {g : Ghosts D} {at : Top} {floor : ℕ} {change : Change} {d0 d1 : D} {k0 k1 : Kept} {IsSo : Damage → Type 0} (so : (damage : Damage) → IsSo damage → IsPlaceDamage g at d0 d1 k1 damage) where
  pub place_ends : {n k t : ℕ} (r : Result (Unit {0}) Refused) → IfErr r (IsRefusal g IsSo floor d0 d1 k0) → IfErr r (λ e. is_untried e ≡ true → (k1 ≡ k0) × OnlyReads g n d0 d1) → length k1.free ≡ length k0.free → k1.left ≡ None → MakesAtMost g k t d0 d1
      → n ≤ drafted_calls → k ≤ change_calls → t ≤ change_tries → EndsChange g at kinds.Normal floor change d0 d1 k0 k1 r
  place_ends {n} {k} {t} r why untried cylinders none calls few most tries = record {
    refused = place_refusal r why (if_err r (λ e is un. (is un).0) untried);
    untried = if_err r (λ e is un. let two = is un in (two.0, reads_within g d0 d1 n drafted_calls few two.1)) untried;
    cylinders = cylinders;
    left = done r none;
    bit = done r (none_unfinished g d0 d1 k1.left none);
    calls = makes_within g d0 d1 k t change_calls change_tries most tries calls;
  }
    where
      done : {P : Type 0} (s : Result (Unit {0}) Refused) → P → OnOk s P
      done (Ok u) p = p
      done (Err e) p = tt

      place_refusal : (s : Result (Unit {0}) Refused) → IfErr s (IsRefusal g IsSo floor d0 d1 k0) → IfErr s (λ e. is_untried e ≡ true → k1 ≡ k0) → IfErr s (IsFileRefusal g at kinds.Normal floor change d0 d1 k1)
      place_refusal (Ok u) is kept = tt
      place_refusal (Err (refused.Full need)) is kept = (is.0 ∙ ap (λ (k : Kept). sum k.free) (sym (kept refl)), omega (arith, is.0, is.1))
      place_refusal (Err (refused.Disk tried)) is kept = is
      place_refusal (Err (refused.Damaged damage)) is kept = so damage is
      place_refusal (Err refused.Memory) is kept = absurd is
