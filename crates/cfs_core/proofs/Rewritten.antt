-- A draft that is written or resized, as the core asks for it.
use Rattle.std.proofs.Common.{◌≡◌, ℕ, ◌+◌, ◌-◌, ◌/◌, ◌≤◌, Bool, true, false, [], None, Some, Ok, Err, refl, subst, arith, IfErr, OnOk, Result}
use Rattle.cfs_base.proofs.Went.{makes_within}
use Rattle.cfs_core.proofs.Words.{Change, Drafting, EndsCall, Ghosts, Graph, HasStopped, is_damage, has_met_damage, is_full_refusal, Kept, OnlyReads, reads_within, Refused, refused_by, Resizes, Trouble}
use Rattle.cfs_base.specs.declared.refusal.Trouble.TheVariants as troubles
use Rattle.cfs_base.specs.declared.refusal.Refused.TheVariants as refusals
use Rattle.cfs_core.specs.Drafts.{AltersDraft, ChangesDraft, KnowsDraft, StaysOf}
use Rattle.special_files.specs.Puts.{StaysBut}
use Rattle.cfs_core.specs.Looks.{IsDraftCause}
use Rattle.special_files.specs.Limits.{resize_calls, resize_tries}
use Rattle.special_files.specs.View.{GoesHolding}
use Rattle.leaf_changes.specs.Tops.{Top}
use Rattle.special_files.specs.Looks.{ReadCall}
use Rattle.special_files.specs.Refusal.{top_of}

-- 4,096 bytes touch nine leaves at most
pub few_leaves : (offset count : ℕ) → count ≤ 4096 → (offset + count + 512 - 1) / 512 - offset / 512 ≤ 9
few_leaves offset count few = omega (arith, few)

module _ {D A : Type 0} (g : Ghosts D) (at : Top) (n t k : ℕ) (old new : D) (before after : Kept) (was now : Drafting) where
  -- where it failed and nothing had been tried, all is as it was
  pub untried_so : (r : Result A Refused) → n ≤ resize_calls → EndsCall g at 4 n t k old new before after r → IfErr r (λ e. e ≡ refusals.Disk false → now ≡ was) → IfErr r (λ e. e ≡ refusals.Disk false → OnlyReads g resize_calls old new × (after ≡ before) × (now ≡ was))
  untried_so (Ok x) less ends kept = tt
  untried_so (Err e) less ends kept = λ is. (reads_within g old new n resize_calls less (ends.untried is).1, (ends.untried is).0, kept is)

  -- where a resize is Full it made one read at most
  pub spared_one : (r : Result A Refused) → IfErr r (λ e. is_full_refusal e ≡ true → OnlyReads g 1 old new × (after ≡ before) × (now ≡ was)) → IfErr r (λ e. is_full_refusal e ≡ true → OnlyReads g resize_calls old new × (after ≡ before) × (now ≡ was))
  spared_one (Ok x) is = tt
  spared_one (Err e) is = λ full. (reads_within g old new 1 resize_calls (omega arith) (is full).0, (is full).1, (is full).2)

-- what a call has done more
pub goes_on : {D A P Q : Type 0} {g : Ghosts D} {graph : Graph} {old new : D} {r : Result A Refused} → GoesHolding g graph P old new r → OnOk r (P → Q) → GoesHolding g graph Q old new r
goes_on {A = A} {P = P} {Q = Q} {r = r} goes more = record { done = by r goes.done more; leaves = goes.leaves; sound = goes.sound }
  where
    by : (r : Result A Refused) → OnOk r P → OnOk r (P → Q) → OnOk r Q
    by (Ok a) p f = f p
    by (Err e) p f = tt

-- a change of a draft by such a call
pub changes_so : {D : Type 0} (g : Ghosts D) (change : Change) {n t k : ℕ} (old new : D) (before after : Kept) (was now : Drafting) (r : Result (Unit {0}) Refused) → n ≤ resize_calls → t ≤ resize_tries
    → ((knows : KnowsDraft g change old before was) → AltersDraft knows.view change new after now r) → EndsCall g (top_of was) 4 n t k old new before after r → IfErr r (λ e. e ≡ refusals.Disk false → now ≡ was)
    → IfErr r (λ e. is_full_refusal e ≡ true → OnlyReads g resize_calls old new × (after ≡ before) × (now ≡ was)) → StaysOf was now → ChangesDraft g change old new before after was now r
changes_so g change {n = n} {t = t} {k = k} old new before after was now r few fewer alters ends kept spared stays = record {
  alters = alters;
  untried = untried_so g (top_of was) n t k old new before after was now r few ends kept;
  spared = spared;
  refused = ends.refused;
  stays = stays;
  cylinders = ends.moves.cylinders;
  left = ends.moves.left;
  calls = makes_within g old new n t resize_calls resize_tries few fewer ends.calls;
}

-- ---- where it is, its shadow root and what it makes are left

pub stays_of : {was now : Drafting} → StaysBut was now → StaysOf was now
stays_of is = record { at = is.at; shadow = is.shadow; created = is.created }

pub resized_stays : (size : ℕ) (was now : Drafting) (r : Result (Unit {0}) Refused) → Resizes size was now r → StaysOf was now
resized_stays size was now (Ok u) stays = record { at = stays.at; shadow = stays.shadow; created = stays.created }
resized_stays size was now (Err e) stays = record { at = stays.at; shadow = stays.shadow; created = stays.created }

-- ---- a draft is read

pub sound_told : (t : Trouble) (e : Refused) → e ≡ refused_by t → is_damage t ≡ false → has_met_damage e ≡ false
sound_told (troubles.Disk tried) e is sound = rw is refl
sound_told (troubles.Damaged damage) e is sound = cc

pub draft_cause : {D A : Type 0} (g : Ghosts D) (n : ℕ) (old new : D) (was : Drafting) (t : Trouble) (e : Refused) → e ≡ refused_by t → ReadCall {A = A} g n old new was (Err t) → IsDraftCause g (top_of was) old new e
draft_cause g n old new was (troubles.Disk tried) e is call = rw is (call.untried, subst (λ (b : Bool). HasStopped g b old new) call.untried (call.refused (record { free = []; left = None })))
draft_cause g n old new was (troubles.Damaged damage) e is call = rw is call.refused

pub same_draft : (a b : Drafting) → Some a ≡ Some b → a ≡ b
same_draft a b is = cc
