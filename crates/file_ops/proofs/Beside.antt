-- A special file changed by a draft that is begun, changed and committed.
use Rattle.file_ops.proofs.Words.{◌≡◌, inl, inr, ℕ, ◌+◌, ◌<◌, ◌≤◌, Bool, true, false, length, Option, Some, None, Ok, Err, refl, sym, ◌∙◌, ap, subst, arith, IfErr, OnOk, Result, sum, if_err, on_ok, HasStopped, HasTried, MakesAtMost, OnlyReads, Image, block_at, Leaves, Tells, Ghosts, Refused, makes_then, makes_within, reads_make, reads_then, stopped_after_reads, stopped_after_try, tells_on, then_tried, still_tells, then, wider, IsRootBlock, Root, Kept, is_untried, file_to_leaves, AreClaimed, Change, Overwrite, IsOldOrNew, Drafting, begun_at, need_beside, opened_as, EndsCall, damage_since, refusal_after_reads, has_met_damage, is_full_refusal, with_again, without_with, with_object, changed_object, changed_draft, Holds, one_root_block, Drafts, ChangesOnly, of_draft, of_owner, is_meant, is_placed, is_taken, and_from, and_parts, placed_taken, changes_then, changes_wider, MapEntry, reads_within, Draft, File, Object, SetSize}
use Rattle.file_ops.specs.Changes.{BesideCall, ChangesFile, ChangesSo, ClaimsBeside, CommitsBeside, DirectCall, IsCommitRefusal, IsFileRefusal, MayChangeFile, NoneLeft, OfBlock, Short, claims_beside, is_resize, least_size, need_for}
use Rattle.file_ops.specs.Limits.{change_calls, change_tries, drafted_calls}
use Rattle.file_ops.proofs.Views.{Begun, DraftChanged, view_changed, handed, standing}
use Rattle.cyl_alloc.specs.Left.{LeftCommit}
use Rattle.intentions.specs.Left as after_commit
use Rattle.intentions.specs.Left.{StoreIs}
use Rattle.ufs_model.specs.Object.{IsInside}
use Rattle.ufs_model.specs.declared.change.Change.TheVariants.{Fill}
use Rattle.leaf_changes.proofs.Tops.{far_block}
use Rattle.leaf_changes.specs.Tops.{IsFarRoot, disk_top, still_top}
use Rattle.normal_files.proofs.FileCalls.{handed_file, images_read}
use Rattle.special_files.proofs.Refusals.{damage_as, near_at, refusal_as}
use Rattle.special_files.specs.Begins.{drafts_begun, equal_to}
use Rattle.special_files.specs.Committing.{FarMade, FarRoots, FarShadow, IsFarPart, IsNoted, draft_top}
use Rattle.special_files.specs.Limits.{changed_reads, commit_calls, commit_tries, resize_calls, resize_tries}
use Rattle.special_files.specs.Refusal.{IsDraftRefusal, top_of}
use Rattle.special_files.specs.View.{DraftView, GoesHolding, ObjectView}
use Rattle.cfs_base.specs.declared.kind.FileKind.TheVariants as kinds
use Rattle.cfs_base.specs.declared.refusal.Refused.TheVariants as refused
use Rattle.ufs_model.specs.declared.object.Object.TheVariants as objects

-- what a draft may change is the object's
draft_owned : (r : ℕ) (entry : Option MapEntry) → of_draft r entry ≡ true → of_owner r entry ≡ true
draft_owned r entry is = let two = and_parts (is_placed is_meant entry) _ is in and_from (is_placed is_taken entry) _ (placed_taken is_meant refl entry two.0) two.1

-- ---- refusals

module _ {D : Type 0} (g : Ghosts D) (at floor : ℕ) (change : Change) (d0 d1 : D) (k1 : Kept) where
  from_refusal : (low : ℕ) (e : Refused) → low ≤ floor → IsDraftRefusal g (disk_top g at d0) low d0 d1 k1 e → IsFileRefusal g (disk_top g at d0) kinds.Special floor change d0 d1 k1 e
  from_refusal low (refused.Full need) less is = (is.0, omega (arith, is.1, less))
  from_refusal low (refused.Disk tried) less is = is
  from_refusal low (refused.Damaged damage) less is = OfBlock is
  from_refusal low refused.Memory less is = absurd is

-- ---- nothing was changed

module _ {D : Type 0} {g : Ghosts D} {at floor : ℕ} {change : Change} {d0 d1 : D} {k0 k1 : Kept} where
  -- each image holds what it held
  refused_so : (m : MayChangeFile g at kinds.Special change d0 k0) (e : Refused) → Leaves g d0 d1 (λ c. Holds c m.view.graph) → (is_full_refusal e ≡ true → (e ≡ refused.Full (record { free = sum k0.free; need = need_for kinds.Special change m.file })) × (sum k0.free < need_for kinds.Special change m.file + floor))
      → has_met_damage e ≡ false → ChangesSo m floor d1 k1 (Err e)
  refused_so m e left full sound = record { done = tt; order = tt; leaves = wider g d0 d1 _ _ left (λ c h. inl h); room = tt; full = full; begun = λ is. inr left; sound = sound }

  only_read : (e : Refused) → OnlyReads g 1 d0 d1 → k1 ≡ k0 → is_full_refusal e ≡ false → IsFileRefusal g (disk_top g at d0) kinds.Special floor change d0 d1 k1 e → ((m : MayChangeFile g at kinds.Special change d0 k0) → has_met_damage e ≡ false)
      → ChangesFile g at kinds.Special floor change d0 d1 k0 k1 (Err e)
  only_read e reads kept spare why sound = record {
    goes = λ m. refused_so m e (images_read reads _) (λ is. (let no : true ≡ false = sym is ∙ spare in cc)) (sound m);
    ends = record { refused = why; untried = λ is. (kept, reads_within g d0 d1 1 drafted_calls (omega arith) reads); cylinders = ap (λ (k : Kept). length k.free) kept; left = tt; bit = tt; calls = makes_within g d0 d1 1 0 change_calls change_tries (omega arith) (omega arith) (reads_make g d0 d1 1 reads) };
  }

  -- no draft was begun
  pub never_begun : (e : Refused) → DirectCall g at d0 d1 k0 k1 (Err e) → ((v : ObjectView g d0 k0 at) → has_met_damage e ≡ false) → ChangesFile g at kinds.Special floor change d0 d1 k0 k1 (Err e)
  never_begun e call sound = only_read e call.reads call.space call.spare
      (from_refusal g at floor change d0 d1 k1 0 e (omega arith) (refusal_as g (still_top at) (disk_top g at d0) refl d0 d1 k1 (λ far. absurd far) 0 e call.refused)) (λ m. sound (standing m))

  -- the root is one of fewer bytes
  pub too_short : (own : Root) → OnlyReads g 1 d0 d1 → k1 ≡ k0 → (Tells g d0 → IsRootBlock (block_at (g.content d0) at) own) → own.size < least_size change → ChangesFile g at kinds.Special floor change d0 d1 k0 k1 (Err (refused.Damaged (record { block = at; code = 3 })))
  too_short own reads kept there short = only_read _ reads kept refl
      (Short refl refl (λ tells root is. subst (λ (r : Root). r.size < least_size change) (one_root_block (block_at (g.content d0) at) own root (there tells) is) short))
      (λ m. let file = handed_file (handed m) in
      let same = ap (λ (r : Root). r.size) (one_root_block (block_at (g.content d0) at) own file.root (there m.view.store.carries.tells) file.tree.spelled) in
      absurd (not_inside change m.file m.inside (omega (arith, short, same, (file_to_leaves file.root _ m.file file.tree.object).size))))
    where
      not_inside : (c : Change) (f : File) → IsInside c (objects.File f) → length f.bytes < least_size c → ⊥
      not_inside (Overwrite offset bytes) f inside short = omega (arith, inside, short)
      not_inside (SetSize size) f inside short = omega (arith, short)
      not_inside (Fill slot what) f inside short = omega (arith, short)

-- ---- a change in a draft

-- the same draft still, but for its pointers, its size and what is fresh; where its root leads past the disk it did before
pub record SameParts (size : ℕ) (was now : Drafting) : Type 0 where
  pub at : now.at ≡ was.at
  pub shadow : now.shadow ≡ was.shadow
  pub own : now.own ≡ was.own
  pub created : now.created ≡ was.created
  pub near : IsFarRoot size now.root → IsFarRoot size was.root

-- what a call says that made the change in a draft, which was begun before
pub record MakesBeside {D : Type 0} (g : Ghosts D) (at floor n t : ℕ) (change : Change) (d0 d1 d2 : D) (k0 k1 k2 : Kept) (was now : Drafting) (r : Result (Unit {0}) Refused) : Type 0 where
  pub begun : Begun g at d0 d1 k0 k1 was
  pub goes : (m : MayChangeFile g at kinds.Special change d0 k0) → GoesHolding g m.view.graph (DraftChanged m floor d1 d2 k1 k2 was now) d1 d2 r
  pub full : (m : MayChangeFile g at kinds.Special change d0 k0) → IfErr r (λ e. is_full_refusal e ≡ true
      → (e ≡ refused.Full (record { free = sum k1.free; need = need_beside change (equal_to (objects.File m.file)) was })) × (sum k1.free < need_beside change (equal_to (objects.File m.file)) was + floor))
  pub spared : IfErr r (λ e. is_full_refusal e ≡ true → OnlyReads g 1 d1 d2 × (k2 ≡ k1))
  pub stays : OnOk r (SameParts (g.blocks d2) was now)
  pub ends : EndsCall g (top_of was) floor n t (sum k1.free) d1 d2 k1 k2 r
  pub few : n ≤ resize_calls
  pub few_tries : t ≤ resize_tries

-- where the draft was begun it equals its object, and the counts are as they were
flat : {D : Type 0} {g : Ghosts D} {at floor n t : ℕ} {change : Change} {d0 d1 d2 : D} {k0 k1 k2 : Kept} {was now : Drafting} {r : Result (Unit {0}) Refused} → MakesBeside g at floor n t change d0 d1 d2 k0 k1 k2 was now r → MakesBeside g at floor n t change d0 d1 d2 k0 k0 k2 (begun_at at None was.own) now r
flat {g = g} {at} {floor} {n} {t} {change} {d0} {d1} {d2} {k0} {k1} {k2} {was} {now} {r} x =
    subst (λ (k : Kept). MakesBeside g at floor n t change d0 d1 d2 k0 k k2 (begun_at at None was.own) now r) x.begun.call.space (subst (λ (w : Drafting). MakesBeside g at floor n t change d0 d1 d2 k0 k1 k2 w now r) x.begun.call.begun x)

module _ {D : Type 0} {g : Ghosts D} {at floor n t : ℕ} {change : Change} {d0 d1 d2 : D} {k0 k2 : Kept} {own : Root} {now : Drafting} {r : Result (Unit {0}) Refused} (x : MakesBeside g at floor n t change d0 d1 d2 k0 k0 k2 (begun_at at None own) now r) where
  reads : OnlyReads g 1 d0 d1
  reads = x.begun.call.reads

  images : (m : MayChangeFile g at kinds.Special change d0 k0) → Leaves g d0 d2 (λ c. Holds c m.view.graph)
  images m = then g d0 d1 d2 _ _ (images_read reads _) (x.goes m).leaves (λ c h. h)

  -- a root that leads past the disk is the one that the disk had
  far : (size : ℕ) → IsFarRoot size own → (disk_top g at d0).IsFar size
  far size is tells = far_block size at (g.content d0) own (x.begun.call.root tells) is

  made : MakesAtMost g drafted_calls resize_tries d0 d2
  made = makes_then g d0 d1 d2 1 n drafted_calls 0 t resize_tries (reads_make g d0 d1 1 reads) x.ends.calls (omega (arith, x.few)) (omega (arith, x.few_tries))

pub refused_change : {D : Type 0} {g : Ghosts D} {at floor n t : ℕ} {change : Change} {d0 d1 d2 : D} {k0 k1 k2 : Kept} {was now : Drafting} {e : Refused} → MakesBeside g at floor n t change d0 d1 d2 k0 k1 k2 was now (Err e) → ChangesFile g at kinds.Special floor change d0 d2 k0 k2 (Err e)
refused_change {g = g} {at} {floor} {n} {t} {change} {d0} {d1} {d2} {k0} {k1} {k2} {was} {now} {e} y = let x = flat y in record {
  goes = λ m. refused_so m e (images x m) (x.full m) (x.goes m).sound;
  ends = record {
    refused = from_refusal g at floor change d0 d2 k2 floor e (omega arith) (refusal_after_reads g (disk_top g at d0) d0 d1 d2 k2 floor 1 e (reads x) (refusal_as g _ (disk_top g at d0) refl d1 d2 k2 (far x (g.blocks d2)) floor e x.ends.refused));
    untried = by e (reads x) x.ends.refused x.ends.untried x.spared;
    cylinders = x.ends.moves.cylinders;
    left = tt;
    bit = tt;
    calls = makes_within g d0 d2 drafted_calls resize_tries change_calls change_tries (omega arith) (omega arith) (made x);
  };
}
  where
    by : (e : Refused) → OnlyReads g 1 d0 d1 → IsDraftRefusal g (top_of (begun_at at None was.own)) floor d1 d2 k2 e → (e ≡ refused.Disk false → (k2 ≡ k0) × OnlyReads g n d1 d2) → (is_full_refusal e ≡ true → OnlyReads g 1 d1 d2 × (k2 ≡ k0)) → is_untried e ≡ true → (k2 ≡ k0) × OnlyReads g drafted_calls d0 d2
    by (refused.Full need) first is stopped full un = let two = full refl in (two.1, reads_then g d0 d1 d2 1 1 drafted_calls first two.0 (omega arith))
    by (refused.Disk true) first is stopped full un = cc
    by (refused.Disk false) first is stopped full un = let two = stopped refl in (two.0, reads_then g d0 d1 d2 1 n drafted_calls first two.1 (omega (arith, y.few)))
    by (refused.Damaged damage) first is stopped full un = cc
    by refused.Memory first is stopped full un = absurd is

-- ---- and committed

module _ {D : Type 0} {g : Ghosts D} {at floor n t : ℕ} {change : Change} {d0 d1 d2 d3 : D} {k0 k1 k2 k3 : Kept} {was now : Drafting} {wrote : Bool} {r : Result (Unit {0}) Refused} (y : MakesBeside g at floor n t change d0 d1 d2 k0 k1 k2 was now (Ok tt))
    (lacks : sum k2.free ≡ 0 → is_resize change ≡ true) (tried : wrote ≡ true → HasTried g d1 d2) (untried : wrote ≡ false → (k2 ≡ k1) × OnlyReads g 1 d1 d2) (call : BesideCall g now wrote d2 d3 k2 k3 r) (commits : (v : DraftView g d2 k2 now) → now.created ≡ None → CommitsBeside v d3 k3 r) where
  abbrev x : MakesBeside g at floor n t change d0 d1 d2 k0 k0 k2 (begun_at at None was.own) now (Ok (tt {0}))
  x = flat y

  on : Tells g d0 → Tells g d2
  on tells = still_tells g (tells_on g d0 d1 d1 1 (reads x) tells) x.ends.told x.ends.calls.same

  -- ---- why it is refused

  far_part : IsFarPart (g.blocks d3) now.shadow now.own now.root now.created → (disk_top g at d0).IsFar (g.blocks d3)
  far_part (FarRoots (inl is)) = far x (g.blocks d3) (subst (IsFarRoot (g.blocks d3)) x.stays.own is)
  far_part (FarRoots (inr is)) = far x (g.blocks d3) (near_at now.root was.own call.calls.same.size x.stays.near is)
  far_part (FarShadow is) = let no : None ≡ Some is.n = sym x.stays.shadow ∙ is.is in cc
  far_part (FarMade is) = let no : None ≡ Some is.n = sym x.stays.created ∙ is.is in cc

  why : (w : Bool) → (w ≡ true → HasTried g d1 d2) → (w ≡ false → (k2 ≡ k0) × OnlyReads g 1 d1 d2) → (s : Result (Unit {0}) Refused) → IfErr s (IsCommitRefusal g (draft_top now) w d2 d3 k2 k3) → IfErr s (λ e. e ≡ refused.Disk false → (k3 ≡ k2) × OnlyReads g (1 + changed_reads) d2 d3)
      → IfErr s (λ e. IsFileRefusal g (disk_top g at d0) kinds.Special floor change d0 d3 k3 e × (is_untried e ≡ true → (k3 ≡ k0) × OnlyReads g drafted_calls d0 d3) × (is_full_refusal e ≡ false))
  why w had none (Ok u) is only = tt
  why w had none (Err (refused.Full need)) is only = absurd is
  why true had none (Err (refused.Disk true)) is only = (stopped_after_try g d0 d2 d3 drafted_calls resize_tries is.0 (made x) (then_tried g d0 d1 d2 1 0 (reads_make g d0 d1 1 (reads x)) (had refl)) is.2, λ un. cc, refl)
  why true had none (Err (refused.Disk false)) is only = let no : false ≡ true = is.1 in cc
  why false had none (Err (refused.Disk true)) is only = (subst (λ (b : Bool). HasStopped g b d0 d3) (sym is.1) (stopped_after_reads g d0 d2 d3 2 is.0 (reads_then g d0 d1 d2 1 1 2 (reads x) (none refl).1 (omega arith)) is.2), λ un. cc, refl)
  why false had none (Err (refused.Disk false)) is only =
      let first = reads_then g d0 d1 d2 1 1 2 (reads x) (none refl).1 (omega arith) in
      let last = only refl in
      (subst (λ (b : Bool). HasStopped g b d0 d3) (sym is.1) (stopped_after_reads g d0 d2 d3 2 is.0 first is.2), λ un. (last.0 ∙ (none refl).0, reads_then g d0 d2 d3 2 (1 + changed_reads) drafted_calls first last.1 (omega arith)), refl)
  why w had none (Err (refused.Damaged damage)) (inl is) only = (OfBlock (damage_since g (disk_top g at d0) d0 d2 d3 k3 damage on (damage_as g (draft_top now) (disk_top g at d0) x.stays.at d2 d3 k3 far_part damage is)), λ un. cc, refl)
  why w had none (Err (refused.Damaged damage)) (inr is) only = (NoneLeft (lacks (ap (λ (k : Kept). sum k.free) (sym is.1) ∙ is.0.none)) is.0, λ un. cc, refl)
  why w had none (Err refused.Memory) is only = absurd is

  whys : IfErr r (λ e. IsFileRefusal g (disk_top g at d0) kinds.Special floor change d0 d3 k3 e × (is_untried e ≡ true → (k3 ≡ k0) × OnlyReads g drafted_calls d0 d3) × (is_full_refusal e ≡ false))
  whys = why wrote tried (λ no. let two = untried no in (two.0 ∙ y.begun.call.space, two.1)) r call.refused call.untried

  -- ---- where the store has the file

  commits_so : (m : MayChangeFile g at kinds.Special change d0 k0) → ChangesSo m floor d3 k3 r
  commits_so m = record {
    done = on_ok r (λ ch. record {
      store = subst (λ (ds : Drafts). StoreIs g (with_object m.view.graph m.view.id o) ds d3 k3) (with_again m.view.id None (drafts_begun (standing m) (begun_at at None was.own)) (Some (opened_as now d)) ∙ without_with m.view.id _ m.view.ds m.shut) ch.store;
      only = changes_then _ (g.content d0) (g.content d2) (after_commit.final_image g d3 k3)
          (changes_wider (λ entry. of_draft m.view.id.block entry) (λ entry. of_owner m.view.id.block entry) (g.content d0) (g.content d2) (draft_owned m.view.id.block) (subst (λ (a : Image). ChangesOnly (λ entry. of_draft m.view.id.block entry) a (g.content d2)) (reads x).content go.done.becomes.steps.only)) ch.only;
      settled = λ durable. ch.settled;
    }) ends.done;
    order = on_ok r (λ ch. subst (λ (b : ℕ). ClaimsBeside b (claims_beside at change m.file) (g.content d0) (after_commit.final_image g d3 k3)) m.view.root (record {
      mid = g.content d2;
      in_order = subst (λ (a : Image). AreClaimed (claims_beside at change m.file) a (g.content d2)) (reads x).content go.done.order;
      shadow = ch.order _ go.done.becomes.is_open.alone x.stays.shadow;
      only = ch.only;
    })) ends.done;
    leaves = then g d0 d2 d3 _ _ (wider g d0 d2 _ (IsOldOrNew m.view.graph m.view.graph m.view.id o) (images x m) (λ c h. inl h)) ends.leaves (λ c h. h);
    room = on_ok r (λ ch. go.done.room) ends.done;
    full = if_err r (λ e is full. (let no : true ≡ false = sym full ∙ is.2 in cc)) whys;
    begun = if_err r (λ e is same. inl go.done.room) call.refused;
    sound = ends.sound go.done.spare;
  }
    where
      o : Object
      o = changed_object change (objects.File m.file)

      d : Draft
      d = changed_draft change (equal_to (objects.File m.file))

      go : GoesHolding g m.view.graph (DraftChanged m floor d1 d2 k0 k2 (begun_at at None was.own) now) d1 d2 (Ok (tt {0}))
      go = x.goes m

      ends : CommitsBeside (view_changed go.done) d3 k3 r
      ends = commits (view_changed go.done) x.stays.created

  pub ended : ChangesFile g at kinds.Special floor change d0 d3 k0 k3 r
  ended = record {
    goes = commits_so;
    ends = record {
      refused = if_err r (λ e is. is.0) whys;
      untried = if_err r (λ e is. is.1) whys;
      cylinders = call.cylinders ∙ x.ends.moves.cylinders;
      left = subst (λ (b : ℕ). OnOk r ((l : LeftCommit) × IsNoted b k3.left l)) x.stays.at call.left;
      bit = on_ok r (λ bit. record { tried = λ some. then_tried g d0 d2 d3 drafted_calls resize_tries (made x) (bit.tried some); settled = λ some tells. bit.settled some (on tells) }) call.bit;
      calls = makes_then g d0 d2 d3 drafted_calls commit_calls change_calls resize_tries commit_tries change_tries (made x) call.calls (omega arith) (omega arith);
    };
  }
