-- A slot put into a draft, as a change of the draft by the model.
use Rattle.std.proofs.Common.{◌≡◌, ◌⊎◌, inl, inr, ℕ, ◌+◌, ◌*◌, ◌/◌, ◌<◌, ◌≤◌, true, ◌&&◌, [], ◌∷◌, length, Option, None, Result, Ok, Err, is_none, refl, sym, ◌∙◌, ap, subst, arith, sum, IfErr, set}
use Rattle.std.proofs.lemmas.List.{get_or-set_same}
use Rattle.std.proofs.lemmas.Option.{unwrap_or-slice_get}
use Rattle.ufs_model.specs.State.{the_index}
use Rattle.cfs_base.proofs.Went.{reads_none}
use Rattle.cfs_core.proofs.Words.{cases_lt, changed_draft, Draft, DraftBecomes, Drafting, Fill, Ghosts, HasDraft, index_to_leaves, is_full_refusal, Kept, Object, OnlyReads, opened_as, Puid, Refused, slot_of, the_draft, true≢false}
use Rattle.cfs_base.specs.declared.refusal.Refused.TheVariants as refusals
use Rattle.ufs_model.specs.declared.object.Object.TheVariants as objects
use Rattle.index_drafts.specs.Puts.{IndexView, PutCall, PutsIn, PutsInDraft}
use Rattle.special_files.proofs.Refusals.{if_err}
use Rattle.special_files.specs.Drafting.{draft_takes, need_beside}
use Rattle.special_files.specs.Fills.{filled_draft}
use Rattle.special_files.specs.Limits.{resize_calls}
use Rattle.special_files.specs.View.{DraftView}
use Rattle.cfs_core.specs.Claimed.{claims_in_draft}
use Rattle.cfs_core.specs.Drafts.{AltersDraft, IsAltered, KnowsDraft}
use Rattle.cfs_core.proofs.Altered.{none_needed}
use Rattle.cfs_core.proofs.Claimed.{claims_all}
use Rattle.intentions.proofs.Changes.{all_ok}
use Rattle.cfs_core.proofs.Rewritten.{goes_on}

-- where it is Full nothing was done
pub put_spared : {D : Type 0} (g : Ghosts D) (slot : ℕ) (old new : D) (before after : Kept) (was now : Drafting) (result : Result (Unit {0}) Refused) → PutCall g slot 4 old new before after was now result
    → IfErr result (λ e. is_full_refusal e ≡ true → OnlyReads g resize_calls old new × (after ≡ before) × (now ≡ was))
put_spared {D = D} g slot old new before after was now result call = by (cases_lt (sum before.free) (draft_takes was (slot / 64) + 4))
  where
    all_err : (r : Result (Unit {0}) Refused) {P : Type 0} → P → IfErr r (λ e. is_full_refusal e ≡ true → P)
    all_err (Ok u) p = tt
    all_err (Err e) p = λ _. p

    by : (sum before.free < draft_takes was (slot / 64) + 4) ⊎ (draft_takes was (slot / 64) + 4 ≤ sum before.free) → IfErr result (λ e. is_full_refusal e ≡ true → OnlyReads g resize_calls old new × (after ≡ before) × (now ≡ was))
    by (inl less) =
        let none = call.full.full less in
        all_err result (subst (λ (d : D). OnlyReads g resize_calls old d) (sym none.1) (reads_none g resize_calls old), none.2, none.3)
    by (inr enough) = if_err result (λ e spare full. absurd (true≢false (sym full ∙ spare))) (call.full.spare enough)

module _ {D : Type 0} (g : Ghosts D) (slot : ℕ) (what : Option Puid) (old new : D) (before after : Kept) (was now : Drafting) (result : Result (Unit {0}) Refused)
    (inside : 8 * slot + 8 ≤ was.root.size)
    (puts : PutsIn g slot what 4 old new before after was now result) (knows : KnowsDraft g (Fill slot what) old before was) where
  abbrev v : DraftView g old before was
  v = knows.view

  abbrev i : IndexView g old before was
  i = record { view = v; index = knows.of_it.0; is = knows.of_it.1 }

  beside : need_beside (Fill slot what) v.draft was ≡ draft_takes was (slot / 64)
  beside = omega (arith, none_needed was knows.shadow.0 knows.shadow.1, puts.need i)

  had : HasDraft (g.content old) v.id (opened_as was v.draft)
  had = the_draft (g.content old) v.ds v.id was v.draft v.opened (v.store.account.drafts v.id v.object v.at)

  below : slot < length i.index.slots
  below =
      let size = (index_to_leaves was.root _ i.index (had.tree.object ∙ i.is)).size in
      omega (arith, size, inside)

  -- one that was emptied held something, so the draft isn't as it was
  not_still : {A : Type 0} → PutsInDraft i slot what new after now → (what ≡ None) × (g.content new ≡ g.content old) × (now ≡ was) → A
  not_still put still =
      let e = filled_draft i.index slot what v.draft in
      let then = the_draft (g.content new) _ v.id now e put.becomes.is_open (put.becomes.steps.store.account.drafts v.id v.object v.at) in
      let again : HasDraft (g.content old) v.id (opened_as was e) = subst (λ c. HasDraft c v.id (opened_as was e)) still.1 (subst (λ (w : Drafting). HasDraft (g.content new) v.id (opened_as w e)) still.2 then) in
      let one : objects.Index i.index ≡ e.object = sym i.is ∙ sym had.tree.object ∙ again.tree.object in
      let made : e.object ≡ objects.Index (record i.index { slots = set i.index.slots slot what; held = (the_index e.object).held }) = rw i.is refl in
      let none : slot_of i.index slot ≡ None = ap (λ (o : Object). slot_of (the_index o) slot) (one ∙ made) ∙ unwrap_or-slice_get (set i.index.slots slot what) slot None ∙ get_or-set_same i.index.slots slot what None below ∙ still.0 in
      let yes : is_none (slot_of i.index slot) ≡ true = ap is_none none in
      absurd (true≢false (sym yes ∙ ap (λ (o : Option Puid). is_none o && is_none (slot_of i.index slot)) (sym still.0) ∙ knows.of_it.2))

  altered : draft_takes was (slot / 64) + 4 ≤ sum before.free → PutsInDraft i slot what new after now → IsAltered v (Fill slot what) new after now
  altered enough p = record {
    becomes = subst (λ (e : Draft). DraftBecomes g v.graph v.ds v.id e old new after now) same p.becomes;
    order = elim p.order [
      | inl still ↦ not_still p still
      | inr claimed ↦ claims_all (claims_in_draft (Fill slot what) v.draft was) (v.id.block ∷ []) (g.content old) (g.content new) claimed
    ];
    room = omega (arith, enough, beside);
  }
    where
      same : filled_draft i.index slot what v.draft ≡ changed_draft (Fill slot what) v.draft
      same = rw knows.of_it.2 refl

  pub put_alters : AltersDraft v (Fill slot what) new after now result
  put_alters = elim (cases_lt (sum before.free) (draft_takes was (slot / 64) + 4)) [
    | inl less ↦ subst (AltersDraft v (Fill slot what) new after now) (sym (puts.call.full.full less).0) (record {
      goes = record { done = tt; leaves = (puts.puts i).leaves; sound = refl };
      full = λ _. (ap (λ (n : ℕ). refusals.Full (record { free = sum before.free; need = n })) (sym beside), omega (arith, less, beside));
    })
    | inr enough ↦ record { goes = goes_on (puts.puts i) (all_ok result (altered enough)); full = if_err result (λ e spare full. absurd (true≢false (sym full ∙ spare))) (puts.call.full.spare enough) }
  ]
