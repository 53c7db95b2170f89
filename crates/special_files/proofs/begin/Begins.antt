-- A draft begun with its shadow root.
use Rattle.std.proofs.Common.{◌≡◌, ◌≢◌, inl, inr, ℕ, ◌%◌, ◌^◌, ◌<◌, true, false, List, length, Ok, Some, refl, sym, ◌∙◌, ap, subst, eq-eqb, arith}
use Rattle.special_files.proofs.Words.{BeginsDraft, BlockNo, Enters, Free, Ghosts, HasDraftIf, Holds, Image, IsEntry, IsLeastFree, IsPlaced, IsRootBlock, Kept, Leaves, MapEntry, ObjectView, OnlyReads, Refused, Result, Root, ShadowRoot, begun_at, block_at, block_at-with_entry, both_ways, cases_Bool, created_if, draft_goes_on, entry_in, entry_in-with_entry_other, entry_in-with_entry_same, eqb-false, eqb-true, in_image, intended, is_meant, is_meant_for, is_owned_by, lt-ltb, not_map, root_placed, same_Some, stands_for, taken_apart, with_entry, ◌==◌}
use Rattle.block_tree.specs.declared.root.Root as roots
use Rattle.special_files.proofs.Amid.{IsAmid, amid_begins, amid_reads, claim_leaves, claimed}
use Rattle.special_files.proofs.Begun.{begun_as, begun_draft}
use Rattle.special_files.proofs.Fresh.{small_image}
use Rattle.special_files.proofs.Meant.{free_is, still_has}

pub shadow_entry : (r : ℕ) → r ≢ 0 → r < 2 ^ 32 → IsEntry (intended ShadowRoot r)
shadow_entry r some small = record { in_table = rw (lt-ltb 0 r (omega (arith, some)), lt-ltb r (2 ^ 32) small) refl }

pub no_root : Some ShadowRoot ≢ Some Root
no_root same = cc

module _ {D : Type 0} {g : Ghosts D} {d0 d1 : D} {k0 : Kept} {at : ℕ} (v : ObjectView g d0 k0 at) (reads : OnlyReads g 1 d0 d1) where
  abbrev a : Image
  a = g.content d0

  abbrev e : MapEntry
  e = intended ShadowRoot at

  root : IsPlaced a at at Root
  root = subst (λ (n : ℕ). IsPlaced a n n Root) v.root (root_placed a (length a) v.id v.object (v.store.account.holds.objects v.id v.object v.there))

  real : at % 64 ≢ 0
  real = not_map at (taken_apart a v.graph v.store.account.holds at at root.taken)

  is_entry : IsEntry e
  is_entry = shadow_entry at (λ none. real (omega (arith, none))) (omega (arith, in_image a v.graph v.store.account.holds at root.taken.is root.taken.here, small_image a v.graph v.store.account.holds))

  amid1 : IsAmid g v.graph v.id d0 d1 k0
  amid1 = amid_reads g v.graph v.ds v.id v.object d0 k0 v.store v.there d0 d1 k0 1 (amid_begins g v.graph v.ds v.id v.object d0 k0 v.store v.there) reads

  pub begin_leaves : {d2 : D} {k1 : Kept} (result : Result BlockNo Refused) → Enters g e d1 d2 k0 k1 result → Leaves g d0 d2 (λ c. Holds c v.graph)
  begin_leaves {d2} {k1} result enters = claim_leaves g v.graph v.ds v.id v.object d0 k0 v.store v.there d1 d2 k0 k1 e result amid1 enters is_entry no_root

  pub begin_opens : {d2 : D} {k1 : Kept} (s : BlockNo) → Enters g e d1 d2 k0 k1 (Ok s) → (own : roots.Root) → IsRootBlock (block_at a at) own → BeginsDraft v d2 k1 (begun_at at (Some s.0) own)
  begin_opens {d2} {k1} s enters own is none = record {
    steps = record {
      store = record {
        carries = amid.carries;
        account = draft_goes_on a b v.graph v.ds v.id v.object (Some (begun_as v.id (Some s.0) v.object own)) v.store.account v.there
            (begun_draft b v.graph amid.carries.holds v.id v.object v.there (still_has a b v.graph v.ds v.id v.object v.store.account v.there amid.only v.id v.object v.there) own own_is (Some s.0) stands only) amid.only (sym (ap created_if none));
        counts = amid.counts;
        ordered = v.store.ordered;
      };
      only = amid.only;
    };
    least = (s.0, refl, least);
  }
    where
      claim : IsAmid g v.graph v.id d0 d2 k1 × IsLeastFree (g.content d1) s.0 × (g.content d2 ≡ with_entry (g.content d1) s.0 e)
      claim = claimed g v.graph v.ds v.id v.object d0 k0 v.store v.there d1 d2 k0 k1 e (Ok s) amid1 enters is_entry no_root s refl (eq-eqb v.id.block at v.root)

      amid : IsAmid g v.graph v.id d0 d2 k1
      amid = claim.0

      b : Image
      b = g.content d2

      content : g.content d2 ≡ with_entry a s.0 e
      content = claim.2 ∙ ap (λ (i : Image). with_entry i s.0 e) reads.content

      least : IsLeastFree a s.0
      least = subst (λ (i : Image). IsLeastFree i s.0) reads.content claim.1

      was : (f : MapEntry) × (entry_in a s.0 ≡ Some f) × (f.state ≡ Free)
      was = free_is a s.0 least.free

      own_is : IsRootBlock (block_at (g.content d2) v.id.block) own
      own_is =
          let kept = ap (λ (i : Image). block_at i at) content ∙ block_at-with_entry a s.0 e at (λ same. real (omega (arith, same))) in
          subst (λ (c : List ℕ). IsRootBlock c own) (sym (ap (block_at (g.content d2)) v.root ∙ kept)) is

      stands : (t : ℕ) → Some s.0 ≡ Some t → stands_for v.id.block (entry_in (g.content d2) t) ≡ true
      stands t same =
          let here = ap (λ (i : Image). entry_in i s.0) content ∙ entry_in-with_entry_same a s.0 e was.0 was.1 is_entry in
          subst (λ (n : ℕ). stands_for v.id.block (entry_in (g.content d2) n) ≡ true) (same_Some _ _ same) (ap (stands_for v.id.block) here ∙ eq-eqb at v.id.block (sym v.root))

      nothing : (n : ℕ) → is_meant_for a v.id.block n ≡ false
      nothing = subst (HasDraftIf a v.id) none (v.store.account.drafts v.id v.object v.there)

      only : (n : ℕ) → is_meant_for (g.content d2) v.id.block n ≡ true → Some s.0 ≡ Some n
      only n meant = elim (cases_Bool (n == s.0)) [
        | inl same ↦ ap Some (sym (eqb-true n s.0 same))
        | inr not ↦ absurd (both_ways _ (nothing n) (ap (is_owned_by is_meant v.id.block) (sym (ap (λ (i : Image). entry_in i n) content ∙ entry_in-with_entry_other a s.0 e was.0 n was.1 (eqb-false n s.0 not))) ∙ meant))
      ]
