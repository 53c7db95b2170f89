-- A draft that takes its shadow root with its commit.
use Rattle.std.proofs.Common.{◌≡◌, ◌≢◌, ℕ, ◌%◌, ◌<◌, true, false, List, [], length, Some, None, Ok, Err, refl, sym, ◌∙◌, ap, arith, eq-eqb, length-set}
use Rattle.special_files.proofs.Words.{BlockNo, DraftView, Drafting, Enters, Free, Ghosts, Holds, Image, IsChanged, IsEntry, IsLeastFree, IsPlaced, Kept, Leaves, MapEntry, Refused, Result, Root, ShadowRoot, Trouble, WritesDraftBlock, Written, block_at, block_at-with_entry, entry_in, entry_in-set, entry_in-with_entry_other, entry_in-with_entry_same, has_met_damage, in_image, intended, is_damage, is_meant_for, left_now, length-with_entry, not_map, opened_as, refused_by, root_placed, root_spelling, same_Some, stands_for, stands_meant, taken_apart, with_entry}
use Rattle.std.proofs.lemmas.List.{get_or-set_other, get_or-set_same}
use Rattle.cfs_base.specs.declared.refusal.Trouble.TheVariants as trouble
use Rattle.special_files.proofs.Amid.{IsAmid, amid_begins, claim_leaves, claimed, write_leaves, wrote}
use Rattle.special_files.proofs.begin.Begins.{no_root, shadow_entry}
use Rattle.special_files.proofs.CommitDraft.{AtShadow, ready_with}
use Rattle.special_files.proofs.Fresh.{small_image}
use Rattle.special_files.proofs.Meant.{free_is, still_has}
use Rattle.special_files.proofs.PutCall.{find_sound}
use Rattle.special_files.proofs.View.{draft_of}

-- ---- the claim refused

same_damage : (t : Trouble) → has_met_damage (refused_by t) ≡ is_damage t
same_damage (trouble.Disk tried) = refl
same_damage (trouble.Damaged damage) = refl

-- ---- the run

module _ {D : Type 0} {g : Ghosts D} {d0 : D} {k0 : Kept} {was : Drafting} (v : DraftView g d0 k0 was) (stood : was.shadow ≡ None) {at : ℕ} (at_is : v.id.block ≡ at) where
  begins : IsAmid g v.graph v.id d0 d0 k0
  begins = amid_begins g v.graph v.ds v.id v.object d0 k0 v.store v.at

  root : IsPlaced (g.content d0) v.id.block v.id.block Root
  root = root_placed (g.content d0) (length (g.content d0)) v.id v.object (v.store.account.holds.objects v.id v.object v.at)

  real_root : v.id.block % 64 ≢ 0
  real_root = not_map v.id.block (taken_apart (g.content d0) v.graph v.store.account.holds v.id.block v.id.block root.taken)

  entry_is : IsEntry (intended ShadowRoot at)
  entry_is = shadow_entry at (λ none. real_root (omega (arith, none, at_is))) (omega (arith, at_is, in_image (g.content d0) v.graph v.store.account.holds v.id.block root.taken.is root.taken.here, small_image (g.content d0) v.graph v.store.account.holds))

  pub direct_leaves : {d1 : D} {k1 : Kept} (result : Result BlockNo Refused) → Enters g (intended ShadowRoot at) d0 d1 k0 k1 result → Leaves g d0 d1 (λ c. Holds c v.graph)
  direct_leaves {d1} {k1} result enters = claim_leaves g v.graph v.ds v.id v.object d0 k0 v.store v.at d0 d1 k0 k1 (intended ShadowRoot at) result begins enters entry_is no_root

  pub direct_sound : {d1 : D} {k1 : Kept} (t : Trouble) → Enters g (intended ShadowRoot at) d0 d1 k0 k1 (Err (refused_by t)) → is_damage t ≡ false
  direct_sound {d1} t enters = sym (same_damage t) ∙ find_sound g d0 d1 k0 v.store.carries.tells v.store.carries.holds.maps v.store.counts (refused_by t) enters.refused

  module _ {d1 : D} {k1 : Kept} (s : BlockNo) (enters : Enters g (intended ShadowRoot at) d0 d1 k0 k1 (Ok s)) where
    both : IsAmid g v.graph v.id d0 d1 k1 × IsLeastFree (g.content d0) s.0 × (g.content d1 ≡ with_entry (g.content d0) s.0 (intended ShadowRoot at))
    both = claimed g v.graph v.ds v.id v.object d0 k0 v.store v.at d0 d1 k0 k1 (intended ShadowRoot at) (Ok s) begins enters entry_is no_root s refl (eq-eqb v.id.block at at_is)

    amid1 : IsAmid g v.graph v.id d0 d1 k1
    amid1 = both.0

    free : (e : MapEntry) × (entry_in (g.content d0) s.0 ≡ Some e) × (e.state ≡ Free)
    free = free_is (g.content d0) s.0 both.1.free

    here : entry_in (g.content d1) s.0 ≡ Some (intended ShadowRoot at)
    here = ap (λ (i : Image). entry_in i s.0) both.2 ∙ entry_in-with_entry_same (g.content d0) s.0 (intended ShadowRoot at) free.0 free.1 entry_is

    stands : stands_for v.id.block (entry_in (g.content d1) s.0) ≡ true
    stands = ap (stands_for v.id.block) here ∙ eq-eqb at v.id.block (sym at_is)

    meant : is_meant_for (g.content d1) v.id.block s.0 ≡ true
    meant = stands_meant v.id.block (entry_in (g.content d1) s.0) stands

    below : s.0 < length (g.content d1)
    below = in_image (g.content d1) v.graph amid1.carries.holds s.0 (intended ShadowRoot at) here

    real : s.0 % 64 ≢ 0
    real = not_map s.0 (taken_apart (g.content d1) v.graph amid1.carries.holds s.0 at (record { is = intended ShadowRoot at; here = here; taken = λ free. cc; placed = λ none. cc; owned = refl }))

    pub direct_write_leaves : {d2 : D} {block : List ℕ} → Leaves g d1 d2 (Written (left_now g d1) s.0 block) → Leaves g d0 d2 (λ c. Holds c v.graph)
    direct_write_leaves {d2} {block} images = write_leaves g v.graph v.ds v.id v.object d0 k0 v.store v.at d1 d2 k1 s.0 block amid1 meant below images

    module _ {d2 : D} {block : List ℕ} (write : WritesDraftBlock g s.0 block d1 d2 (Ok (tt {0}))) where
      amid2 : IsAmid g v.graph v.id d0 d2 k1
      amid2 = wrote g v.graph v.ds v.id v.object d0 k0 v.store v.at d1 d2 k1 s.0 block amid1 meant below write.images write.written write.told write.calls.same

      entries : (b : ℕ) → entry_in (g.content d2) b ≡ entry_in (g.content d1) b
      entries b = ap (λ (i : Image). entry_in i b) write.written ∙ entry_in-set (g.content d1) s.0 block b real

      -- the shadow root has what was written
      direct_has : block_at (g.content d2) s.0 ≡ block
      direct_has = ap (λ (i : Image). block_at i s.0) write.written ∙ get_or-set_same (g.content d1) s.0 block [] below

      pub direct_stands : (taken dropped : List ℕ) → block ≡ root_spelling was.root → IsChanged (g.content d0) v.id (opened_as was v.draft) taken dropped → AtShadow v s.0 taken dropped d2 k1
      direct_stands taken dropped spelled lists =
          let ready =
          ready_with (g.content d0) (g.content d2) v.graph v.id v.object (opened_as was v.draft) s.0 taken dropped v.store.account.holds v.at (v.store.account.objects v.id v.object v.at) (draft_of v) lists
          (still_has (g.content d0) (g.content d2) v.graph v.ds v.id v.object v.store.account v.at amid2.only v.id v.object v.at)
          (ap (length {A = List ℕ}) write.written ∙ length-set (g.content d1) s.0 block ∙ ap (length {A = List ℕ}) both.2 ∙ length-with_entry (g.content d0) s.0 (intended ShadowRoot at))
          (λ b other. entries b ∙ ap (λ (i : Image). entry_in i b) both.2 ∙ entry_in-with_entry_other (g.content d0) s.0 (intended ShadowRoot at) free.0 b free.1 other)
          (λ b is other. ap (λ (i : Image). block_at i b) write.written ∙ get_or-set_other (g.content d1) s.0 b block [] other ∙ ap (λ (i : Image). block_at i b) both.2
          ∙ block_at-with_entry (g.content d0) s.0 (intended ShadowRoot at) b (λ map. is (omega (arith, map))))
          (ap (stands_for v.id.block) (entries s.0) ∙ stands)
          (direct_has ∙ spelled)
          (λ b is. (let no : None ≡ Some b = sym stood ∙ is in cc))
          (λ b is eq. is.taken.taken (ap (λ (e : MapEntry). e.state) (same_Some _ _ (sym is.taken.here ∙ ap (entry_in (g.content d0)) eq ∙ free.1)) ∙ free.2))
          amid2.carries.holds in
          record {
            amid = amid2;
            ready = ready.0;
            spelled = direct_has ∙ spelled;
            tree = ready.1;
            claim = λ none. (
              both.1,
              real,
              λ same. root.taken.taken (ap (λ (e : MapEntry). e.state) (same_Some _ _ (sym root.taken.here ∙ ap (entry_in (g.content d0)) (sym same) ∙ free.1)) ∙ free.2),
            );
          }
