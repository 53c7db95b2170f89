-- A commit from the release of what is dropped to the end.
use Rattle.std.proofs.Common.{◌≡◌, inl, inr, ⊎_elim, ℕ, ◌≤◌, true, false, List, [], ◌∷◌, length, set, Ok, Some, refl, sym, ◌∙◌, ap, subst, arith, Option}
use Rattle.special_files.proofs.Words.{AreCounts, Decided, Carries, ChangesBit, ChangesOnly, Flips, Frame, Ghosts, Graph, HasItsBlocks, Holds, IfErr, Image, IsEntered, IsMapTrouble, IsOldOrNew, IsOn, IsReady, IsSettled, Keeps, Kept, Leaves, MakesAtMost, MayTurn, Object, Puid, Release, Result, Trouble, bit_set, block_at, carries_framed, entry_in, false_from_ne_true, frames_hold, in_image, is_damage, is_fixed, is_free_in, is_meant_for, is_owned_by, is_taken, keeps_frame, puid_at, not_label, not_map, of_owners, option_to_list, reserved, root_placed, same_or_not, taken_apart, the_entry, then, tree_in, trouble_after_try, turned, wider, with_bit, with_entry, with_object}
use Rattle.cyl_map.proofs.Mapped.{mapped_is}
use Rattle.intentions.proofs.Turned.{no_damage}
use Rattle.special_files.proofs.commit.CommitRoles.{none_meant, now_has, only_owners}
use Rattle.intentions.specs.Left.{coming, final_image}
use Rattle.intentions.proofs.Courses.{on_holds}
use Rattle.finisher.proofs.Calls.{counts_alike}
use Rattle.special_files.proofs.CommitLeft.{bit_is, comes_to, going_begins, open_begins, rest_of}
use Rattle.special_files.proofs.commit.CommitAfter as after_it
use Rattle.special_files.proofs.commit.CommitWhole as whole

-- ---- up to the bit

module _ {D : Type 0} (g : Ghosts D) {graph full : Graph} {at word : ℕ} {was o : Object} {s : ℕ} {taken dropped : List ℕ} {created : Option ℕ} (d0 : D) (run : Carries g graph d0) (ready : IsReady (g.content d0) full (puid_at at word) was o s taken dropped created) where
  frame_keeps : Keeps g (Frame (g.content d0) graph) d0
  frame_keeps = keeps_frame g graph d0 run

  may : MayTurn (Frame (g.content d0) graph) (g.content d0) (λ m. Release) dropped
  may = whole.release_may ready graph

  pub release_leaves : (d1 : D) (n t : ℕ) (r : Result (Unit {0}) Trouble) → Flips g n t Release dropped d0 d1 r → Leaves g d0 d1 (IsOldOrNew graph full (puid_at at word) o)
  release_leaves d1 n t r f = wider g d0 d1 (IsOn (Frame (g.content d0) graph)) (IsOldOrNew graph full (puid_at at word) o) (f.leaves (Frame (g.content d0) graph) run.holds frame_keeps may) (λ c on. inl (frames_hold (g.content d0) c graph run.holds on))

  pub release_sound : (d1 : D) (n t : ℕ) (r : Result (Unit {0}) Trouble) → Flips g n t Release dropped d0 d1 r → IfErr r (λ e. is_damage e ≡ false)
  release_sound d1 n t r f = f.sound (Frame (g.content d0) graph) run.holds frame_keeps may

  module _ (d1 : D) (n t : ℕ) (f : Flips g n t Release dropped d0 d1 (Ok tt)) where
    content1 : g.content d1 ≡ whole.a1 ready
    content1 = sym (mapped_is (turned (λ m. Release) dropped) (g.content d0) (g.content d1) (whole.whole ready) (f.put (Frame (g.content d0) graph) run.holds frame_keeps may))

    run1 : Carries g graph d1
    run1 = carries_framed g (g.content d0) graph d1 run.holds (f.keeps (Frame (g.content d0) graph) run.holds frame_keeps may)

    here1 : entry_in (g.content d1) at ≡ Some (whole.a1_root ready).taken.is
    here1 = ap (λ (i : Image). entry_in i at) content1 ∙ (whole.a1_root ready).taken.here

    pub bit_sound : (d2 : D) (e : Trouble) → IsMapTrouble g d1 d2 at e → is_damage (trouble_after_try e) ≡ false
    bit_sound d2 e is = no_damage g at d1 d2 (Frame (g.content d1) graph) run1.holds (keeps_frame g graph d1 run1) (whole.a1_root ready).taken.is here1 e is

    a2_now : with_entry (g.content d1) at (with_bit (whole.a1_root ready).taken.is) ≡ whole.a2 ready
    a2_now = ap (λ (i : Image). with_entry i at (with_bit (whole.a1_root ready).taken.is)) content1

    module _ (d2 : D) (r : Result (Unit {0}) Trouble) (bit : ChangesBit g at (λ e. with_bit e) d1 d2 r) where
      pub bit_leaves : Leaves g d1 d2 (λ c. Holds c (with_object full (puid_at at word) o))
      bit_leaves = wider g d1 d2 (λ c. c ≡ with_entry (g.content d1) at (with_bit (whole.a1_root ready).taken.is)) (λ c. Holds c (with_object full (puid_at at word) o)) (bit.images run1.tells (whole.a1_root ready).taken.is here1)
          (λ c is. subst (λ (i : Image). Holds i (with_object full (puid_at at word) o)) (sym (is ∙ a2_now)) (whole.bit ready).committed.holds)

    pub bit_put : (d2 : D) → ChangesBit g at (λ e. with_bit e) d1 d2 (Ok (tt {0})) → g.content d2 ≡ bit_set (g.content d0) at dropped
    bit_put d2 bit = bit.put run1.tells (whole.a1_root ready).taken.is here1 ∙ a2_now ∙ sym (bit_is ready)

  -- ---- from the bit on

  module _ (d1 : D) (content_is : g.content d1 ≡ bit_set (g.content d0) at dropped) where
    a2_is : g.content d1 ≡ whole.a2 ready
    a2_is = content_is ∙ bit_is ready

    -- what is left then, as a space keeps it
    module _ (before mid : Kept) (counts : AreCounts (g.content d0) before) (same : mid.free ≡ before.free) (rest : List ℕ) (rest_is : rest ≡ rest_of taken dropped created s) (noted : mid.left ≡ Some (record { root = at; shadow = s; rest = rest; copied = false })) (settled : IsSettled g d1) where
      left_is : mid.left ≡ Some (whole.left ready)
      left_is = noted ∙ ap (λ (ns : List ℕ). Some (record { root = at; shadow = s; rest = ns; copied = false })) rest_is

      counts1 : AreCounts (g.content d1) mid
      counts1 = counts_alike (g.content d1) before mid same (subst (λ (i : Image). AreCounts i before) (sym a2_is) (after_it.counts_bit ready before counts))

      abbrev b4 : Image
      b4 = whole.b4 ready

      b4_is : final_image g d1 mid ≡ b4
      b4_is = ap (coming (g.content d1)) left_is ∙ comes_to ready g d1 mid content_is settled counts1

      b4_holds : Holds b4 (with_object full (puid_at at word) o)
      b4_holds = on_holds (whole.course ready) b4 (whole.copy ready).copied (whole.b4_on ready)

      root_apart : is_fixed at ≡ false
      root_apart = taken_apart (g.content d0) full ready.holds at at (root_placed (g.content d0) (length (g.content d0)) (puid_at at word) was (ready.holds.objects (puid_at at word) was ready.at)).taken

      fixed_unowned : (q m : ℕ) → is_fixed m ≡ true → is_owned_by is_taken q (entry_in (g.content d0) m) ≡ false
      fixed_unowned q m is = false_from_ne_true _ (λ h.
          let e = the_entry is_taken q (entry_in (g.content d0) m) h in
          let same = run.holds.fixed m (in_image (g.content d0) graph run.holds m e.0 e.1) is in
          let no : is_owned_by is_taken q (Some reserved) ≡ true = sym (ap (is_owned_by is_taken q) same) ∙ h in cc)

      pub decided : Decided g full (puid_at at word) o s created d0 d1 mid
      decided = record {
        left = whole.left ready;
        kept = record { is = left_is; root = refl; uncopied = refl };
        going = going_begins ready g d1 mid content_is settled counts1;
        opens = open_begins ready g d1 mid content_is settled counts1;
        settled = settled;
        holds = subst (λ (i : Image). Holds i (with_object full (puid_at at word) o)) (sym b4_is) b4_holds;
        has = subst (λ (i : Image). HasItsBlocks i at) (sym b4_is) (now_has (g.content d0) b4 at created _ ready.has (after_it.role ready) (after_it.no_bit_now ready) (after_it.tree_now ready) (after_it.new_taken ready));
        none_meant = λ m. ap (λ (i : Image). is_meant_for i at m) b4_is ∙ none_meant (g.content d0) b4 at created _ ready.has (after_it.role ready) m;
        made = λ c is. subst (λ (i : Image). IsEntered (g.content d0) i c) (sym b4_is) (after_it.made_now ready c is);
        only = subst (λ (i : Image). ChangesOnly (λ entry. of_owners (at ∷ option_to_list created) entry) (g.content d0) i) (sym b4_is)
            (only_owners (g.content d0) b4 at created _ ready.has (after_it.role ready) (after_it.b4_size ready) b4_holds.maps b4_holds.own
            (after_it.b4_other_block ready 1 (λ zero. cc) (λ same. not_label at root_apart (sym same)))
            fixed_unowned
            (λ m loose. ⊎_elim (λ same. inr same) (λ other. inl (after_it.b4_other_block ready m (not_map m loose) other)) (same_or_not m at)));
        tree = ap (λ (i : Image). tree_in i (block_at i at)) b4_is ∙ after_it.tree_now ready;
        stays = λ m real other. ap (λ (i : Image). block_at i m) b4_is ∙ after_it.b4_other_block ready m real other;
        copied = ap (λ (i : Image). block_at i at) b4_is ∙ after_it.root_now ready;
        given_back = ap (λ (i : Image). is_free_in i s) b4_is ∙ after_it.shadow_free ready;
      }

-- ---- one call after another

module _ {D : Type 0} (g : Ghosts D) (graph full : Graph) (id : Puid) (o : Object) (d0 d1 d2 : D) where
  pub leaves_then : Leaves g d0 d1 (IsOldOrNew graph full id o) → Leaves g d1 d2 (λ c. Holds c (with_object full id o)) → Leaves g d0 d2 (IsOldOrNew graph full id o)
  leaves_then one two = then g d0 d1 d2 (IsOldOrNew graph full id o) (λ c. Holds c (with_object full id o)) one two (λ c h. inr h)

pub makes_more : {D : Type 0} (g : Ghosts D) (old new : D) (n t m s : ℕ) → n ≤ m → t ≤ s → MakesAtMost g n t old new → MakesAtMost g m s old new
makes_more g old new n t m s le lt is = record { later = is.later; keeps = is.keeps; same = is.same; faults = is.faults; calls = omega (arith, is.calls); tries = omega (arith, is.tries); no_fewer = is.no_fewer }
