-- The image that a commit ends with.
use Rattle.std.proofs.Common.{◌≡◌, ◌≢◌, inl, inr, ⊎_elim, ℕ, ◌%◌, ◌<◌, Bool, true, false, List, [], length, Option, Some, refl, sym, ◌∙◌, ap, subst, length-set, arith}
use Rattle.special_files.proofs.Words.{AreCounts, Graph, Image, IntendAllocate, IntendDeallocate, IsEntered, IsEntry, IsReady, IsTaken, Kept, MapEntry, Object, Puid, Release, Settles, StandsIn, bit_valid, block_at, block_at-with_entry, both_ways, cases_Bool, changed_if, counts_same, entry_in, entry_in_table, false_from_ne_true, finished, finished_part, has_number, in_image, is_committed, is_free, is_free_entry, is_free_in, is_had, is_meant, is_meant_for, is_owned_by, is_taken, length-with_entry, not_map, part_at, part_of, released, same_Some, same_or_not, same_tree, stands_meant, taken_apart, taken_of, tree_in, turned, with_bit, with_bit_at, without_bit}
use Rattle.std.proofs.lemmas.List.{get_or-set_other, get_or-set_same}
use Rattle.cyl_map.proofs.Mapped.{mapped_by}
use Rattle.special_files.proofs.commit.CommitEntries.{bits_same, dropped_free, finished_had, no_bit, released_free, undone_free, with_bit_free}
use Rattle.special_files.proofs.commit.CommitFlips.{counts_stay}
use Rattle.special_files.proofs.commit.CommitRoles.{Gone, Made, Now, Role, Same, block_stands, made_alone}
use Rattle.special_files.proofs.commit.CommitWhole.{Dropped, Entered, LeftPart, Shadow, Taken, a1, a1_block, a1_dropped, a1_kept, a1_root, a1_tree, a1_turns, a2, a3, a3_entry, after, b4, b4_is, b4_on, b4_other, b4_part, b4_root, bit, copy, dropped_inner, had_entry, in_rest, inner_root, inner_shadow, made_meant_at, made_not_dropped, made_not_root, made_root_at, meant_state, new_inner, part_is, real, rest, root, root_not_dropped, root_shadow, shadow, shadow_not_dropped, taken_inner, taken_not_dropped, whole}

module _ {a : Image} {g : Graph} {id : Puid} {was o : Object} {s : ℕ} {taken dropped : List ℕ} {created : Option ℕ} (ready : IsReady a g id was o s taken dropped created) where
  -- ---- afterwards

  b4_root_is : entry_in (b4 ready) id.block ≡ Some (without_bit (with_bit (root ready).taken.is))
  b4_root_is = b4_root ready ∙ ap (λ (e : MapEntry). Some (without_bit (with_bit e))) (same_Some _ _ (sym (a1_root ready).taken.here ∙ a1_kept ready id.block (root_not_dropped ready) ∙ (root ready).taken.here))

  pub no_bit_now : is_committed (part_at (b4 ready) id.block) ≡ false
  no_bit_now = ap (λ (x : Option MapEntry). is_committed (part_of x)) b4_root_is ∙ no_bit (with_bit (root ready).taken.is)

  taken_of_id : (n : ℕ) → IsTaken a n id.block → is_owned_by is_taken id.block (entry_in a n) ≡ true
  taken_of_id n t = taken_of a n id.block t

  pub new_taken : (m : ℕ) → StandsIn (tree_in a (block_at a s)) m → is_owned_by is_taken id.block (entry_in a m) ≡ true
  new_taken m at = taken_of_id m (new_inner ready m at).taken

  -- a block that isn't dropped has its entry as it was until then
  kept_entry : (m : ℕ) → m ≢ id.block → has_number m dropped ≡ false → entry_in (a3 ready) m ≡ entry_in a m
  kept_entry m other not = a3_entry ready m other ∙ a1_kept ready m not

  abbrev Becomes : ℕ → Type 0
  Becomes m = Role a (b4 ready) id.block created (tree_in a (block_at a s)) m

  role_root : Becomes id.block
  role_root = Now (taken_of_id id.block (root ready).taken)
      (ap (is_owned_by is_had id.block) b4_root_is ∙ bits_same is_had id.block (root ready).taken.is ∙ ap (is_owned_by is_had id.block) (sym (root ready).taken.here) ∙ ready.has.each id.block (inl refl)) (inl refl)

  shadow_meant : is_meant_for a id.block s ≡ true
  shadow_meant = stands_meant id.block (entry_in a s) ready.draft.stands

  pub shadow_free : is_free_in (b4 ready) s ≡ true
  shadow_free = ap is_free_entry (b4_part ready s (Shadow refl) (shadow ready).taken.is (kept_entry s (λ same. root_shadow ready (sym same)) (shadow_not_dropped ready) ∙ (shadow ready).taken.here))
      ∙ undone_free (shadow ready).taken.is (meant_state ready s (shadow ready).taken.is shadow_meant (shadow ready).taken.here)

  made_entry : (m : ℕ) → (is : created ≡ Some m) → entry_in (b4 ready) m ≡ Some (finished (made_root_at ready m is).at.taken.is)
  made_entry m is = b4_part ready m (Entered is) (made_root_at ready m is).at.taken.is (kept_entry m (made_not_root ready m is) (made_not_dropped ready m is) ∙ (made_root_at ready m is).at.taken.here)

  made_had : (m : ℕ) → created ≡ Some m → is_owned_by is_had m (entry_in (b4 ready) m) ≡ true
  made_had m is = ap (is_owned_by is_had m) (made_entry m is) ∙ finished_had m (made_root_at ready m is).at.taken.is (ap (is_owned_by is_meant m) (sym (made_root_at ready m is).at.taken.here) ∙ made_meant_at ready m is)

  role_part : (m : ℕ) → LeftPart s taken dropped created m → Becomes m
  role_part m (Taken is) =
      let t = taken_inner ready m is in
      Now (taken_of_id m t.taken)
      (ap (is_owned_by is_had id.block) (b4_part ready m (Taken is) t.taken.is (kept_entry m (inner_root ready m t) (taken_not_dropped ready m is) ∙ t.taken.here))
      ∙ finished_had id.block t.taken.is (ap (is_owned_by is_meant id.block) (sym t.taken.here) ∙ ready.meant m is))
      (inr (ready.stands m is))
  role_part m (Dropped is) =
      let t = dropped_inner ready m is in
      Gone (taken_of_id m t.taken)
      (ap is_free_entry (b4_part ready m (Dropped is) (released t.taken.is) (a3_entry ready m (inner_root ready m t) ∙ a1_dropped ready m is)) ∙ dropped_free id.block t.taken.is (had_entry ready m is) t.no_root t.no_shadow)
      (λ stands. ⊎_elim (λ root_is. inner_root ready m t root_is) (λ at. ready.gone m is at) stands)
  role_part m (Entered is) = Made is (taken_of a m m (made_root_at ready m is).at.taken) (made_had m is) (made_not_root ready m is)
  role_part m (Shadow is) = subst Becomes (sym is) (Gone (taken_of_id s (shadow ready).taken) shadow_free
      (λ stands. ⊎_elim (λ root_is. root_shadow ready (sym root_is)) (λ at. inner_shadow ready s (new_inner ready s at) refl) stands))

  role_other : (m : ℕ) → m ≢ id.block → (LeftPart s taken dropped created m → ⊥) → Becomes m
  role_other m no_root none =
      let not_dropped : has_number m dropped ≡ false = false_from_ne_true _ (λ there. none (Dropped there)) in
      Same (b4_other ready m no_root none ∙ kept_entry m no_root not_dropped)
      (false_from_ne_true _ (λ meant. ⊎_elim (λ is. none (Shadow is)) (λ there. none (Taken there)) (ready.all m meant)))
      (λ had. ⊎_elim (λ is. inl is) (λ at. ⊎_elim (λ there. inr there) (λ there. absurd (none (Dropped there))) (ready.others m at)) (block_stands a id.block ready.has.no_bit m (ready.has.no_other m had)))

  pub role : (m : ℕ) → Role a (b4 ready) id.block created (tree_in a (block_at a s)) m
  role m = ⊎_elim (λ is. subst Becomes (sym is) role_root) (λ no_root. ⊎_elim (λ there. role_part m (part_is ready m there)) (λ none. role_other m no_root (λ p. both_ways _ none (in_rest ready m p)))
      (cases_Bool (has_number m (rest ready)))) (same_or_not m id.block)

  -- ---- contents and counts

  pub b4_size : length (b4 ready) ≡ length a
  b4_size = (b4_is ready).size ∙ length-set (a2 ready) id.block (block_at (a2 ready) s) ∙ length-with_entry (a1 ready) id.block (with_bit (a1_root ready).taken.is) ∙ (a1_turns ready).size

  a2_block : (m : ℕ) → m % 64 ≢ 0 → block_at (a2 ready) m ≡ block_at a m
  a2_block m real = block_at-with_entry (a1 ready) id.block (with_bit (a1_root ready).taken.is) m (λ same. real (omega (arith, same))) ∙ a1_block ready m real

  pub b4_other_block : (m : ℕ) → m % 64 ≢ 0 → m ≢ id.block → block_at (b4 ready) m ≡ block_at a m
  b4_other_block m real other = (b4_is ready).contents m real ∙ get_or-set_other (a2 ready) id.block m (block_at (a2 ready) s) [] other ∙ a2_block m real

  settled_now : Settles (a3 ready) (after ready) id s (b4 ready)
  settled_now = (b4_on ready)

  -- the root has what the shadow root had
  pub root_now : block_at (b4 ready) id.block ≡ block_at a s
  root_now =
      let in_a : id.block < length a = in_image a g ready.holds id.block (root ready).taken.is (root ready).taken.here in
      let below : id.block < length (a2 ready) = omega (arith, in_a, length-with_entry (a1 ready) id.block (with_bit (a1_root ready).taken.is), (a1_turns ready).size) in
      settled_now.root ∙ get_or-set_same (a2 ready) id.block (block_at (a2 ready) s) [] below ∙ a2_block s ((real ready) s (shadow ready).taken)

  pub tree_now : tree_in (b4 ready) (block_at (b4 ready) id.block) ≡ tree_in a (block_at a s)
  tree_now =
      ap (tree_in (b4 ready)) settled_now.root ∙ same_tree (a3 ready) (b4 ready) (block_at (a3 ready) id.block) (λ path h there. settled_now.inner path h there) ∙ (copy ready).tree ∙ (bit ready).tree ∙ (a1_tree ready)

  -- as the bit is set no block becomes Free
  pub counts_bit : (kept : Kept) → AreCounts a kept → AreCounts (a2 ready) kept
  counts_bit kept counts =
      let c1 : AreCounts (a1 ready) kept = counts_stay a (a1 ready) kept (a1_turns ready).size (λ n. mapped_by (λ was now. is_free_entry now ≡ is_free_entry was) (turned (λ m. Release) dropped) a (a1 ready) (whole ready) (a1_turns ready) n refl (λ e here. at (has_number n dropped) e)) counts in
      counts_same (a1 ready) kept id.block (a1_root ready).taken.is (with_bit (a1_root ready).taken.is) c1 (a1_root ready).taken.here
      (subst IsEntry (sym (ap (λ p. with_bit_at p (a1_root ready).taken.is) (a1_root ready).place_is)) (bit_valid (a1_root ready).taken.is (a1_root ready).place_is (entry_in_table (a1 ready) id.block (a1_root ready).taken.is (a1_root ready).taken.here))) (with_bit_free (a1_root ready).taken.is)
    where
      at : (b : Bool) (e : MapEntry) → is_free (changed_if b Release e) ≡ is_free e
      at false e = refl
      at true e = released_free e

  pub made_now : (c : ℕ) → created ≡ Some c → IsEntered a (b4 ready) c
  made_now c is =
      let root = (made_root_at ready c is).at in
      record {
        had = made_had c is;
        alone = made_alone a (b4 ready) id.block created (tree_in a (block_at a s)) ready.has role c is (made_not_root ready c is) (ready.made c is).alone;
        same = record {
          part = ap part_of (made_entry c is) ∙ finished_part root.taken.is (λ leaves. (let clash : IntendAllocate ≡ IntendDeallocate = sym (made_root_at ready c is).state ∙ leaves in cc)) ∙ ap part_of (sym root.taken.here);
          content = b4_other_block c (not_map c (taken_apart a g ready.holds c c root.taken)) (made_not_root ready c is);
        };
      }
