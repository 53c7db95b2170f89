-- Each block has one use, and so the Free blocks are all but what is fixed and what objects, drafts and strays have.
use Rattle.std.proofs.Common.{◌≡◌, inl, ℕ, zero, suc, ◌+◌, ◌*◌, ◌/◌, ◌<◌, ◌≤◌, length, Bool, true, false, not, ◌&&◌, ◌||◌, Option, Some, None, refl, sym, ◌∙◌, ap, subst, arith, ◌==◌}
use Rattle.vol_owners.proofs.Words.{Accounts, Allocated, BlockState, Drafts, Free, Graph, Image, IntendAllocate, IntendDeallocate, IsSome, IsSwept, MapEntry, Opened, Place, Puid, and_parts, blocks_of, blocks_taken, both_ways, created_if, draft_blocks_if, entry_in, eq-eqb, eqb-true, false_from_ne_true, free_from, graph_blocks, has_block, ids_of, in_image, is_fixed, is_free_entry, is_free_in, is_free_root, is_had, is_leaving, is_made, is_meant, is_owned_by, is_of_draft, is_of_object, is_placed, is_root, is_root_place, is_some, is_stray, is_taken, is_there, is_there-ids, nat_tests, one_of, option_to_list, owner_of, range_with_len, rises, stray_blocks, sum_by}
use Rattle.vol_owners.proofs.Sums.{count_in, run-suc, run_none, run_same, run_split, run_ones, run_zeros, sum_both, sum_each, sum_run}
use Rattle.vol_owners.proofs.Differ.{count_of_these}
use Rattle.vol_owners.proofs.Entries.{free_unplaced, had_not_meant, made_taken, of_taken, owner_is, root_owner, root_placed, the_entry}
use Rattle.vol_owners.proofs.Owned.{count_drafts, count_had, count_of, own_blocks_if}
use Rattle.vol_owners.proofs.Keys.{in_made, made_differ, made_length, object_of_block, owned_sum, roots_made, sum_ids, sum_objects, to_made}

-- ---- fixed blocks

fixed_map : (j : ℕ) → is_fixed (64 * j) ≡ true
fixed_map j = grind (arith, nat_tests)

not_fixed : (j n : ℕ) → 64 * j + 1 ≤ n → n < 64 * j + 64 → 2 ≤ n → is_fixed n ≡ false
not_fixed j n from below past = grind (arith, nat_tests)

abbrev pub fixed_one : ℕ → ℕ
fixed_one n = one_of (is_fixed n)

-- the map block of each cylinder, and the label
pub fixed_count : (c : ℕ) → 1 ≤ c → sum_run fixed_one 0 (64 * c) ≡ c + 1
fixed_count zero some = absurd (omega arith)
fixed_count (suc zero) some =
    omega (arith, run-suc fixed_one 0 63, run-suc fixed_one 1 62, run_none fixed_one 2 62 (λ n le lt. ap one_of (not_fixed 0 n (omega arith) (omega arith) (omega arith))))
fixed_count (suc (suc c)) some =
    let wide : 64 * suc (suc c) ≡ 64 * suc c + 64 = omega arith in
    let start : 0 + 64 * suc c ≡ 64 * suc c = omega arith in
    omega (
      arith,
      ap (λ (n : ℕ). sum_run fixed_one 0 n) wide,
      run_split fixed_one 0 (64 * suc c) 64,
      fixed_count (suc c) (omega arith),
      ap (λ (n : ℕ). sum_run fixed_one n 64) start,
      run-suc fixed_one (64 * suc c) 63,
      ap one_of (fixed_map (suc c)),
      run_none fixed_one (64 * suc c + 1) 63 (λ n le lt. ap one_of (not_fixed (suc c) n (omega arith) (omega arith) (omega arith))),
    )

-- where all is swept there is no stray
pub no_strays : (image : Image) (g : Graph) → IsSwept image g → stray_blocks image g (length image) ≡ 0
no_strays image g swept = run_zeros (λ n. one_of (is_stray g (entry_in image n))) 0 (length image) (λ n. ap one_of (swept.none n))

-- no block has the number of a Free block as its owner
pub owns_nothing : (image : Image) (g : Graph) (ds : Drafts) → Accounts image g ds → (n : ℕ) → is_free_in image n ≡ true → (m : ℕ) → is_owned_by is_taken n (entry_in image m) ≡ false
owns_nothing image g ds has n free m = false_from_ne_true _ (λ of_n.
    let root = has.rooted m (and_parts _ _ of_n).0 in
    let here : is_root is_taken (entry_in image n) ≡ true = subst (λ (r : ℕ). is_root is_taken (entry_in image r) ≡ true) (sym (owner_is is_taken n (entry_in image m) of_n)) root in
    both_ways _ (free_unplaced is_taken refl (entry_in image n) free) (root_placed is_taken (entry_in image n) here))

module _ (image : Image) (g : Graph) (ds : Drafts) (has : Accounts image g ds) (up : rises (ids_of g) ≡ true) where
  -- no object has a root that a draft makes, and of no object a block leaves
  made_unheld : (n : ℕ) → is_made (entry_in image n) ≡ true → has_block g.objects (owner_of (entry_in image n)) ≡ false
  made_unheld n made = false_from_ne_true _ (λ there.
      let o = object_of_block g up (owner_of (entry_in image n)) there in
      let here : o.0.block ≡ n = o.3 ∙ root_owner image has.holds.own is_meant n made in
      let had : is_owned_by is_had n (entry_in image n) ≡ true = subst (λ (r : ℕ). is_owned_by is_had r (entry_in image r) ≡ true) here ((has.objects o.0 o.1 o.2).each o.0.block (inl refl)) in
      both_ways _ (had_not_meant n (entry_in image n) had) (root_placed is_meant (entry_in image n) made))

  none_leaving : (n : ℕ) → has_block g.objects (owner_of (entry_in image n)) ≡ true → is_placed is_leaving (entry_in image n) ≡ false
  none_leaving n there = false_from_ne_true _ (λ placed.
      let o = object_of_block g up (owner_of (entry_in image n)) there in
      let none : is_owned_by is_leaving (owner_of (entry_in image n)) (entry_in image n) ≡ false = subst (λ (r : ℕ). is_owned_by is_leaving r (entry_in image n) ≡ false) o.3 ((has.objects o.0 o.1 o.2).none_leaves n) in
      both_ways _ none (rw (placed, eq-eqb (owner_of (entry_in image n)) _ refl) refl))

  -- ---- one use

  abbrev uses : Bool → Option MapEntry → ℕ
  uses fixed entry = one_of fixed + one_of (is_free_entry entry) + one_of (is_of_object g entry) + one_of (is_of_draft g entry) + one_of (is_stray g entry)

  one_by_state : (e : MapEntry) (s : BlockState) (p : Option Place) (held : Bool) → (is_taken s ≡ true → is_some p ≡ true) → (held ≡ true → (is_leaving s && is_some p) ≡ false)
      → 0 + one_of (is_free_entry (Some (record e { state = s }))) + one_of ((is_had s && is_some p) && held) + one_of ((is_meant s && is_some p) && ((is_meant s && is_root_place p) || held))
      + one_of ((is_taken s && is_some p) && (not (is_meant s && is_root_place p) && not held)) ≡ 1
  one_by_state e Free p held placed stays = refl
  one_by_state e Allocated p true placed stays = rw (placed refl) refl
  one_by_state e Allocated p false placed stays = rw (placed refl) refl
  one_by_state e IntendAllocate p held placed stays = rw (placed refl) (at (is_root_place p) held)
    where
      at : (b c : Bool) → 0 + 0 + 0 + one_of (b || c) + one_of (not b && not c) ≡ 1
      at true c = refl
      at false true = refl
      at false false = refl
  one_by_state e IntendDeallocate p true placed stays = absurd (both_ways _ (stays refl) (placed refl))
  one_by_state e IntendDeallocate p false placed stays = rw (placed refl) refl

  pub one_use : (n : ℕ) → n < length image
      → one_of (is_fixed n) + one_of (is_free_in image n) + one_of (is_of_object g (entry_in image n)) + one_of (is_of_draft g (entry_in image n)) + one_of (is_stray g (entry_in image n)) ≡ 1
  one_use n less = at (entry_in image n) refl (has.holds.maps n less) (is_fixed n) refl
    where
      at : (entry : Option MapEntry) → entry_in image n ≡ entry → IsSome entry → (fixed : Bool) → is_fixed n ≡ fixed → uses (is_fixed n) (entry_in image n) ≡ 1
      at None is some fixed fix = cc
      at (Some e) is some true fix = rw (fix, has.holds.fixed n less fix) refl
      at (Some e) is some false fix =
          rw (fix, is) (one_by_state e e.state e.place (has_block g.objects e.owner)
          (λ taken. (and_parts (is_taken e.state) (is_some e.place) (has.placed n e is fix taken)).1)
          (λ held. sym (ap (λ (x : Option MapEntry). is_placed is_leaving x) is) ∙ none_leaving n (ap (λ (x : Option MapEntry). has_block g.objects (owner_of x)) is ∙ held)))

  -- ---- the counts

  abbrev count : (ℕ → Bool) → ℕ
  count p = count_in p 0 (length image)

  all_used : count is_fixed + free_from image 0 (length image) + count (λ n. is_of_object g (entry_in image n)) + count (λ n. is_of_draft g (entry_in image n)) + stray_blocks image g (length image) ≡ length image
  all_used =
      let run = range_with_len 0 (length image) in
      let f = one_of in
      let a : ℕ → ℕ = λ n. one_of (is_fixed n) in
      let b : ℕ → ℕ = λ n. one_of (is_free_in image n) in
      let c : ℕ → ℕ = λ n. one_of (is_of_object g (entry_in image n)) in
      let d : ℕ → ℕ = λ n. one_of (is_of_draft g (entry_in image n)) in
      let e : ℕ → ℕ = λ n. one_of (is_stray g (entry_in image n)) in
      omega (
        arith,
        sum_both a b run,
        sum_both (λ n. a n + b n) c run,
        sum_both (λ n. a n + b n + c n) d run,
        sum_both (λ n. a n + b n + c n + d n) e run,
        run_same (λ n. a n + b n + c n + d n + e n) (λ n. 1) 0 (length image) (λ n le lt. one_use n (omega arith)),
        run_ones 0 (length image),
      )

  objects_have : count (λ n. is_of_object g (entry_in image n)) ≡ graph_blocks g
  objects_have =
      owned_sum is_had image g has.holds up
      ∙ sum_objects g up (λ e. count_of is_had image e.0.block) (λ e. blocks_of e.1) (λ x o at. count_had image g has.holds x o at (has.objects x o at))

  -- how many roots drafts make
  made_count : count (λ n. is_made (entry_in image n)) ≡ length (roots_made ds (ids_of g))
  made_count = count_of_these (λ n. is_made (entry_in image n)) (roots_made ds (ids_of g)) (length image) (record {
    differ = made_differ ds has.made_once (ids_of g) up;
    each = λ n h.
        let m = in_made ds n (ids_of g) h in
        let made = (has.made n (record { id = m.0; makes = m.2 })).entered in
        (in_range n made, made);
    no_other = λ n made. let m = has.made_by n made in to_made ds n m.id (ids_of g) (sym (is_there-ids g m.id) ∙ on_one m.id (ds m.id) refl m.makes) m.makes;
  })
    where
      in_range : (n : ℕ) → is_made (entry_in image n) ≡ true → n < length image
      in_range n made = let e = the_entry is_taken n (entry_in image n) (made_taken image has.holds.own n made) in in_image image g has.holds n e.0 e.1

      on_one : {n : ℕ} (id : Puid) (d : Option Opened) → ds id ≡ d → created_if d ≡ Some n → is_there g id ≡ true
      on_one id None is makes = cc
      on_one id (Some d) is makes = has.on_objects id d is

  drafts_have : count (λ n. is_of_draft g (entry_in image n)) ≡ sum_by (λ id. draft_blocks_if (ds id)) (ids_of g)
  drafts_have =
      let run = range_with_len 0 (length image) in
      let owned : ℕ → ℕ = λ n. one_of (is_placed is_meant (entry_in image n) && has_block g.objects (owner_of (entry_in image n))) in
      let made : ℕ → ℕ = λ n. one_of (is_made (entry_in image n)) in
      let own : Puid → ℕ = λ id. own_blocks_if (ds id) in
      let new : Puid → ℕ = λ id. length (option_to_list (created_if (ds id))) in
      let split : count (λ n. is_of_draft g (entry_in image n)) ≡ sum_by owned run + sum_by made run =
      sum_each (λ n. one_of (is_of_draft g (entry_in image n))) (λ n. owned n + made n) run (λ n. either (is_placed is_meant (entry_in image n)) (is_made (entry_in image n)) (has_block g.objects (owner_of (entry_in image n)))
      (λ is. root_placed is_meant (entry_in image n) is) (made_unheld n))
      ∙ sum_both owned made run in
      let by_objects : sum_by owned run ≡ sum_by own (ids_of g) =
      owned_sum is_meant image g has.holds up
      ∙ sum_objects g up (λ e. count_of is_meant image e.0.block) (λ e. own e.0) (λ x o at. count_drafts image g has.holds x (ds x) (has.drafts x o at))
      ∙ sym (sum_ids own g.objects) in
      let parts = sum_each (λ id. draft_blocks_if (ds id)) (λ id. own id + new id) (ids_of g) (λ id. of_one (ds id)) ∙ sum_both own new (ids_of g) in
      omega (arith, split, by_objects, made_count, made_length ds (ids_of g), parts)
    where
      either : (p m c : Bool) → (m ≡ true → p ≡ true) → (m ≡ true → c ≡ false) → one_of (p && (m || c)) ≡ one_of (p && c) + one_of m
      either p true c placed apart = rw (placed refl, apart refl) refl
      either p false c placed apart = omega arith

      of_one : (d : Option Opened) → draft_blocks_if d ≡ own_blocks_if d + length (option_to_list (created_if d))
      of_one None = refl
      of_one (Some d) = refl

  -- all blocks but the fixed, and those of objects, drafts and strays, are Free
  pub room : free_from image 0 (length image) + blocks_taken g ds + stray_blocks image g (length image) + 1 ≡ 63 * (length image / 64)
  room =
      let wide = has.holds.label.size_is in
      let fixed = ap (λ (n : ℕ). sum_run fixed_one 0 n) (sym wide) ∙ fixed_count has.holds.label.label.cylinders has.holds.label.is_label.some in
      omega (arith, all_used, objects_have, drafts_have, fixed, wide)

  -- ---- a Free block may become the root of a new object

  pub free_is_root : (n : ℕ) → is_free_in image n ≡ true → is_free_root g n ≡ true
  free_is_root n free =
      let some : (n == 0) ≡ false = false_from_ne_true _ (λ zero_is. not_zero (eqb-true n 0 zero_is)) in
      let unheld : has_block g.objects n ≡ false = false_from_ne_true _ (λ there.
      let o = object_of_block g up n there in
      let had = (has.objects o.0 o.1 o.2).each o.0.block (inl refl) in
      both_ways _ (subst (λ (r : ℕ). is_owned_by is_taken r (entry_in image r) ≡ false) (sym o.3) (owns_nothing image g ds has n free n)) (of_taken is_had refl o.0.block (entry_in image o.0.block) had)) in
      rw (some, unheld) refl
    where
      not_zero : n ≡ 0 → ⊥
      not_zero is =
          let free_zero : is_free_entry (entry_in image 0) ≡ true = subst (λ (m : ℕ). is_free_in image m ≡ true) is free in
          let label = has.holds.label in
          let fixed = has.holds.fixed 0 (omega (arith, label.size_is, label.is_label.some)) refl in
          both_ways _ (ap is_free_entry fixed) free_zero
