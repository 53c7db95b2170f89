-- Bytes written at an offset: leaf by leaf, and in the file.
use Rattle.std.proofs.Common.{◌≡◌, ◌≢◌, ◌⊎◌, inl, inr, ℕ, ◌+◌, ◌*◌, ◌/◌, ◌%◌, ◌<◌, ◌≤◌, List, length, get_or, Option, Some, true, refl, sym, ◌∙◌, ap, subst, arith}
use Rattle.leaf_changes.proofs.Words.{File, GivesFile, Held, LeavesFit, Overwrite, Root, WritesLeaves, WritesTo, bytes_held, cases_eq, cases_lt, changed_object, held_in, is_some, leaf_byte, leaf_content, leaves_in, object_with, patched, touched, with_numbers, written}
use Rattle.cfs_base.specs.declared.kind.Kind.TheVariants as kinds
use Rattle.leaf_changes.proofs.Overlays.{length-overlaid, over, over_early, over_past, over_byte, laid_within, laid_outside}
use Rattle.leaf_changes.proofs.Contents.{length-leaf_content, same_content, same_held, held_is, content_is, past_size}
use Rattle.leaf_changes.proofs.Fits.{FitsAt, fit_at, fit_each}
use Rattle.leaf_changes.proofs.Given.{file_to_leaves, file_from_leaves, some_file}
use Rattle.leaf_changes.proofs.HeldNumbers.{in_all, to_all, all-rise, held-rise, in_held, to_held, held_are, in_touched, to_touched}

-- ---- leaf after leaf

module _ (fill offset : ℕ) (bytes : List ℕ) (old : ℕ → Option Held) where
  pub writes_begin : WritesTo (offset / 512) fill offset bytes old old
  writes_begin = record { before = λ n early. refl; here = λ n from to. absurd (omega arith); after = λ n late. refl }

  pub writes_more : (n : ℕ) (new next : ℕ → Option Held) → offset / 512 ≤ n → WritesTo n fill offset bytes old new
      → bytes_held (next n) ≡ Some (patched n offset bytes (leaf_content fill (new n))) → ((m : ℕ) → m ≢ n → bytes_held (next m) ≡ bytes_held (new m))
      → WritesTo (n + 1) fill offset bytes old next
  writes_more n new next on writes here others = record {
    before = λ m early. others m (omega arith) ∙ writes.before m early;
    here = λ m from to. elim (cases_eq m n) [
      | inl same ↦ subst (λ (k : ℕ). bytes_held (next k) ≡ Some (patched k offset bytes (leaf_content fill (old k)))) (sym same)
          (here ∙ ap (λ (c : List ℕ). Some (patched n offset bytes c)) (same_content fill (new n) (old n) (writes.after n (omega arith))))
      | inr other ↦ others m other ∙ writes.here m from (omega arith)
    ];
    after = λ m late. others m (omega arith) ∙ writes.after m (omega arith);
  }

-- ---- the whole write

module _ (root : Root) (old new : ℕ → Option Held) (offset : ℕ) (bytes : List ℕ) (fit : LeavesFit root old) (writes : WritesLeaves root.fill offset bytes old new) (inside : offset + length bytes ≤ root.size) where
  -- a leaf is touched, or stays and meets none of the bytes
  place_of : (n : ℕ) → ((offset / 512 ≤ n) × (n < leaves_in (offset + length bytes))) ⊎ ((bytes_held (new n) ≡ bytes_held (old n)) × ((512 * n + 512 ≤ offset) ⊎ (offset + length bytes ≤ 512 * n)))
  place_of n = elim (cases_lt n (offset / 512)) [
    | inl early ↦ inr (writes.before n early, inl (omega arith))
    | inr from ↦ elim (cases_lt n (leaves_in (offset + length bytes))) [
      | inl to ↦ inl (from, to)
      | inr late ↦ inr (writes.after n late, inr (omega arith))
    ]
  ]

  -- each leaf has its bytes with those that were written laid over them
  new_content : (n : ℕ) → leaf_content root.fill (new n) ≡ patched n offset bytes (leaf_content root.fill (old n))
  new_content n = elim (place_of n) [
    | inl here ↦ content_is root.fill (new n) _ (writes.here n here.0 here.1) (length-overlaid (512 * n) content offset bytes ∙ wide)
    | inr stays ↦ same_content root.fill (new n) (old n) stays.0 ∙ sym (laid_outside (512 * n) content offset bytes (λ k small.
        let less : k < 512 = omega (arith, wide) in
        elim stays.1 [ inl early ↦ over_early offset bytes (512 * n + k) (get_or content k 0) (omega arith) | inr late ↦ over_past offset bytes (512 * n + k) (get_or content k 0) (omega arith) ]))
  ]
    where
      content : List ℕ
      content = leaf_content root.fill (old n)

      wide : length content ≡ 512
      wide = length-leaf_content root.fill (old n)

  pub new_byte : (k : ℕ) → leaf_byte root.fill new k ≡ over offset bytes k (leaf_byte root.fill old k)
  new_byte k =
      let content = leaf_content root.fill (old (k / 512)) in
      let at : 512 * (k / 512) + k % 512 ≡ k = omega arith in
      ap (λ (c : List ℕ). get_or c (k % 512) 0) (new_content (k / 512))
      ∙ over_byte (512 * (k / 512)) content offset bytes (k % 512) (omega (arith, length-leaf_content root.fill (old (k / 512))))
      ∙ ap (λ (p : ℕ). over offset bytes p (leaf_byte root.fill old k)) at

  pub writes_fit : LeavesFit root new
  writes_fit = fit_each root new (λ n. elim (place_of n) [
    | inl here ↦ subst (FitsAt root.size root.fill n) (sym (writes.here n here.0 here.1)) (record {
      within = λ c is. omega arith;
      filled = λ c i is small past.
          let content = leaf_content root.fill (old n) in
          let e : patched n offset bytes content ≡ c = cc in
          ap (λ (x : List ℕ). get_or x i 0) (sym e)
          ∙ over_byte (512 * n) content offset bytes i (omega (arith, length-leaf_content root.fill (old n)))
          ∙ over_past offset bytes (512 * n + i) (get_or content i 0) (omega arith)
          ∙ past_size root old fit n i small past;
    })
    | inr stays ↦ subst (FitsAt root.size root.fill n) (sym stays.0) (fit_at root old fit n)
  ])

  pub writes_held : with_numbers (touched offset (length bytes)) (held_in root old) ≡ held_in root new
  writes_held = held_are root new ns (all-rise (touched offset (length bytes)) (held_in root old) (held-rise root old))
      (λ n h. elim (in_all n (touched offset (length bytes)) (held_in root old) h) [
        | inl among ↦ let here = in_touched offset (length bytes) n among in (is_there n here.0 here.1, omega arith)
        | inr was ↦ let two = in_held root old n was in (stays_there n two.0, two.1)
      ])
      (λ n is less. to_all n (touched offset (length bytes)) (held_in root old) (elim (place_of n) [
        | inl here ↦ inl (to_touched offset (length bytes) n here.0 here.1)
        | inr stays ↦ inr (to_held root old n (sym (same_held (new n) (old n) stays.0) ∙ is) less)
      ]))
    where
      ns : List ℕ
      ns = with_numbers (touched offset (length bytes)) (held_in root old)

      is_there : (n : ℕ) → offset / 512 ≤ n → n < leaves_in (offset + length bytes) → is_some (new n) ≡ true
      is_there n from to = let there = held_is (new n) (patched n offset bytes (leaf_content root.fill (old n))) (writes.here n from to) in ap is_some there.1

      stays_there : (n : ℕ) → is_some (old n) ≡ true → is_some (new n) ≡ true
      stays_there n was = elim (place_of n) [
        | inl here ↦ is_there n here.0 here.1
        | inr stays ↦ same_held (new n) (old n) stays.0 ∙ was
      ]

  file_written : (f : File) → GivesFile root old f → GivesFile root new (written f offset bytes)
  file_written f gives =
      let is = laid_within 0 f.bytes offset bytes offset (offset + length bytes) (omega arith) (omega arith) (omega (arith, gives.size)) in
      record {
        kind = gives.kind;
        fill = gives.fill;
        size = ap (length {A = ℕ}) (sym is) ∙ length-overlaid 0 f.bytes offset bytes ∙ gives.size;
        bytes = λ k below.
            let at : 0 + k ≡ k = omega arith in
            ap (λ (c : List ℕ). get_or c k 0) (sym is)
            ∙ over_byte 0 f.bytes offset bytes k (omega (arith, gives.size))
            ∙ (λ i. over offset bytes (at i) (gives.bytes k below i))
            ∙ sym (new_byte k);
        held = ap (with_numbers (touched offset (length bytes))) gives.held ∙ writes_held;
      }

  pub writes_object : root.kind ≢ kinds.Index → object_with root new ≡ changed_object (Overwrite offset bytes) (object_with root old)
  writes_object no_index =
      let some = some_file root old no_index in
      file_from_leaves root new (written some.0 offset bytes) (file_written some.0 (file_to_leaves root old some.0 some.1))
      ∙ ap (changed_object (Overwrite offset bytes)) (sym some.1)
