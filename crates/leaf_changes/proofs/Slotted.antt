-- A slot filled or emptied: its 8 bytes are written into its leaf, and give the index with this in the slot.
use Rattle.std.proofs.Common.{◌≡◌, ◌≢◌, ◌⊎◌, inl, inr, ℕ, ◌+◌, ◌-◌, ◌*◌, ◌/◌, ◌%◌, ◌<◌, ◌≤◌, List, [], ◌∷◌, length, get_or, set, Option, Some, None, Bool, true, false, refl, sym, ◌∙◌, ap, subst, arith, length-set, if◌then◌else◌}
use Rattle.leaf_changes.proofs.Words.{Fill, FillsSlot, GivesIndex, Held, Index, IsSlot, LeavesFit, Puid, Root, WritesLeaves, bytes_held, cases_eq, cases_lt, changed_object, filled, from_be_bytes-to_be_bytes_4, get_or-set_other, get_or-set_same, held_in, in_with, is_some, leaf_content, leaves_in, nat_tests, number_at, object_with, patched, range_with_len, same_numbers, set-get_or, slot_in, slot_spelling, touched, with_number, with_number-rises, with_numbers, with_others, with_slot}
use Rattle.cfs_base.specs.declared.kind.Kind.TheVariants as kinds
use Rattle.ufs_model.specs.declared.object.Object.TheVariants as objects
use Rattle.leaf_changes.proofs.SlotBytes.{same_slot}
use Rattle.leaf_changes.proofs.Contents.{length-leaf_content, held_within}
use Rattle.leaf_changes.proofs.Overlays.{over, over_early, over_past, over_within, laid_within}
use Rattle.leaf_changes.proofs.Given.{slot_get, slot_byte, index_to_leaves, index_from_leaves, some_index}
use Rattle.leaf_changes.proofs.HeldNumbers.{held-rise, to_held}
use Rattle.leaf_changes.proofs.Written.{new_byte, writes_fit, writes_held}

-- ---- the bytes of a slot

length-spelling : (what : Option Puid) → length (slot_spelling what) ≡ 8
length-spelling None = refl
length-spelling (Some id) = refl

slot_of_numbers : (bytes : List ℕ) (s : ℕ) (id : Puid) → number_at bytes (2 * s) ≡ id.block → number_at bytes (2 * s + 1) ≡ id.word → 0 < id.block → slot_in bytes s ≡ Some id
slot_of_numbers bytes s id block word some = rw (block, word) (grind (arith, nat_tests))

spelled_slot : (what : Option Puid) → IsSlot what → slot_in (slot_spelling what) 0 ≡ what
spelled_slot None good = refl
spelled_slot (Some id) good =
    slot_of_numbers (slot_spelling (Some id)) 0 id (from_be_bytes-to_be_bytes_4 id.block good.1) (from_be_bytes-to_be_bytes_4 id.word good.2) good.0

-- ---- the index

module _ (root : Root) (old new : ℕ → Option Held) (slot : ℕ) (what : Option Puid) (fit : LeavesFit root old) (fills : FillsSlot root.fill slot what old new) (inside : slot < root.size / 8) where
  as_written : WritesLeaves root.fill (8 * slot) (slot_spelling what) old new
  unfolding with_slot
  as_written = record {
    before = λ n early. fills.others n (omega arith);
    here = λ n from to.
        let content = leaf_content root.fill (old (slot / 64)) in
        let at : n ≡ slot / 64 = omega (arith, length-spelling what) in
        let laid = laid_within (512 * (slot / 64)) content (8 * slot) (slot_spelling what) (8 * (slot % 64)) (8 * (slot % 64) + 8) (omega arith) (omega (arith, length-spelling what)) (omega (arith, length-leaf_content root.fill (old (slot / 64)))) in
        subst (λ (m : ℕ). bytes_held (new m) ≡ Some (patched m (8 * slot) (slot_spelling what) (leaf_content root.fill (old m)))) (sym at) (fills.here ∙ ap Some (sym laid));
    after = λ n late. fills.others n (omega (arith, length-spelling what));
  }

  fits : 8 * slot + length (slot_spelling what) ≤ root.size
  fits = omega (arith, length-spelling what)

  pub slot_fit : LeavesFit root new
  slot_fit = writes_fit root old new (8 * slot) (slot_spelling what) fit as_written fits

  -- its leaf is held, be it new or not
  pub one_more : with_number (slot / 64) (held_in root old) ≡ held_in root new
  one_more = ap (λ (ns : List ℕ). with_numbers ns (held_in root old)) (sym alone) ∙ writes_held root old new (8 * slot) (slot_spelling what) fit as_written fits
    where
      alone : touched (8 * slot) (length (slot_spelling what)) ≡ slot / 64 ∷ []
      alone =
          let first : 8 * slot / 512 ≡ slot / 64 = omega arith in
          let one : leaves_in (8 * slot + length (slot_spelling what)) - 8 * slot / 512 ≡ 1 = omega (arith, length-spelling what) in
          λ i. range_with_len (first i) (one i)

  as_many : is_some (old (slot / 64)) ≡ true → with_number (slot / 64) (held_in root old) ≡ held_in root old
  as_many was = same_numbers (with_number (slot / 64) (held_in root old)) (held_in root old) (with_number-rises (slot / 64) (held_in root old) (held-rise root old)) (held-rise root old)
      (λ n h. elim (in_with n (slot / 64) (held_in root old) h) [
        | inl same ↦ let is = ap (λ (m : ℕ). is_some (old m)) (sym same) ∙ was in to_held root old n is (held_within root old fit n is)
        | inr among ↦ among
      ])
      (λ n h. with_others n (slot / 64) (held_in root old) h)

  slot_held : (is_some what ≡ true) ⊎ (is_some (old (slot / 64)) ≡ true) → (if is_some what then with_number (slot / 64) (held_in root old) else held_in root old) ≡ held_in root new
  slot_held one = of (is_some what) refl
    where
      of : (b : Bool) → is_some what ≡ b → (if b then with_number (slot / 64) (held_in root old) else held_in root old) ≡ held_in root new
      of true is = one_more
      of false is = elim one [ inl some ↦ cc | inr was ↦ sym (as_many was) ∙ one_more ]

  -- each slot, in its leaf
  byte_there : (s i : ℕ) → i < 8 → get_or (leaf_content root.fill (new (s / 64))) (8 * (s % 64) + i) 0 ≡ over (8 * slot) (slot_spelling what) (8 * s + i) (get_or (leaf_content root.fill (old (s / 64))) (8 * (s % 64) + i) 0)
  byte_there s i small =
      sym (slot_byte root.fill new s i small) ∙ new_byte root old new (8 * slot) (slot_spelling what) fit as_written fits (8 * s + i)
      ∙ ap (over (8 * slot) (slot_spelling what) (8 * s + i)) (slot_byte root.fill old s i small)

  new_slot : IsSlot what → slot_in (leaf_content root.fill (new (slot / 64))) (slot % 64) ≡ what
  new_slot good = same_slot (leaf_content root.fill (new (slot / 64))) (slot_spelling what) (slot % 64) 0 (λ i small.
      let at : 8 * slot + i - 8 * slot ≡ 8 * 0 + i = omega arith in
      byte_there slot i small ∙ over_within (8 * slot) (slot_spelling what) (8 * slot + i) _ (omega arith) (omega (arith, length-spelling what)) ∙ ap (λ (n : ℕ). get_or (slot_spelling what) n 0) at) ∙ spelled_slot what good

  old_slot : (s : ℕ) → s ≢ slot → slot_in (leaf_content root.fill (new (s / 64))) (s % 64) ≡ slot_in (leaf_content root.fill (old (s / 64))) (s % 64)
  old_slot s other = same_slot (leaf_content root.fill (new (s / 64))) (leaf_content root.fill (old (s / 64))) (s % 64) (s % 64) (λ i small. byte_there s i small ∙ elim (cases_lt s slot) [
    | inl early ↦ over_early (8 * slot) (slot_spelling what) (8 * s + i) _ (omega arith)
    | inr late ↦ over_past (8 * slot) (slot_spelling what) (8 * s + i) _ (omega (arith, length-spelling what))
  ])

  index_filled : (i : Index) → IsSlot what → (is_some what ≡ true) ⊎ (is_some (old (slot / 64)) ≡ true) → GivesIndex root old i → GivesIndex root new (filled i slot what)
  index_filled i good one gives = record {
    kind = gives.kind;
    size = length-set i.slots slot what ∙ gives.size;
    slots = λ s below. slot_get (set i.slots slot what) s ∙ elim (cases_eq s slot) [
      | inl same ↦ subst (λ (k : ℕ). get_or (set i.slots slot what) k None ≡ slot_in (leaf_content root.fill (new (k / 64))) (k % 64)) (sym same)
          (get_or-set_same i.slots slot what None (omega (arith, gives.size)) ∙ sym (new_slot good))
      | inr other ↦ get_or-set_other i.slots slot s what None other ∙ sym (slot_get i.slots s) ∙ gives.slots s below ∙ sym (old_slot s other)
    ];
    held = ap (λ (held : List ℕ). if is_some what then with_number (slot / 64) held else held) gives.held ∙ slot_held one;
  }

  pub slot_object : IsSlot what → (is_some what ≡ true) ⊎ (is_some (old (slot / 64)) ≡ true) → root.kind ≡ kinds.Index → object_with root new ≡ changed_object (Fill slot what) (object_with root old)
  slot_object good one index =
      let some = some_index root old index in
      index_from_leaves root new (filled some.0 slot what) (index_filled some.0 good one (index_to_leaves root old some.0 some.1))
      ∙ ap (changed_object (Fill slot what)) (sym some.1)

-- a slot that is empty is emptied by nothing
pub empty_stays : (root : Root) (leaf : ℕ → Option Held) (slot : ℕ) → root.kind ≡ kinds.Index → slot < root.size / 8 → slot_in (leaf_content root.fill (leaf (slot / 64))) (slot % 64) ≡ None
    → object_with root leaf ≡ changed_object (Fill slot None) (object_with root leaf)
empty_stays root leaf slot index inside empty =
    let some = some_index root leaf index in
    let i = some.0 in
    let gives = index_to_leaves root leaf i some.1 in
    let none : get_or i.slots slot None ≡ None = sym (slot_get i.slots slot) ∙ gives.slots slot inside ∙ empty in
    let same : set i.slots slot None ≡ i.slots = ap (set i.slots slot) (sym none) ∙ set-get_or i.slots slot None in
    some.1 ∙ (λ t. objects.Index (record { slots = sym same t; held = i.held })) ∙ ap (changed_object (Fill slot None)) (sym some.1)
