-- An object that becomes its draft takes no more blocks than it and what is fresh of the draft.
use Rattle.std.proofs.Common.{◌≡◌, inl, inr, ℕ, ◌+◌, ◌<◌, ◌≤◌, List, ◌++◌, length, Bool, true, false, Some, refl, sym, ◌∙◌, ap, subst, arith, length-append, sum_by}
use Rattle.cfs_core.proofs.Words.{and_left, append_differ, block_at, blocks_are, blocks_of, blocks_standing, both_ways, cases_Bool, content_of, count_of_these, Differ, first_or, Graph, had_not_meant, has-append, has_number, HasDraft, HasItsBlocks, held, held_at, held_there, Holds, Image, is_meant_for, is_standing, length-down, levels_all, levels_of, levels_standing, no_shadows, not_meant_is_own}
use Rattle.cfs_core.proofs.Words.{Object, object_at, ones_le, Opened, or_cases, or_left, or_right, Puid, same_sums, source, standing_differ, standing_is, stands_some, StandsIn, tree_in}
use Rattle.vol_image.specs.Sight.{sight}

module _ (image : Image) (g : Graph) (holds : Holds image g) (id : Puid) (o : Object) (at : object_at g id ≡ Some o) (has : HasItsBlocks image id.block) (d : Opened) (draft : HasDraft image id d) where
  abbrev size : ℕ
  size = length image

  abbrev meant : ℕ → Bool
  meant = is_meant_for image id.block

  abbrev any : ℕ → Bool
  any n = true

  abbrev content : List ℕ
  content = block_at image (source image id.block)

  -- of the draft's tree all blocks, and those that are fresh; and those of the object's own
  xs : List ℕ
  xs = blocks_standing image size id.block (content_of d) d.root d.draft.object draft.tree any

  ys : List ℕ
  ys = blocks_standing image size id.block (content_of d) d.root d.draft.object draft.tree meant

  zs : List ℕ
  unfolding sight
  zs = blocks_standing image size id.block content (holds.objects id o at).source o (holds.objects id o at).tree any

  read_by_itself : source image id.block ≡ id.block
  read_by_itself = ap (first_or id.block) (no_shadows image id.block has.no_bit)

  -- a block of the draft that isn't fresh stands in the object's own tree
  own_stands : (n : ℕ) → StandsIn (tree_in image (content_of d)) n → meant n ≡ false → StandsIn (tree_in image content) n
  own_stands n s none =
      let same = not_meant_is_own image g holds id o at has d draft s.path s.held s.there (ap meant s.is ∙ none) in
      let some = stands_some image (content_of d) s.path s.held s.there in
      let there : (tree_in image (block_at image id.block)).below s.path ≡ Some (held image s.held.block) = ap (held_at image) same ∙ held_there image s.held.block some in
      record {
        path = s.path;
        held = held image s.held.block;
        there = ap (λ (r : ℕ). (tree_in image (block_at image r)).below s.path) read_by_itself ∙ there;
        is = s.is;
      }

  either : (n : ℕ) → has_number n xs ≡ true → has_number n (ys ++ zs) ≡ true
  unfolding sight xs ys zs
  either n h =
      let s = (standing_is image size id.block (content_of d) d.root d.draft.object draft.tree any n h).0 in
      let reads = holds.objects id o at in
      has-append n ys zs ∙ elim (cases_Bool (meant n)) [
        | inl is ↦ or_left _ _ (is_standing image size id.block (content_of d) d.root d.draft.object draft.tree meant n s is)
        | inr not ↦ or_right _ _ (is_standing image size id.block content reads.source o reads.tree any n (own_stands n s not) refl)
      ]

  -- what is fresh the object doesn't have
  apart : (n : ℕ) → has_number n ys ≡ true → has_number n zs ≡ true → ⊥
  unfolding sight ys zs
  apart n fresh own =
      let reads = holds.objects id o at in
      let s = (standing_is image size id.block content reads.source o reads.tree any n own).0 in
      let had = has.each n (inr (inr (s.path, s.held, s.there, s.is))) in
      both_ways _ (and_left _ _ (had_not_meant id.block _ had)) (standing_is image size id.block (content_of d) d.root d.draft.object draft.tree meant n fresh).1

  below_xs : (n : ℕ) → has_number n xs ≡ true → n < size
  unfolding xs
  below_xs n h = (let s = (standing_is image size id.block (content_of d) d.root d.draft.object draft.tree any n h).0 in subst (λ (m : ℕ). m < size) s.is (draft.tree.on_disk s.path s.held s.there))

  below_two : (n : ℕ) → has_number n (ys ++ zs) ≡ true → n < size
  unfolding sight ys zs
  below_two n h =
      let reads = holds.objects id o at in
      elim (or_cases _ _ (sym (has-append n ys zs) ∙ h)) [
        | inl fresh ↦ (let s = (standing_is image size id.block (content_of d) d.root d.draft.object draft.tree meant n fresh).0 in subst (λ (m : ℕ). m < size) s.is (draft.tree.on_disk s.path s.held s.there))
        | inr own ↦ (let s = (standing_is image size id.block content reads.source o reads.tree any n own).0 in subst (λ (m : ℕ). m < size) s.is (reads.tree.on_disk s.path s.held s.there))
      ]

  differ_xs : Differ xs
  unfolding xs
  differ_xs = standing_differ image size id.block (content_of d) d.root d.draft.object draft.tree any

  differ_two : Differ (ys ++ zs)
  unfolding sight ys zs
  differ_two =
      let reads = holds.objects id o at in
      append_differ ys zs (standing_differ image size id.block (content_of d) d.root d.draft.object draft.tree meant) (standing_differ image size id.block content reads.source o reads.tree any) apart

  fewer : length xs ≤ length ys + length zs
  fewer =
      let one = count_of_these (λ n. has_number n xs) xs size (record { differ = differ_xs; each = λ n h. (below_xs n h, h); no_other = λ n h. h }) in
      let two = count_of_these (λ n. has_number n (ys ++ zs)) (ys ++ zs) size (record { differ = differ_two; each = λ n h. (below_two n h, h); no_other = λ n h. h }) in
      omega (arith, one, two, ones_le (λ n. has_number n xs) (λ n. has_number n (ys ++ zs)) 0 size either, length-append ys zs)

  length_xs : length xs + 1 ≡ blocks_of d.draft.object
  unfolding xs
  length_xs =
      let tree = tree_in image (content_of d) in
      let all = ap (λ (levels : List (List ℕ)). 1 + sum_by length levels) (levels_all tree (length (levels_of (content_of d)))) ∙ blocks_are image size id.block (content_of d) d.root d.draft.object draft.tree in
      omega (arith, length-down any tree (length (levels_of (content_of d))), all)

  length_ys : length ys ≡ sum_by length d.draft.fresh
  unfolding ys
  length_ys =
      let tree = tree_in image (content_of d) in
      length-down meant tree (length (levels_of (content_of d))) ∙ sym (same_sums d.draft.fresh (levels_standing meant tree (length (levels_of (content_of d)))) draft.fresh)

  length_zs : length zs + 1 ≡ blocks_of o
  unfolding sight zs
  length_zs =
      let tree = tree_in image content in
      let reads = holds.objects id o at in
      let all = ap (λ (levels : List (List ℕ)). 1 + sum_by length levels) (levels_all tree (length (levels_of content))) ∙ blocks_are image size id.block content reads.source o reads.tree in
      omega (arith, length-down any tree (length (levels_of content)), all)

  pub replaced_few : blocks_of d.draft.object ≤ blocks_of o + sum_by length d.draft.fresh
  replaced_few = omega (arith, fewer, length_xs, length_ys, length_zs)
