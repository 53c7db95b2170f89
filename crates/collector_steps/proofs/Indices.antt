-- A leaf of an index as the disk has it, and as the model has it.
use Rattle.std.proofs.Common.{◌≡◌, ◌≢◌, inl, inr, ℕ, zero, suc, ◌+◌, ◌*◌, ◌/◌, ◌<◌, ◌≤◌, List, [], ◌∷◌, ◌++◌, length, take, drop, get_or, replicate, refl, sym, ◌∙◌, ap, subst, arith, Bool, true, false, Option, Some, None, is_some, map}
use Rattle.collector_steps.proofs.Words.{AreBlocks, Ghosts, Graph, HasNoDeadEnd, Held, HeldStep, Holds, IfSome, Image, Index, IsDamaged, IsNextLeaf, IsScanTrouble, IsTree, LeafStep, Kind, LeadsPast, NoRoot, NoneHeld, Object, PastDisk, Puid, Tells, Trouble, block_at, cases_lt, count_is, file_bytes, filter-rises, filter_map, find_least, find_none, find_on, has_number, held, held_at, held_in, ids_from, in_filter, in_numbers, is_committed, leaf_block, leaf_content, leaf_ids, leaf_in, leaf_limit, leaves_in, levels_of, next_held, numbers-rise, numbers_rise, object_at, object_with, part_at, path_to, range_with_len, read_by_root, root_spelling, sight, slot_in, take_at, the_index, to_filter, to_numbers, tree_in, tree_of}
use Rattle.std.specs.Prelude.{if◌then◌else◌}
use Rattle.cfs_base.specs.declared.kind.Kind.TheVariants as kinds
use Rattle.cfs_base.specs.declared.refusal.Trouble.TheVariants as trouble
use Rattle.block_tree.specs.declared.root.Root as roots
use Rattle.block_tree.specs.Step.{IsFoundOf, SomeHeld, upto}
use Rattle.block_tree.specs.Tree.{leaf_count}
use Rattle.ufs_model.specs.declared.object.Object.TheVariants as objects
use Rattle.marking.specs.Leaves.{own_part}
use Rattle.marking.specs.Steps.{if_held, after_draft, draft_step, own_step}
use Rattle.collector_steps.specs.Scan.{HoldsAny, IsLeafStep, PastDraft, after_drafted, after_own, ids_found, ids_read, after_found, or_own, own_place}
use Rattle.collector_steps.proofs.Slots.{ids_of_leaf}

-- ---- what is held at a pointer

held_some : (image : Image) (n : ℕ) → n ≢ 0 → held_at image n ≡ Some (held image n)
held_some image zero some = absurd (some refl)
held_some image (suc n) some = refl

at_some : (image : Image) (n : ℕ) → is_some (held_at image n) ≡ true → n ≢ 0
at_some image zero h = cc
at_some image (suc n) h = λ (e : suc n ≡ 0). absurd (omega (arith, e))

-- ---- the root of an index

record IsIndexRoot (root : roots.Root) (leaf : ℕ → Option Held) (i : Index) : Type 0 where
  kind : root.kind ≡ kinds.Index
  slots : i.slots ≡ map (slot_in (file_bytes root leaf)) (range_with_len 0 (root.size / 8))
  held_leaves : i.held ≡ held_in root leaf

index_root : (root : roots.Root) (leaf : ℕ → Option Held) (i : Index) → object_with root leaf ≡ objects.Index i → IsIndexRoot root leaf i
unfolding object_with
index_root root leaf i h = from root.kind refl h
  where
    from : (k : Kind) → root.kind ≡ k → object_with (record root { kind = k }) leaf ≡ objects.Index i → IsIndexRoot root leaf i
    from kinds.Normal is q = cc
    from kinds.Special is q = cc
    from kinds.Index is q = record {
      kind = is;
      slots = sym (ap (λ (o : Object). (the_index o).slots) q);
      held_leaves = sym (ap (λ (o : Object). (the_index o).held) q);
    }

-- ---- a step in its tree

module _ (image : Image) (blocks : AreBlocks image) (owner : ℕ) (content : List ℕ) (root : roots.Root) (i : Index) (tree : IsTree (length image) owner (tree_in image content) root (objects.Index i)) where
  pub alive : HasNoDeadEnd image content
  alive path some short =
      let next = tree.leads_on path (held image (tree_of image content path)) (held_some image (tree_of image content path) some) short in
      (next.0, at_some image (tree_of image content (path ++ next.0 ∷ [])) next.1)

  abbrev leaf_at : ℕ → Option Held
  leaf_at n = leaf_in (tree_in image content) n

  abbrev count : ℕ
  count = leaves_in root.size

  index_is : IsIndexRoot root leaf_at i
  index_is = index_root root leaf_at i tree.object

  rising : numbers_rise i.held ≡ true
  rising = subst (λ (ns : List ℕ). numbers_rise ns ≡ true) (sym index_is.held_leaves) (filter-rises (λ n. is_some (leaf_at n)) (range_with_len 0 count) (numbers-rise 0 count))

  in_held : (leaf : ℕ) → leaf_block image content leaf ≢ 0 → has_number leaf i.held ≡ true
  in_held leaf some =
      let here = held_some image (leaf_block image content leaf) some in
      subst (λ (ns : List ℕ). has_number leaf ns ≡ true) (sym index_is.held_leaves)
      (to_filter (λ n. is_some (leaf_at n)) leaf (range_with_len 0 count) (ap is_some here) (to_numbers leaf 0 count (omega arith) (omega (arith, tree.within leaf (held image (leaf_block image content leaf)) here))))

  of_held : (leaf : ℕ) → has_number leaf i.held ≡ true → (leaf_block image content leaf ≢ 0) × (leaf < leaf_limit)
  of_held leaf h =
      let parts = in_filter (λ n. is_some (leaf_at n)) leaf (range_with_len 0 count) (subst (λ (ns : List ℕ). has_number leaf ns ≡ true) index_is.held_leaves h) in
      let inside = in_numbers leaf 0 count parts.1 in
      (at_some image (leaf_block image content leaf) parts.0, omega (arith, inside.1, tree.spelled.good.1.size.limit))

  -- some leaf from one on is held, none is, or the first of them is this one
  some_next : (next : Option ℕ) {from : ℕ} → next_held from i ≡ next → (leaf : ℕ) → from ≤ leaf → has_number leaf i.held ≡ true → is_some next ≡ true
  some_next None {from} is leaf on there = absurd (find_none from i.held is leaf there on)
  some_next (Some l) is leaf on there = refl

  none_next : (from : ℕ) → ((leaf : ℕ) → from ≤ leaf → has_number leaf i.held ≡ true → ⊥) → next_held from i ≡ None
  none_next from none = at (next_held from i) refl
    where
      at : (next : Option ℕ) → next_held from i ≡ next → next ≡ None
      at None is = refl
      at (Some leaf) is = let on = find_on from leaf i.held is in absurd (none leaf on.0 on.1)

  first_next : (from leaf : ℕ) → from ≤ leaf → has_number leaf i.held ≡ true → ((l : ℕ) → from ≤ l → l < leaf → has_number l i.held ≡ true → ⊥) → next_held from i ≡ Some leaf
  first_next from leaf on there first = at (next_held from i) refl
    where
      at : (next : Option ℕ) → next_held from i ≡ next → next ≡ Some leaf
      at None is = absurd (find_none from i.held is leaf there on)
      at (Some l) is = let here = find_on from l i.held is in elim (cases_lt l leaf) [
        | inl less ↦ absurd (first l here.0 less here.1)
        | inr past ↦ ap Some (omega (arith, past, find_least from l i.held rising is leaf there on))
      ]

  quiet : (from to leaf : ℕ) → NoneHeld image content from to → from ≤ leaf → leaf < to → has_number leaf i.held ≡ true → ⊥
  quiet from to leaf none on below there = (of_held leaf there).0 (none leaf on below)

  -- the identifiers in a leaf's bytes are those in its slots
  ids_are : (l : ℕ) → leaf_block image content l ≢ 0 → leaf_ids i l ≡ ids_from (block_at image (leaf_block image content l)) 0
  ids_are l some =
      let b = leaf_block image content l in
      let here = held_some image b some in
      let bytes : leaf_content root.fill (leaf_at l) ≡ block_at image b = ap (leaf_content root.fill) here ∙ take_at (block_at image b) (replicate 512 root.fill) 512 (blocks b (tree.on_disk (path_to (levels_of content) l) (held image b) here)).long in
      let sizes = tree.spelled.good.1.size.slots index_is.kind in
      let inside : l < count = tree.within l (held image b) here in
      ap (λ (slots : List (Option Puid)). filter_map (λ slot. slot) (take 64 (drop (64 * l) slots))) index_is.slots
      ∙ ids_of_leaf root.fill leaf_at count (root.size / 8) l inside (omega (arith, sizes.0, sizes.1)) (λ k less past.
      ap (λ (xs : List ℕ). get_or xs k 0) bytes ∙ tree.filled l k (held image b) here less (omega (arith, past, sizes.1)) ∙ tree.spelled.good.1.fill index_is.kind)
      ∙ ap (λ (xs : List ℕ). ids_from xs 0) bytes

  -- some leaf from one on is held on the disk where one is in the model
  held_is : (from to : ℕ) (more : Bool) → (more ≡ true → SomeHeld image content from) → (more ≡ false → NoneHeld image content from (leaf_count content)) → if_held i from to ≡ (if more then Some to else None)
  held_is from to true some none =
      let next = some refl in
      let there : is_some (next_held from i) ≡ true = some_next (next_held from i) refl next.leaf next.on (in_held next.leaf next.held) in
      rw there refl
  held_is from to false some none =
      let gone : next_held from i ≡ None = none_next from (λ leaf on there. quiet from leaf_limit leaf (subst (NoneHeld image content from) (count_is content) (none refl)) on (of_held leaf there).1 there) in
      rw gone refl

  -- the same of all its leaves
  pub holds_is : (any : Bool) → HoldsAny image content any → if_held i 0 own_part ≡ (if any then Some own_part else None)
  holds_is true some = held_is 0 own_part true (λ yes. some) (λ no. cc)
  holds_is false none = held_is 0 own_part false (λ no. cc) (λ yes. none)

  -- where the first held leaf is that of a step
  abbrev IsNextHere : ℕ → (to : ℕ) → HeldStep → Type 0
  IsNextHere cursor to s = IsNextLeaf (leaf_block image content) to cursor s.held

  step_at : (cursor to : ℕ) (s : HeldStep) → IsNextHere cursor to s → next_held cursor i ≡ Some s.held.leaf
  step_at cursor to s is =
      let some : leaf_block image content s.held.leaf ≢ 0 = λ gone. is.is_held (sym is.block_is ∙ gone) in
      first_next cursor s.held.leaf is.on (in_held s.held.leaf some) (λ leaf on below there. quiet cursor s.held.leaf leaf is.before on below there)

  no_step : (cursor : ℕ) → NoneHeld image content cursor (leaf_count content) → next_held cursor i ≡ None
  no_step cursor none = none_next cursor (λ leaf on there. quiet cursor leaf_limit leaf (subst (NoneHeld image content cursor) (count_is content) none) on (of_held leaf there).1 there)

  -- the bytes that were read are those of its slots
  read_is : (cursor to : ℕ) (s : HeldStep) (bytes : List ℕ) → IsNextHere cursor to s → bytes ≡ block_at image s.held.block → ids_from bytes 0 ≡ leaf_ids i s.held.leaf
  read_is cursor to s bytes is told =
      let some : leaf_block image content s.held.leaf ≢ 0 = λ gone. is.is_held (sym is.block_is ∙ gone) in
      ap (λ (xs : List ℕ). ids_from xs 0) (told ∙ ap (block_at image) (sym is.block_is)) ∙ sym (ids_are s.held.leaf some)

  -- whether another leaf is held after the one that a step found
  more_after : (cursor n : ℕ) (s : HeldStep) → IsNextHere cursor n s → SomeHeld image content n → SomeHeld image content (s.held.leaf + 1)
  more_after cursor n s is some = record { leaf = some.leaf; on = omega (arith, is.inside, some.on); inside = some.inside; held = some.held }

  module _ (cursor : ℕ) (bytes : List ℕ) where
    abbrev IsRead : Option HeldStep → Type 0
    IsRead found = IfSome found (λ s. bytes ≡ block_at image s.held.block)

    abbrev FoundUpto : Option HeldStep → Option ℕ → Type 0
    FoundUpto found next = IsFoundOf (leaf_block image content) cursor found (upto (leaf_count content) next)

    nothing_found : (next : Option ℕ) → FoundUpto None next → (◌≡◌ {A = Option HeldStep} None None → next ≡ None) → next_held cursor i ≡ None
    nothing_found next none sure = no_step cursor (subst (λ (o : Option ℕ). FoundUpto None o) (sure refl) none)

    -- a step in an index's own part is one of the model
    pub own_step_is : (step : LeafStep) → IsLeafStep image content cursor step → IsRead step.found → (ids_read step bytes, after_own step) ≡ own_step i (next_held cursor i)
    own_step_is step is told = by step.found step.next is.stepped.found is.sure is.more told
      where
        goes_on : (s : HeldStep) (n : Option ℕ) → IsNextHere cursor (upto (leaf_count content) n) s → NoneHeld image content (s.held.leaf + 1) (upto (leaf_count content) n) → IfSome n (SomeHeld image content)
            → own_place (after_found (Some s) n) ≡ if_held i (s.held.leaf + 1) (own_part + (s.held.leaf + 1))
        goes_on s None next none more = sym (held_is (s.held.leaf + 1) (own_part + (s.held.leaf + 1)) false (λ no. cc) (λ yes. none))
        goes_on s (Some n) next none more = sym (held_is (s.held.leaf + 1) (own_part + (s.held.leaf + 1)) true (λ yes. more_after cursor n s next more) (λ no. cc))

        by : (f : Option HeldStep) (n : Option ℕ) → FoundUpto f n → (f ≡ None → n ≡ None) → IfSome n (SomeHeld image content) → IsRead f → (ids_found f bytes, own_place (after_found f n)) ≡ own_step i (next_held cursor i)
        by None n none sure more told = ap (own_step i) (sym (nothing_found n none sure))
        by (Some s) n two sure more told =
            ap (λ (ids : List Puid). (ids, own_place (after_found (Some s) n))) (read_is cursor (upto (leaf_count content) n) s bytes two.0 told)
            ∙ ap (λ (next : Option ℕ). (leaf_ids i s.held.leaf, next)) (goes_on s n two.0 two.1 more)
            ∙ ap (own_step i) (sym (step_at cursor (upto (leaf_count content) n) s two.0))

    -- and so is one in the part of a draft, which this index is, of the index j
    pub draft_step_is : (j : Index) (any : Bool) → if_held j 0 own_part ≡ (if any then Some own_part else None) → (step : LeafStep) → IsLeafStep image content cursor step → IsRead step.found
        → (ids_read step bytes, after_drafted any step) ≡ draft_step i j (next_held cursor i)
    draft_step_is j any starts step is told = by step.found step.next is.stepped.found is.sure is.more told
      where
        goes_on : (s : HeldStep) (n : Option ℕ) → IsNextHere cursor (upto (leaf_count content) n) s → NoneHeld image content (s.held.leaf + 1) (upto (leaf_count content) n) → IfSome n (SomeHeld image content)
            → or_own any (after_found (Some s) n) ≡ after_draft i j s.held.leaf
        goes_on s None next none more =
            let gone : next_held (s.held.leaf + 1) i ≡ None = no_step (s.held.leaf + 1) none in
            rw gone (sym starts)
        goes_on s (Some n) next none more =
            let some = more_after cursor n s next more in
            let there : is_some (next_held (s.held.leaf + 1) i) ≡ true = some_next (next_held (s.held.leaf + 1) i) refl some.leaf some.on (in_held some.leaf some.held) in
            rw there refl

        by : (f : Option HeldStep) (n : Option ℕ) → FoundUpto f n → (f ≡ None → n ≡ None) → IfSome n (SomeHeld image content) → IsRead f → (ids_found f bytes, or_own any (after_found f n)) ≡ draft_step i j (next_held cursor i)
        by None n none sure more told = ap (λ (next : Option ℕ). ([], next)) (sym starts) ∙ ap (draft_step i j) (sym (nothing_found n none sure))
        by (Some s) n two sure more told =
            ap (λ (ids : List Puid). (ids, or_own any (after_found (Some s) n))) (read_is cursor (upto (leaf_count content) n) s bytes two.0 told)
            ∙ ap (λ (next : Option ℕ). (leaf_ids i s.held.leaf, next)) (goes_on s n two.0 two.1 more)
            ∙ ap (draft_step i j) (sym (step_at cursor (upto (leaf_count content) n) s two.0))

  -- no pointer of it leads past the disk
  pub none_past : (r block : ℕ) → ¬ LeadsPast image (length image) content r block
  none_past r block past =
      let b = tree_of image content (past.path ++ past.k ∷ []) in
      let below = tree.on_disk (past.path ++ past.k ∷ []) (held image b) (held_some image b past.past.0) in
      absurd (omega (arith, below, past.past.1))

-- ---- an index of a graph that the disk holds

-- it is read by its root, as no commit bit stands
pub tree_of_index : (image : Image) (g : Graph) → Holds image g → (id : Puid) (i : Index) → object_at g id ≡ Some (objects.Index i) → is_committed (part_at image id.block) ≡ false
    → (root : roots.Root) × IsTree (length image) id.block (tree_in image (block_at image id.block)) root (objects.Index i)
unfolding sight
tree_of_index image g holds id i at no_bit =
    let reads = holds.objects id (objects.Index i) at in
    (reads.source, subst (λ (content : List ℕ). IsTree (length image) id.block (tree_in image content) reads.source (objects.Index i)) (read_by_root image id.block (block_at image id.block) no_bit refl) reads.tree)

-- neither it nor its draft is damaged
pub sound_index : {D : Type 0} (g : Ghosts D) (old new : D) (r : ℕ) (root : roots.Root) (i : Index) (draft : Option roots.Root) (t : Trouble) → Tells g old → AreBlocks (g.content old) → length (g.content old) ≡ g.blocks old
    → IsTree (length (g.content old)) r (tree_in (g.content old) (block_at (g.content old) r)) root (objects.Index i)
    → ((d : roots.Root) → draft ≡ Some d → (j : Index) × IsTree (length (g.content old)) r (tree_in (g.content old) (root_spelling d)) d (objects.Index j))
    → IsScanTrouble g old new draft r t → ¬ IsDamaged t
sound_index g old new r root i draft (trouble.Disk tried) tells blocks size tree drafted is = λ h. h
sound_index g old new r root i draft (trouble.Damaged damage) tells blocks size tree drafted (NoRoot code block none) = λ h. none tells root tree.spelled
sound_index g old new r root i draft (trouble.Damaged damage) tells blocks size tree drafted (PastDisk code past) =
    λ h. none_past (g.content old) blocks r (block_at (g.content old) r) root i tree r damage.block (subst (λ (n : ℕ). LeadsPast (g.content old) n (block_at (g.content old) r) r damage.block) (sym size) (past tells))
sound_index g old new r root i draft (trouble.Damaged damage) tells blocks size tree drafted (PastDraft d is code past) =
    let its = drafted d is in
    λ h. none_past (g.content old) blocks r (root_spelling d) d its.0 its.1 r damage.block (subst (λ (n : ℕ). LeadsPast (g.content old) n (root_spelling d) r damage.block) (sym size) (past tells))
