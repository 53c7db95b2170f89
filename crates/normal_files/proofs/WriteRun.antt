-- A write, from the first leaf to the last pointer.
use Rattle.normal_files.proofs.Words.{◌≡◌, ◌≢◌, ◌⊎◌, inl, inr, ℕ, zero, suc, ◌+◌, ◌-◌, ◌*◌, ◌/◌, ◌%◌, ◌<◌, ◌≤◌, Bool, true, false, List, [], length, get_or, Option, Some, None, refl, sym, ◌∙◌, ap, subst, arith, ◌&&◌, ◌==◌, is_some, not, both_ways, cases_eq, cases_lt, Image, block_at, IsSettled, Ghosts, Puid, Place, Leaf, Node, Root, root_spelling, AreClaimed, claims_then, AreCounts, Kept, allocated, BlockState, Allocated, Free, IntendAllocate, IntendDeallocate, MapEntry, entry_in, LeavesFit, bytes_held, Graph, with_object, has_number, parents, leaves_in, written, rises-with_object, BelongsTo, part_at, part_of, Held, held_at, sight, Holds, ReadsAs, carries_settled, object_put, placed, taken_apart, held_there, held, not_map, Accounts, HasDraftIf, HasItsBlocks, is_meant_for, ChangesOnly, of_owner, is_had, is_leaving, is_meant, is_owned_by, is_taken, taken_of, changes_in_place, leaf_pointers, leaves_at}
use Rattle.normal_files.specs.Among.{leaf_after}
use Rattle.normal_files.specs.Laid.{IsAt, IsRooted, leaf_of, leaves_of, node_of}
use Rattle.normal_files.specs.Links.{linked_image, linked_root}
use Rattle.normal_files.specs.Order.{TellsHeld, claims_from, claims_of, nodes_now}
use Rattle.normal_files.specs.Parts.{IsPart, IsReadPart, AreParts}
use Rattle.normal_files.specs.Standing.{BecomesFile, IsPartly}
use Rattle.normal_files.specs.Steps.{IsWrittenTo}
use Rattle.normal_files.specs.Takes.{HasTaken, IsNew, IsOneOf, IsTakenTo, IsWhole, KeepsTaken, TakesBoth, MayTake}
use Rattle.normal_files.specs.Plans.{Plan}
use Rattle.normal_files.specs.declared.part.Part.{Part}
use Rattle.normal_files.proofs.Among.{among_holds, among_rooted, leaf_either, same_leaf, same_node}
use Rattle.normal_files.proofs.Laid.{rooted_reads}
use Rattle.normal_files.proofs.Patched.{last_file, mixed_fits, mixed_partly, next_held, next_untouched, untouched, whole}
use Rattle.normal_files.proofs.NeedOf.{held_is, node_held, told_leaf}
use Rattle.normal_files.proofs.Orders.{not_is, now_other}
use Rattle.normal_files.proofs.Owned.{IsOwn, block_from_own, own_from_block}
use Rattle.normal_files.proofs.Ready.{IsReady}
use Rattle.normal_files.proofs.Stages.{Comes, IsStage, begin, end, steps}
use Rattle.normal_files.proofs.TakeRun.{content_stays, new_stays, some_block}
use Rattle.normal_files.proofs.Trees.{leaf_stands, same_leaves}
use Rattle.normal_files.specs.Writes.{IsWritable}
use Rattle.normal_files.specs.View.{FileView, id_at, way_of}
use Rattle.block_tree.specs.Along.{way_leaves}
use Rattle.block_tree.specs.declared.root.Root as roots
use Rattle.ufs_model.specs.declared.object.Object.TheVariants as objects

-- ---- entries

allocated_at : (image : Image) (m r : ℕ) (p : Place) → entry_in image m ≡ Some (allocated p r) → BelongsTo r p (part_at image m)
allocated_at image m r p is = record { is = record { committed = false; place = Some p; owner = r }; here = ap part_of is; owner_is = refl; place_is = refl }

split : (s : BlockState) (b q : Bool) → ((is_taken s && b) && q) ≡ true → ((is_leaving s && b) && q) ≡ false → ((is_meant s && b) && q) ≡ false → ((is_had s && b) && q) ≡ true
split Free b q taken leaving meant = cc
split Allocated b q taken leaving meant = taken
split IntendAllocate b q taken leaving meant = absurd (both_ways _ meant taken)
split IntendDeallocate b q taken leaving meant = absurd (both_ways _ leaving taken)

-- what is taken, not meant and not leaving is had
had_only : (r : ℕ) (o : Option MapEntry) → is_owned_by is_taken r o ≡ true → is_owned_by is_leaving r o ≡ false → is_owned_by is_meant r o ≡ false → is_owned_by is_had r o ≡ true
had_only r None taken leaving meant = cc
had_only r (Some e) taken leaving meant = split e.state (is_some e.place) (r == e.owner) taken leaving meant

small_image : (image : Image) (g : Graph) → Holds image g → length image ≤ 4194304
small_image image g holds = omega (arith, holds.label.size_is, holds.label.is_label.at_most)

keeps_itself : (c : Image) → KeepsTaken c c
keeps_itself c = record { size = refl; entries = λ m taken. refl; contents = λ m no taken. refl }

module _ {D : Type 0} {g : Ghosts D} {r : ℕ} {root : roots.Root} {start : D} {k0 : Kept} {v : FileView g r root start k0} {offset : ℕ} {bytes : List ℕ} {low high : Part} (can : IsWritable v offset bytes low high) {size : ℕ} (parts : AreParts size offset (length bytes) low high)
    {p d : D} {kept : Kept} (same_p : (m : ℕ) → entry_in (g.content p) m ≡ entry_in (g.content start) m) (may : MayTake (way_of v) offset bytes d kept)
    {low_next high_next : Plan} (both : TakesBoth (g.content p) (g.content d) r root.fill offset bytes low (node_of root low.number) low_next high (node_of root high.number) high_next) where
  abbrev a : Image
  a = g.content start

  abbrev id : Puid
  id = id_at r v.word

  abbrev c : Image
  c = g.content d

  abbrev upto : ℕ
  upto = leaves_in (offset + length bytes)

  abbrev P : ℕ → List ℕ → Type 0
  P = IsWrittenTo a root offset bytes upto

  abbrev End : ℕ → Option (List ℕ)
  End l = end v.has offset bytes can.inside c kept l

  abbrev Begin : ℕ → Option (List ℕ)
  Begin l = begin v.has offset bytes can.inside c kept l

  abbrev Stage : Image → roots.Root → Type 0
  Stage i q = IsStage v.has offset bytes can.inside c kept i q

  -- ---- before a pointer leads to what was taken

  abbrev each_whole : (l : ℕ) (h : Held) → leaves_of a root l ≡ Some h → length h.content ≡ 512
  each_whole = whole v.has

  cases : (l : ℕ) → ((leaves_of c root l ≡ None) × (leaves_of a root l ≡ None)) ⊎ ((x : ℕ) × (leaves_of a root l ≡ Some (held a x)) × (leaves_of c root l ≡ Some (held c x)) × P l (block_at c x))
  cases = leaf_either v.has P c may.amid.content

  written_now : (l : ℕ) (content : List ℕ) → P l content → content ≡ leaf_after a root offset bytes l
  written_now l content is = elim (cases_lt l upto) [
    | inl early ↦ is.0 early
    | inr late ↦ is.1 late ∙ sym (untouched root.fill offset bytes (leaves_of a root) each_whole l (inr late))
  ]

  base_held : (l : ℕ) → leaves_of a root l ≢ None → bytes_held (leaves_of c root l) ≡ End l
  base_held l some = elim (cases l) [
    | inl none ↦ absurd (some none.1)
    | inr is ↦ ap bytes_held is.2 ∙ ap Some (written_now l (block_at c is.0) is.3) ∙ sym (next_held root.fill offset bytes (leaves_of a root) each_whole l _ is.1)
  ]

  base_mixed : (l : ℕ) → (bytes_held (leaves_of c root l) ≡ Begin l) ⊎ (bytes_held (leaves_of c root l) ≡ End l)
  base_mixed l = elim (cases l) [
    | inl none ↦ inl (ap bytes_held (none.0 ∙ sym none.1))
    | inr is ↦ inr (ap bytes_held is.2 ∙ ap Some (written_now l (block_at c is.0) is.3) ∙ sym (next_held root.fill offset bytes (leaves_of a root) each_whole l _ is.1))
  ]

  fit0 : LeavesFit root (leaves_of c root)
  fit0 = mixed_fits v.has offset bytes can.inside c root (record { kind = refl; fill = refl; size = refl }) base_mixed

  no_map0 : (m : ℕ) (q : Place) → BelongsTo r q (part_at c m) → m % 64 ≢ 0
  no_map0 m q is = not_map m (taken_apart c _ (among_holds v.has P c may.amid.content fit0) m r (placed c m r q (part_at c m) refl is).taken)

  stage0 : Stage c root
  stage0 = record {
    rooted_now = among_rooted v.has P c may.amid.content fit0;
    frames = may.amid.content.frames;
    head = record { kind = refl; fill = refl; size = refl };
    entries = λ m. refl;
    held = base_held;
    mixed = base_mixed;
    nodes = λ m real. refl;
    pointers = λ m k small real. same_leaf v.has P c may.amid.content m k;
    only = may.amid.only;
    counts = may.amid.counts;
    no_map = no_map0;
  }

  -- ---- what was taken is ready

  new_at : (b : Image) (q : Place) (m : ℕ) → IsNew b c r q m → IsAt c r q m
  new_at b q m is = record { below = is.below; part = allocated_at c m r q is.entry }

  ready_of : (b e : Image) (part : Part) (next : Plan) → IsReadPart size part → IsPart a root part → HasTaken b e r root.fill offset bytes part (node_of root part.number) part.leaves.to next → IsWhole e (node_of root part.number) next → KeepsTaken e c → next.grown ≡ true
      → IsReady c id root root.fill offset bytes part next
  ready_of b e part next read is has is_whole keeps grown =
      let t = has.some grown in
      let some : part.leaves.from < part.leaves.to = omega (arith, t.1.from, t.1.to) in
      record {
        number = read.number;
        own = is.own some ∙ sym (same_node v.has P c may.amid.content part.number);
        others = has.others;
        leaves = λ k taken. (
          new_at b (Leaf (leaf_pointers.count * part.number + k)) (get_or next.node.leaves k 0) (new_stays (has.leaves k taken) keeps),
          some_block (has.leaves k taken),
        );
        contents = λ k taken. content_stays (has.leaves k taken) keeps ∙ has.contents k taken;
        node_had = has.node_had;
        node_new = λ none.
            let new = has.node_new none grown in (
              new_at b (Node part.number) next.block (new_stays new keeps),
              some_block new,
              same_leaves c e next.block (λ _. content_stays new keeps) ∙ is_whole none grown,
            );
        some = t;
        count = has.count;
        small = elim (cases_eq (node_of root part.number) 0) [
          | inl none ↦ let new = new_stays (has.node_new none grown) keeps in omega (arith, new.below, limit)
          | inr real ↦ let old = stage0.rooted_now.laid.nodes part.number real in omega (arith, old.below, limit, has.node_had real)
        ];
      }
    where
      limit : length c ≤ 4194304
      limit = small_image c _ (among_holds v.has P c may.amid.content fit0)

  touched_low : (k : ℕ) → IsTakenTo low low.leaves.to k → (offset / 512 ≤ leaf_pointers.count * low.number + k) × (leaf_pointers.count * low.number + k < upto)
  touched_low k t = (omega (arith, t.from, parts.first), omega (arith, t.to, parts.next, parts.last, parts.high_read.some))

  touched_high : (k : ℕ) → IsTakenTo high high.leaves.to k → (offset / 512 ≤ leaf_pointers.count * high.number + k) × (leaf_pointers.count * high.number + k < upto)
  touched_high k t = (omega (arith, t.from, parts.first, parts.next, parts.low_read.some), omega (arith, t.to, parts.last))

  own_of : (part : Part) → IsPart a root part → (grown_some : (k : ℕ) × IsTakenTo part part.leaves.to k) → way_leaves part.way ≡ leaves_at a (node_of root part.number)
  own_of part is some = is.own (omega (arith, some.1.from, some.1.to))

  -- ---- the low node, and then the high one

  abbrev pub c1 : Image
  c1 = linked_image c r root low.number low_next

  abbrev pub r1 : roots.Root
  r1 = linked_root root low.number low_next

  comes1 : Comes v.has offset bytes can.inside c kept c c1 root r1 low low_next
  comes1 = steps v.has offset bytes can.inside c kept c root stage0 low low_next
      (λ grown. ready_of (g.content p) both.mid low low_next parts.low_read can.low_is both.low_has both.low_whole both.high_has.keeps grown) both.low_has.none touched_low (λ grown. own_of low can.low_is (both.low_has.some grown)) (λ grown. refl)

  high_apart : high_next.grown ≡ true → high.number ≢ low.number
  high_apart grown same = let t = both.high_has.some grown in parts.apart (omega (arith, t.1.from, t.1.to)) (sym same)

  abbrev pub c2 : Image
  c2 = linked_image c1 r r1 high.number high_next

  abbrev pub r2 : roots.Root
  r2 = linked_root r1 high.number high_next

  comes2 : Comes v.has offset bytes can.inside c kept c1 c2 r1 r2 high high_next
  comes2 = steps v.has offset bytes can.inside c kept c1 r1 comes1.stage high high_next
      (λ grown. comes1.ready high high_next (high_apart grown) (ready_of both.mid c high high_next parts.high_read can.high_is both.high_has both.high_whole (keeps_itself c) grown)) both.high_has.none touched_high
      (λ grown. own_of high can.high_is (both.high_has.some grown)) (λ grown. comes1.other_nodes high.number (λ _. high_apart grown))

  partly_at : (i : Image) (q : roots.Root) → Stage i q → IsPartly i v.graph id v.file (written v.file offset bytes)
  partly_at i q stage = mixed_partly v.has offset bytes can.inside i q stage.head stage.mixed stage.frames stage.rooted_now

  pub partly1 : IsPartly c1 v.graph id v.file (written v.file offset bytes)
  partly1 = partly_at c1 r1 comes1.stage

  pub partly2 : IsPartly c2 v.graph id v.file (written v.file offset bytes)
  partly2 = partly_at c2 r2 comes2.stage

  -- ---- all leaves have their new bytes

  -- a leaf of the low part isn't one of the high part, and the other way round
  low_not_high : (k : ℕ) → IsTakenTo low low.leaves.to k → low.number ≡ high.number → IsTakenTo high high.leaves.to k → ⊥
  low_not_high k t same u = omega (arith, t.to, u.from, parts.next, same)

  absent_in_part : (part : Part) → IsPart a root part → (l : ℕ) → leaf_pointers.count * part.number ≤ l → l < leaf_pointers.count * part.number + leaf_pointers.count → part.leaves.from ≤ l → l < part.leaves.to → leaves_of a root l ≡ None → IsTakenTo part part.leaves.to (l % leaf_pointers.count)
  absent_in_part part is l low_l high_l from to none =
      let at : leaf_pointers.count * part.number + l % leaf_pointers.count ≡ l = omega (arith, low_l, high_l) in
      record {
        small = omega arith;
        from = omega (arith, at, from);
        to = omega (arith, at, to);
        absent = ap (λ (ls : List ℕ). get_or ls (l % leaf_pointers.count) 0) (is.own (omega (arith, from, to))) ∙ absent_pointer (leaf_of a root part.number (l % leaf_pointers.count)) refl (sym (leaf_stands a (root_spelling root) root (record { good = v.has.rooted.laid.good; spelled = refl }) part.number (l % leaf_pointers.count) (omega arith)) ∙ ap (leaves_of a root) at ∙ none);
      }
    where
      absent_pointer : (z : ℕ) → leaf_of a root part.number (l % leaf_pointers.count) ≡ z → held_at a (leaf_of a root part.number (l % leaf_pointers.count)) ≡ None → leaf_of a root part.number (l % leaf_pointers.count) ≡ 0
      absent_pointer zero same held = same
      absent_pointer (suc z) same held = (let clash = sym (held_there a (leaf_of a root part.number (l % leaf_pointers.count)) (λ zero_is. (let e = sym same ∙ zero_is in cc))) ∙ held in cc)

  all_end : (l : ℕ) → bytes_held (leaves_of c2 r2 l) ≡ End l
  all_end l = by (leaves_of a root l) refl
    where
      by : (o : Option Held) → leaves_of a root l ≡ o → bytes_held (leaves_of c2 r2 l) ≡ End l
      by (Some h) is = comes2.stage.held l (λ none. (let clash = sym is ∙ none in cc))
      by None is = elim (cases_lt l (offset / 512)) [
        | inl early ↦ out (inl early)
        | inr from ↦ elim (cases_lt l low.leaves.to) [
          | inl in_low ↦
              let t = absent_in_part low can.low_is l (omega (arith, parts.low_read.from, parts.first, from)) (omega (arith, parts.low_read.to, in_low)) (omega (arith, parts.first, from)) in_low is in
              let at : leaf_pointers.count * low.number + l % leaf_pointers.count ≡ l = omega (arith, parts.low_read.from, parts.first, from, parts.low_read.to, in_low) in
              subst (λ (q : ℕ). bytes_held (leaves_of c2 r2 q) ≡ End q) at (comes2.other_bytes low.number (l % leaf_pointers.count) (omega arith) (low_not_high (l % leaf_pointers.count) t) ∙ (comes1.done (l % leaf_pointers.count) t).0)
          | inr past ↦ elim (cases_lt l upto) [
            | inr late ↦ out (inr late)
            | inl in_high ↦
                let t = absent_in_part high can.high_is l (omega (arith, parts.high_read.from, parts.next, past)) (omega (arith, parts.high_read.to, in_high, parts.last)) (omega (arith, parts.next, past)) (omega (arith, parts.last, in_high)) is in
                let at : leaf_pointers.count * high.number + l % leaf_pointers.count ≡ l = omega (arith, parts.high_read.from, parts.next, past, parts.high_read.to, in_high, parts.last) in
                subst (λ (q : ℕ). bytes_held (leaves_of c2 r2 q) ≡ End q) at (comes2.done (l % leaf_pointers.count) t).0
          ]
        ]
      ]
        where
          out : (l < offset / 512) ⊎ (upto ≤ l) → bytes_held (leaves_of c2 r2 l) ≡ End l
          out side = elim (comes2.stage.mixed l) [ inl was ↦ was ∙ sym (next_untouched root.fill offset bytes (leaves_of a root) each_whole l side) | inr now ↦ now ]

  -- ---- its blocks

  module _ (has : HasItsBlocks a r) (none : (m : ℕ) → is_meant_for a r m ≡ false) where
    now_rooted : IsRooted c2 id r2
    now_rooted = comes2.stage.rooted_now

    -- a block was taken, or has the entry that it had
    abbrev New : ℕ → Type 0
    New m = IsOneOf low (node_of root low.number) low.leaves.to low_next m ⊎ IsOneOf high (node_of root high.number) high.leaves.to high_next m

    entry_cases : (m : ℕ) → (entry_in c2 m ≡ entry_in a m) ⊎ New m
    entry_cases m = elim (both.high_has.rest m) [
      | inr one ↦ inr (inr one)
      | inl same ↦ elim (both.low_has.rest m) [ inr one ↦ inr (inl one) | inl was ↦ inl (comes2.stage.entries m ∙ same ∙ was ∙ same_p m) ]
    ]

    new_entry : (m : ℕ) → New m → (q : Place) × (entry_in c2 m ≡ Some (allocated q r))
    new_entry m (inl (inl (k, t, is))) =
        (Leaf (leaf_pointers.count * low.number + k), comes2.stage.entries m ∙ ap (entry_in c) is ∙ (new_stays (both.low_has.leaves k t) both.high_has.keeps).entry)
    new_entry m (inl (inr (zero_had, grown, is))) =
        (Node low.number, comes2.stage.entries m ∙ ap (entry_in c) is ∙ (new_stays (both.low_has.node_new zero_had grown) both.high_has.keeps).entry)
    new_entry m (inr (inl (k, t, is))) = (Leaf (leaf_pointers.count * high.number + k), comes2.stage.entries m ∙ ap (entry_in c) is ∙ (both.high_has.leaves k t).entry)
    new_entry m (inr (inr (zero_had, grown, is))) = (Node high.number, comes2.stage.entries m ∙ ap (entry_in c) is ∙ (both.high_has.node_new zero_had grown).entry)

    none_leaves : (m : ℕ) → is_owned_by is_leaving r (entry_in c2 m) ≡ false
    none_leaves m = elim (entry_cases m) [ inl same ↦ ap (is_owned_by is_leaving r) same ∙ has.none_leaves m | inr one ↦ ap (is_owned_by is_leaving r) (new_entry m one).1 ]

    pub none_meant : (m : ℕ) → is_owned_by is_meant r (entry_in c2 m) ≡ false
    none_meant m = elim (entry_cases m) [ inl same ↦ ap (is_owned_by is_meant r) same ∙ none m | inr one ↦ ap (is_owned_by is_meant r) (new_entry m one).1 ]

    -- each block of the file is had
    had_at : (m : ℕ) (q : Place) → BelongsTo r q (part_at c2 m) → is_owned_by is_had r (entry_in c2 m) ≡ true
    had_at m q is = had_only r (entry_in c2 m) (taken_of c2 m r (placed c2 m r q (part_at c2 m) refl is).taken) (none_leaves m) (none_meant m)

    each_had : (m : ℕ) → IsOwn c2 id r2 m → is_owned_by is_had r (entry_in c2 m) ≡ true
    each_had m (inl is) = had_at m Root (subst (λ (z : ℕ). BelongsTo r Root (part_at c2 z)) (sym is) now_rooted.part)
    each_had m (inr (inl (n, real, is))) = had_at m (Node n) (subst (λ (z : ℕ). BelongsTo r (Node n) (part_at c2 z)) (sym is) (now_rooted.laid.nodes n real).part)
    each_had m (inr (inr (n, k, small, real, is))) = had_at m (Leaf (leaf_pointers.count * n + k)) (subst (λ (z : ℕ). BelongsTo r (Leaf (leaf_pointers.count * n + k)) (part_at c2 z)) (sym is) (now_rooted.laid.leaves n k small real).part)

    -- and no other is
    old_own : (m : ℕ) → IsOwn a id root m → IsOwn c2 id r2 m
    old_own m (inl is) = inl is
    old_own m (inr (inl (n, real, is))) = let same = comes2.stage.nodes n real in inr (inl (n, λ zero_is. real (sym same ∙ zero_is), is ∙ sym same))
    old_own m (inr (inr (n, k, small, real, is))) = let same = comes2.stage.pointers n k small real in inr (inr (n, k, small, λ zero_is. real (sym same ∙ zero_is), is ∙ sym same))

    low_node : low_next.grown ≡ true → node_of r2 low.number ≡ low_next.block
    low_node grown = comes2.other_nodes low.number (λ high_grown same. high_apart high_grown (sym same)) ∙ comes1.block grown

    low_leaf : (k : ℕ) → IsTakenTo low low.leaves.to k → leaf_of c2 r2 low.number k ≡ get_or low_next.node.leaves k 0
    low_leaf k t = comes2.other_leaves low.number k t.small (low_not_high k t) ∙ (comes1.done k t).1

    new_own : (m : ℕ) → New m → IsOwn c2 id r2 m
    new_own m (inl (inl (k, t, is))) =
        inr (inr (low.number, k, t.small, λ zero_is. some_block (both.low_has.leaves k t) (sym (low_leaf k t) ∙ zero_is), is ∙ sym (low_leaf k t)))
    new_own m (inl (inr (zero_had, grown, is))) =
        inr (inl (low.number, λ zero_is. some_block (both.low_has.node_new zero_had grown) (sym (low_node grown) ∙ zero_is), is ∙ sym (low_node grown)))
    new_own m (inr (inl (k, t, is))) =
        let there = (comes2.done k t).1 in
        inr (inr (high.number, k, t.small, λ zero_is. some_block (both.high_has.leaves k t) (sym there ∙ zero_is), is ∙ sym there))
    new_own m (inr (inr (zero_had, grown, is))) =
        let there = comes2.block grown in
        inr (inl (high.number, λ zero_is. some_block (both.high_has.node_new zero_had grown) (sym there ∙ zero_is), is ∙ sym there))

    pub has_now : HasItsBlocks c2 r
    has_now = record {
      no_bit = now_rooted.no_bit;
      each = λ m is. each_had m (own_from_block c2 id r2 now_rooted m is);
      no_other = λ m is. block_from_own c2 id r2 now_rooted m (elim (entry_cases m) [
        | inl same ↦ old_own m (own_from_block a id root v.has.rooted m (has.no_other m (sym (ap (is_owned_by is_had r) same) ∙ is)))
        | inr one ↦ new_own m one
      ]);
      none_leaves = none_leaves;
    }

  -- ---- the store

  pub reads_now : ReadsAs (length a) id (sight c2 r) (objects.File (written v.file offset bytes))
  reads_now =
      let file = last_file v.has offset bytes can.inside c2 r2 comes2.stage.head all_end in
      subst (λ (n : ℕ). ReadsAs n id (sight c2 r) (objects.File (written v.file offset bytes))) comes2.stage.frames.size (subst (ReadsAs (length c2) id (sight c2 r)) file (rooted_reads c2 id r2 comes2.stage.rooted_now))

  pub stores_now : (now : D) → g.content now ≡ c2 → IsSettled g now → BecomesFile g v.graph v.drafts id (written v.file offset bytes) start now kept
  stores_now now content settled =
      let none = subst (HasDraftIf a id) v.no_draft (v.store.account.drafts id (objects.File v.file) v.has.at) in
      let has = v.store.account.objects id (objects.File v.file) v.has.at in
      let new = objects.File (written v.file offset bytes) in
      record {
        store = record {
          carries = carries_settled g (with_object v.graph id new) now settled (subst (λ (i : Image). Holds i (with_object v.graph id new)) (sym content) (object_put a c2 v.graph id new v.has.holds comes2.stage.frames reads_now));
          account = subst (λ (i : Image). Accounts i (with_object v.graph id new) v.drafts) (sym content) (changes_in_place a c2 v.graph v.drafts id (objects.File v.file) new v.store.account v.has.at v.no_draft reads_now (has_now has none) (none_meant has none) comes2.stage.only);
          counts = subst (λ (i : Image). AreCounts i kept) (sym content) comes2.stage.counts;
          ordered = rises-with_object v.graph id new v.store.ordered;
        };
        only = subst (ChangesOnly (λ e. of_owner r e) a) (sym content) comes2.stage.only;
      }

  -- ---- the claims in their order

  tells : (part : Part) → IsReadPart size part → IsPart a root part → part.leaves.from < part.leaves.to → (nodes : List ℕ) → has_number part.number nodes ≡ not (node_of root part.number == 0) → TellsHeld part (node_of root part.number) v.file.held nodes
  tells part read is some nodes node = record {
    leaf = λ l number. not_is _ _ (told_leaf v.has size part read is some l number ∙ ap not (sym (held_is v.has l)));
    node = node;
  }

  abbrev low_nodes : List ℕ
  low_nodes = nodes_now (node_of root low.number == 0) low_next.grown low.number (parents v.file.held)

  high_claims : (n : ℕ) → high.leaves.from + n ≡ high.leaves.to → AreClaimed (claims_from r v.file.held low_nodes high.leaves.from n) both.mid c2
  high_claims n is = elim (cases_lt high.leaves.from high.leaves.to) [
    | inl more ↦ both.high_has.order v.file.held low_nodes
        (tells high parts.high_read can.high_is more low_nodes (now_other _ low_next.grown low.number high.number (parents v.file.held) (parts.apart more) ∙ node_held v.has high.number)) 0 n c2 (omega (arith, is)) comes2.stage.entries
    | inr past ↦ let none : 0 ≡ n = omega (arith, is, past) in subst (λ (k : ℕ). AreClaimed (claims_from r v.file.held low_nodes high.leaves.from k) both.mid c2) none
        (λ m. comes2.stage.entries m ∙ elim (both.high_has.rest m) [
          | inl same ↦ same
          | inr (inl (k, t, at)) ↦ absurd (omega (arith, t.from, t.to, past))
          | inr (inr (none, grown, at)) ↦ let t = both.high_has.some grown in absurd (omega (arith, t.1.from, t.1.to, past))
        ])
  ]

  pub order_now : AreClaimed (claims_of r v.file offset (length bytes)) a c2
  order_now =
      let n = high.leaves.to - high.leaves.from in
      let rest = subst (λ (l : ℕ). AreClaimed (claims_from r v.file.held low_nodes l n) both.mid c2) parts.next (high_claims n (omega (arith, parts.high_read.some))) in
      let all = both.low_has.order v.file.held (parents v.file.held) (tells low parts.low_read can.low_is parts.some (parents v.file.held) (node_held v.has low.number)) n (leaves_in (offset + length bytes) - offset / 512) c2 (omega (arith, parts.first, parts.next, parts.last, parts.high_read.some, parts.low_read.some)) rest in
      claims_then [] _ a (g.content p) c2 same_p (subst (λ (l : ℕ). AreClaimed (claims_from r v.file.held (parents v.file.held) l (leaves_in (offset + length bytes) - offset / 512)) (g.content p) c2) parts.first all)
