-- What an image that reads as a graph shows, and that a sound one has none of the faults.
use Rattle.std.proofs.Common.{◌≡◌, ◌≢◌, ◌⊎◌, inl, inr, ℕ, zero, suc, ◌*◌, ◌<◌, ◌≤◌, true, false, IsTrue, List, ◌∷◌, [], ◌++◌, length, Some, None, Option, refl, sym, ◌∙◌, ap, subst, arith, is_some}
use Rattle.cfs_recover.proofs.Words.{AsRoot, InTree, BelongsTo, Fault, Graph, HasLabel, HasRootSlots, Held, Holds, Image, IsIn, IsKeptBlock, IsReachedIn, IsShownRoot, IsRootBlock, IsClosedGraph, IsSoundAs, IsUsed, Label, LeavesFour, NamesNothing, NamesRoot, Next, Object, ObjectFault, Place, Puid, ReadsAs, Root, Shows, StandsIn, TheRoot, Tree, block_at, cases_lt, entry_in, found_next, graph_pairs, has_number, held_at, in_image, index_to_leaves, is_among, is_fixed, is_there, leaf_in, levels_of, object_at, object_there, one_root_block, only_one, pair_from_index, part_at, place_at, reader, referred, refers_at, root_placed, rooted, same_block, same_Some, shadows, shown_root, shown_tree, sight, source, source_tree, standing_is, taken_apart, tree_of}
use Rattle.cfs_base.specs.declared.kind.Place.TheVariants as places
use Rattle.ufs_model.proofs.Reached.{among_one, steps_reach}
use Rattle.ufs_model.specs.Reach.{Along, IsReached, Start}
use Rattle.ufs_model.specs.declared.object.Object.TheVariants as objects
use Rattle.cfs_recover.proofs.Counted.{left_is}
use Rattle.cfs_recover.proofs.Shown.{one_label, one_shown, one_shown_root, reads_by, reads_from, reads_shown, tree_at_source}
use Rattle.vol_image.proofs.Graphs.{there_from}
use Rattle.vol_image.proofs.Views.{held_part}

held_past : (image : Image) (n : ℕ) → n ≢ 0 → (h : Held) × (held_at image n ≡ Some h) × (h.block ≡ n)
held_past image zero real = absurd (real refl)
held_past image (suc n) real = (_, refl, refl)

some_none : {A : Type 0} (o : Option A) → IsTrue (is_some o) → o ≡ None → ⊥
some_none None some is = cc
some_none (Some x) some is = cc

module _ (image : Image) (g : Graph) (holds : Holds image g) (graph : IsClosedGraph g) (all_rooted : (x : Puid) → is_there g x ≡ true → is_among x (rooted g) ≡ true) where
  -- ---- what is looked at is what the graph has

  its_label : HasLabel image holds.label.label
  its_label = record { is_label = holds.label.is_label; spelled = holds.label.spelled }

  label_root : (l : Label) → HasLabel image l → l.root ≡ g.root
  label_root l has = ap (λ (m : Label). m.root) (one_label image l holds.label.label has its_label) ∙ holds.label.root_is

  root_there : is_there g g.root ≡ true
  root_there = there_from g g.root (objects.Index graph.root.0) graph.root.1

  label_there : (l : Label) → HasLabel image l → is_there g l.root ≡ true
  label_there l has = ap (is_there g) (label_root l has) ∙ root_there

  -- ---- an object of the graph, as it is shown

  module _ (id : Puid) (there : is_there g id ≡ true) where
    abbrev found : (o : Object) × (object_at g id ≡ Some o)
    found = object_there g id there

    reads : ReadsAs (length image) id (sight image id.block) found.0
    reads = holds.objects id found.0 found.1

    owned : BelongsTo id.block places.Root (part_at image id.block)
    unfolding sight
    owned = reads.part

    shown_root_is : (root : Root) → IsShownRoot image id.block root → root ≡ reads.source
    shown_root_is root read = one_shown_root image id.block root reads.source read (reads_by image id found.0 reads)

    from_source : reader image id.block ≡ source image id.block
    from_source = reads_from image id found.0 reads

    same_tree : shown_tree image id.block ≡ source_tree image id.block
    same_tree = tree_at_source image id found.0 reads

    -- what stands at the end of a path, as the source has it
    at_source : (path : List ℕ) (h : Held) → (shown_tree image id.block).below path ≡ Some h → (source_tree image id.block).below path ≡ Some h
    at_source path h at = ap (λ (t : Tree). t.below path) (sym same_tree) ∙ at

    leaf_at_source : (leaf : ℕ) (h : Held) → leaf_in (shown_tree image id.block) leaf ≡ Some h → leaf_in (source_tree image id.block) leaf ≡ Some h
    leaf_at_source leaf h at = ap (λ (t : Tree). leaf_in t leaf) (sym same_tree) ∙ at

    used_belongs : (place : Place) (n : ℕ) → IsUsed image id.block place n → BelongsTo id.block place (part_at image n)
    unfolding sight
    used_belongs place n AsRoot = owned
    used_belongs place n (InTree root o path h shows at below) =
        subst (λ (c : List ℕ). BelongsTo id.block (place_at (levels_of c) path) (part_at image h.block)) (sym (ap (block_at image) from_source))
        (subst (λ p. BelongsTo id.block (place_at (levels_of (block_at image (source image id.block))) path) p) (held_part image _ h (at_source path h at)) (reads.tree.owned path h (at_source path h at)))

  -- the root index is one of 64 slots
  root_slots : (id : Puid) (there : is_there g id ≡ true) → id.block ≡ 2 → (root : Root) → IsShownRoot image id.block root → HasRootSlots root
  unfolding sight
  root_slots id there two root read =
      let label = holds.label in
      let at_root = object_there g g.root root_there in
      let root_two : g.root.block ≡ 2 = ap (λ (x : Puid). x.block) (sym label.root_is) ∙ label.is_label.root in
      let same = same_block image (length image) id g.root (found id there).0 at_root.0 (reads id there) (holds.objects g.root at_root.0 at_root.1) (two ∙ sym root_two) in
      let index = graph.root in
      let is : (found id there).0 ≡ objects.Index index.0 = same_Some _ _ (sym (found id there).1 ∙ ap (object_at g) same ∙ index.1) in
      let source = (reads id there).source in
      let leaf = leaf_in (source_tree image id.block) in
      let gives = index_to_leaves source leaf index.0 ((reads id there).tree.object ∙ is) in
      let eight = ((reads id there).tree.spelled.good.1.size.slots gives.kind).1 in
      subst HasRootSlots (sym (shown_root_is id there root read)) (record { index = gives.kind; size = omega (arith, gives.size, index.2, eight) })

  -- an object of the graph is shown
  shown : (id : Puid) (there : is_there g id ≡ true) → Shows image id.block (reads id there).source (found id there).0
  shown id there = reads_shown image id (found id there).0 (reads id there) (λ two. root_slots id there two (reads id there).source (reads_by image id (found id there).0 (reads id there)))

  next_there : (i x : Puid) (root : Root) (o : Object) → is_there g i ≡ true → Shows image i.block root o → is_among x (referred o) ≡ true → is_there g x ≡ true
  next_there i x root o there shows refers =
      let at = object_there g i there in
      found_next g i x at.0 graph at.1 (ap (λ (p : Object). is_among x (referred p)) (sym (one_shown image i.block root _ o at.0 shows (shown i there))) ∙ refers)

  pub reached_there : (id : Puid) → IsReachedIn image id → is_there g id ≡ true
  reached_there id (TheRoot l has) = label_there l has
  reached_there id (Next i x root o reached shows refers names) =
      next_there i x root o (reached_there i reached) shows refers

  -- an identifier of the graph names its root block
  names_something : (x : Puid) → is_there g x ≡ true → NamesNothing image x → ⊥
  unfolding sight
  names_something x there (inl none) =
      let placed = root_placed image (length image) x (object_there g x there).0 (reads x there) in
      let no : is_fixed 0 ≡ false = ap is_fixed (sym none) ∙ taken_apart image g holds x.block x.block placed.taken in cc
  names_something x there (inr (inl past)) =
      let placed = root_placed image (length image) x (object_there g x there).0 (reads x there) in
      let inside = in_image image g holds x.block placed.taken.is placed.taken.here in absurd (omega (arith, past, inside))
  names_something x there (inr (inr (root, spelled, other))) =
      let seen = reads x there in other (ap (λ (r : Root). r.word) (one_root_block (block_at image x.block) root seen.root spelled seen.spelled) ∙ seen.word)

  -- ---- what is kept is what the graph has

  pub kept_in : (n : ℕ) → IsKeptBlock image n → IsIn image g n
  kept_in n kept = at kept.place n kept.used
    where
      there : is_there g kept.id ≡ true
      there = reached_there kept.id kept.reached

      o : (o : Object) × (object_at g kept.id ≡ Some o)
      o = object_there g kept.id there

      at : (p : Place) (m : ℕ) → IsUsed image kept.id.block p m → IsIn image g m
      at p m AsRoot = record { id = kept.id; object = o.0; there = o.1; here = inl refl }
      at p m (InTree root p_o path h shows here below) =
          record { id = kept.id; object = o.0; there = o.1; here = inr (record { path = path; held = h; there = at_source kept.id there path h here; is = refl }) }

  -- ---- no fault of an object

  on_disk : (id : Puid) (there : is_there g id ≡ true) (path : List ℕ) → length image ≤ tree_of image (shown_root image id.block) path → ⊥
  unfolding sight
  on_disk id there path past =
      let n = tree_of image (shown_root image id.block) path in
      let size = holds.label in
      let held = held_past image n (λ none. absurd (omega (arith, none, past, size.size_is, size.is_label.some))) in
      let inside = (reads id there).tree.on_disk path held.0 (at_source id there path held.0 held.1) in absurd (omega (arith, inside, held.2, past))

  no_object_fault : (id : Puid) (there : is_there g id ≡ true) (reached : IsReachedIn image id) (code block : ℕ) → ¬ ObjectFault image id.block code block
  unfolding sight
  no_object_fault id there reached code block (ObjectFault.NoRoot none) = let seen = reads id there in none seen.root seen.spelled
  no_object_fault id there reached code block (ObjectFault.NoShadow s has other) =
      let seen = reads id there in
      let from : source image id.block ≡ s = only_one (shadows image id.block) s id.block seen.one_shadow (ap (λ ss. has_number s ss) (sym (standing_is image id.block (owned id there))) ∙ has) in
      let own = other seen.source (subst (λ (n : ℕ). IsRootBlock (block_at image n) seen.source) from seen.tree.spelled) in
      let same = one_root_block (block_at image id.block) own.0 seen.root own.1 seen.spelled in
      own.2 (seen.same_kind ∙ ap (λ (r : Root). r.kind) (sym same)) (seen.same_word ∙ ap (λ (r : Root). r.word) (sym same))
  no_object_fault id there reached code block (ObjectFault.PastDisk root o path k shows past) = on_disk id there (path ++ k ∷ []) past
  no_object_fault id there reached code block (ObjectFault.NotOwned place n used not) = not (used_belongs id there place n used)
  no_object_fault id there reached code block (ObjectFault.SlotNamesNothing x root index s h leaf slot nothing) =
      names_something x (next_there id x root (objects.Index index) there leaf.shows (refers_at index.slots s x slot)) nothing
  no_object_fault id there reached code block (ObjectFault.NoRootIndex root two read not) = not (root_slots id there two root read)
  no_object_fault id there reached code block (ObjectFault.TwoShadows two) =
      absurd (omega (arith, (reads id there).one_shadow, ap length (standing_is image id.block (owned id there)), two))
  no_object_fault id there reached code block (ObjectFault.PastSize root o leaf h here past) =
      let inside = (reads id there).tree.within leaf h (leaf_at_source id there leaf h here.here) in
      absurd (omega (arith, inside, past, ap (λ (r : Root). r.size) (shown_root_is id there root here.shows.read)))
  no_object_fault id there reached code block (ObjectFault.NotFilled root o leaf i h here below past other) =
      let same = shown_root_is id there root here.shows.read in
      other ((reads id there).tree.filled leaf i h (leaf_at_source id there leaf h here.here) below (omega (arith, past, ap (λ (r : Root). r.size) same)) ∙ ap (λ (r : Root). r.fill) (sym same))
  no_object_fault id there reached code block (ObjectFault.DeadEnd root o path h shows at below short none) =
      let on = (reads id there).tree.leads_on path h (at_source id there path h at) (subst (λ (c : List ℕ). length path < length (levels_of c)) (ap (block_at image) (from_source id there)) short) in
      some_none ((source_tree image id.block).below (path ++ on.0 ∷ [])) on.1 (ap (λ (t : Tree). t.below (path ++ on.0 ∷ [])) (sym (same_tree id there)) ∙ none on.0)

  -- ---- no fault

  names_root : (x : Puid) → is_there g x ≡ true → NamesRoot image x
  unfolding sight
  names_root x there =
      let seen = reads x there in record {
        some = λ none. names_something x there (inl none);
        on_disk = elim (cases_lt x.block (length image)) [ inl less ↦ less | inr past ↦ absurd (names_something x there (inr (inl past))) ];
        word = λ root spelled. ap (λ (r : Root). r.word) (one_root_block (block_at image x.block) root seen.root spelled seen.spelled) ∙ seen.word;
      }

  -- what is rooted is reached
  reach : (x : Puid) → IsReached (graph_pairs g) (g.root ∷ []) x → IsReachedIn image x
  reach x (Start among) =
      let label = holds.label in
      let from : IsReachedIn image label.label.root = TheRoot label.label (record { is_label = label.is_label; spelled = label.spelled }) in
      subst (λ (y : Puid). IsReachedIn image y) (label.root_is ∙ sym (among_one x g.root among)) from
  reach x (Along {i} before pair) =
      let at = pair_from_index g i x graph.ordered pair in
      let there = there_from g i at.0 at.1 in
      let same = same_Some _ _ (sym at.1 ∙ (found i there).1) in
      Next i x (reads i there).source (found i there).0 (reach i before) (shown i there) (ap (λ (o : Object). is_among x (referred o)) (sym same) ∙ at.2)
      (names_root x (graph.closed i x pair))

  pub in_kept : (n : ℕ) → IsIn image g n → IsKeptBlock image n
  unfolding sight
  in_kept n is = at is.here
    where
      there : is_there g is.id ≡ true
      there = there_from g is.id is.object is.there

      reached : IsReachedIn image is.id
      reached = reach is.id (steps_reach (graph_pairs g) (g.root ∷ []) (length g.objects) is.id (all_rooted is.id there))

      at : (n ≡ is.id.block) ⊎ StandsIn (source_tree image is.id.block) n → IsKeptBlock image n
      at (inl root) = subst (λ (m : ℕ). IsKeptBlock image m) (sym root) (record { id = is.id; place = places.Root; reached = reached; used = AsRoot })
      at (inr s) =
          let here = ap (λ (t : Tree). t.below s.path) (same_tree is.id there) ∙ s.there in
          let below = (reads is.id there).tree.on_disk s.path s.held s.there in
          subst (λ (m : ℕ). IsKeptBlock image m) s.is
          (record { id = is.id; place = _; reached = reached; used = InTree (reads is.id there).source (found is.id there).0 s.path s.held (shown is.id there) here below })

  pub no_fault : LeavesFour (length image) g → (code block : ℕ) → ¬ Fault image code block
  no_fault room code block (Fault.WrongSize l has other) = other (ap (λ (m : Label). 64 * m.cylinders) (one_label image l holds.label.label has its_label) ∙ holds.label.size_is)
  no_fault room code block (Fault.NoEntry n below none) = some_none (entry_in image n) (holds.maps n below) none
  no_fault room code block (Fault.RootOfAnother n e is root other) = other (holds.own n e is root)
  no_fault room code block (Fault.NotReserved n below fixed not) = not (holds.fixed n below fixed)
  no_fault room code block (Fault.LabelNamesNothing l has nothing) = names_something l.root (label_there l has) nothing
  no_fault room code block (Fault.InObject id c n reached wrong) = no_object_fault id (reached_there id reached) reached c n wrong
  no_fault room code block (Fault.TooFull left is few) = let count = left_is image g holds graph.ordered kept_in in_kept left is in absurd (omega (arith, count, few, room))

-- a sound image has none
pub sound_no_fault : (image : Image) (g : Graph) → IsSoundAs image g → (code block : ℕ) → ¬ Fault image code block
sound_no_fault image g sound = no_fault image g sound.holds sound.graph sound.reached sound.room
