-- What mending makes reads as what was shown; and mended again a volume comes out the same.
use Rattle.std.proofs.Common.{◌≡◌, ◌≢◌, ◌⊎◌, inl, inr, ℕ, zero, suc, ◌+◌, ◌*◌, ◌/◌, ◌%◌, ◌<◌, ◌≤◌, Bool, true, false, ◌||◌, IsTrue, List, [], ◌∷◌, ◌++◌, length, get_or, Option, Some, None, is_some, refl, sym, ◌∙◌, ap, subst, arith}
use Rattle.std.proofs.lemmas.Bool.{cases_eq, ne_eqb}
use Rattle.std.proofs.lemmas.List.{ext_get_or}
use Rattle.std.proofs.lemmas.Option.{same_Some}
use Rattle.std.specs.Prelude.{IsSome}
use Rattle.cfs_base.specs.Codes as codes
use Rattle.cfs_base.specs.Disk.{Image, block_at}
use Rattle.cfs_base.specs.declared.identifier.Puid.{Puid}
use Rattle.cfs_base.specs.declared.kind.Place.{Place}
use Rattle.cfs_base.specs.declared.kind.Place.TheVariants as places
use Rattle.cfs_base.specs.declared.refusal.Damage.{Damage}
use Rattle.block_tree.specs.Root.{IsRootBlock}
use Rattle.block_tree.specs.Tree.{levels_of, tree_of}
use Rattle.block_tree.specs.declared.root.Root.{Root}
use Rattle.cyl_alloc.specs.Space.{unheld_entry}
use Rattle.cyl_map.proofs.Entries.{entry_of_spelled}
use Rattle.cyl_map.proofs.Maps.{get_or-entries_of, length-entries_of, spells_read}
use Rattle.cyl_map.specs.Entry.{spelling}
use Rattle.cyl_map.specs.Map.{bytes_at, entries_of, entry_at, map_spelling}
use Rattle.cyl_map.specs.Reading.{said_by}
use Rattle.cyl_map.specs.Volume.{map_of}
unfoldable use Rattle.cyl_map.specs.Volume.{entry_in}
use Rattle.cyl_map.specs.declared.entry.MapEntry.{MapEntry}
use Rattle.leaf_changes.proofs.Given.{index_to_leaves}
use Rattle.ufs_model.proofs.Graphs.{object_there, pair_from_index}
use Rattle.ufs_model.proofs.Reached.{among_one, steps_reach}
use Rattle.ufs_model.specs.Graph.{Graph, graph_pairs, is_there, object_at, referred}
use Rattle.ufs_model.specs.Identifier.{is_among}
use Rattle.ufs_model.specs.Numbers.{has_number}
use Rattle.ufs_model.specs.Reach.{Along, IsReached, Start}
use Rattle.ufs_model.specs.declared.object.Object.{Object}
use Rattle.ufs_model.specs.declared.object.Object.TheVariants as objects
use Rattle.vol_image.proofs.Changes.{same_block}
use Rattle.vol_image.proofs.Faults.{refers_at}
use Rattle.vol_image.proofs.Graphs.{same_entries, there_from}
use Rattle.vol_image.proofs.Parts.{IsPlaced, in_image, not_root, place_inner, placed, root_placed, taken_apart, tree_placed}
use Rattle.vol_image.proofs.Paths.{held_some, held_there, some_held}
use Rattle.vol_image.proofs.Steps.{not_map}
use Rattle.vol_image.proofs.Unique.{found_next, one_root_block}
use Rattle.vol_image.proofs.Views.{held, held_is}
use Rattle.vol_image.specs.Fault.{AsRoot, Fault, HasLabel, HasRootSlots, InTree, IsKeptBlock, IsReachedIn, IsSameSort, IsShownGraph, IsUsed, LeavesBlocks, NamesNothing, NamesRoot, Next, ObjectFault, Shows, TheRoot, one_or, reader, shown_root, shown_tree, standing}
use Rattle.vol_image.specs.Faults.{IsListed}
use Rattle.vol_image.specs.Part.{BelongsTo, is_fixed, part_at, reserved}
use Rattle.vol_image.specs.Reading.{IsTree, leaf_in, object_with}
use Rattle.vol_image.specs.Seen.{Held, place_at, tree_in}
use Rattle.vol_image.specs.Sight.{source, source_tree}
unfoldable use Rattle.vol_image.specs.Sight.{sight}
use Rattle.vol_image.specs.Sound.{Holds, ReadsAs}
use Rattle.vol_label.specs.declared.label.Label.{Label}
use Rattle.vol_owners.specs.Account.{StandsIn}
use Rattle.cfs_recover.proofs.NoFault.{in_kept, kept_in, sound_no_fault}
use Rattle.cfs_recover.proofs.Shown.{graph_is_shown, one_label, one_shown, one_shown_root, reads_from}
use Rattle.cfs_recover.specs.Survey.{IsIn}
use Rattle.cfs_check.specs.Checked.{CantHeal}
use Rattle.cfs_check.specs.Mended.{IsReadByOne, IsRootOf, MendsTo}
use Rattle.cfs_check.specs.Repair.{mended_entry}
use Rattle.cfs_check.specs.declared.uses.Use.TheVariants as uses
use Rattle.cfs_check.proofs.Decided.{entry_or}
use Rattle.cfs_check.proofs.Mending.{no_bit, root_apart, root_inside, standing_none}
use Rattle.cfs_check.proofs.Right.{IsOfEntry, IsRight}
use Rattle.cfs_check.proofs.SameTrees.{SameContent, path_same, same_object}

named_not : (image : Image) (x : Puid) → NamesRoot image x → NamesNothing image x → ⊥
named_not image x is (inl none) = is.some none
named_not image x is (inr (inl past)) = omega (arith, past, is.on_disk)
named_not image x is (inr (inr (root, spelled, other))) = other (is.word root spelled)

-- the one that stands
only_one : (r s : ℕ) (ss : List ℕ) → length ss ≤ 1 → has_number s ss ≡ true → one_or r ss ≡ s
only_one r s [] few has = cc
only_one r s (t ∷ []) few has = elim (cases_eq t s) [
  | inl same ↦ same
  | inr other ↦ (let no : (false || false) ≡ true = ap (λ (b : Bool). b || false) (sym (ne_eqb t s other)) ∙ has in cc)
]
only_one r s (t ∷ u ∷ ss) few has = absurd (omega (arith, few))

module _ (a b : Image) (g : Graph) (m : MendsTo a g b) where
  abbrev holds : Holds b g
  holds = m.sound.holds

  -- ---- an object of the graph

  module _ (id : Puid) (o : Object) (at : object_at g id ≡ Some o) where
    abbrev content : List ℕ
    content = block_at b id.block

    abbrev read : IsReadByOne a id content
    read = m.roots id o at

    abbrev its : ReadsAs (length b) id (sight b id.block) o
    its = holds.objects id o at

    from_itself : source b id.block ≡ id.block
    from_itself = sym (reads_from b id o its) ∙ ap (one_or id.block) (standing_none b id.block (no_bit b g m.sound m.clean id o at))

    tree_is : IsTree (length b) id.block (tree_in b content) its.source o
    unfolding sight
    tree_is = subst (λ (n : ℕ). IsTree (length b) id.block (tree_in b (block_at b n)) its.source o) from_itself its.tree

    -- a block of its tree is that of a node or a leaf of it
    inner : (path : List ℕ) (h : Held) → (tree_in b content).below path ≡ Some h → IsPlaced b h.block id.block (place_at (levels_of content) path)
    inner path h there = tree_placed b (length b) id.block content its.source o tree_is path h there

    no_root : (path : List ℕ) (h : Held) → (tree_in b content).below path ≡ Some h → ¬ IsRootOf g h.block
    no_root path h there root =
        let one = inner path h there in
        let two = root_placed b (length b) root.0 root.1 (holds.objects root.0 root.1 root.2) in
        let same : one.taken.is ≡ two.taken.is = same_Some _ _ (sym one.taken.here ∙ ap (entry_in b) (sym root.3) ∙ two.taken.here) in
        let place : Some (place_at (levels_of content) path) ≡ Some places.Root = sym one.place_is ∙ ap (λ (e : MapEntry). e.place) same ∙ two.place_is in
        not_root (place_at (levels_of content) path) (place_inner (levels_of content) path) (same_Some _ _ place)

    keeps : (path : List ℕ) (h : Held) → (tree_in b content).below path ≡ Some h → SameContent b a h
    keeps path h there = sym (m.others h.block (not_map h.block (taken_apart b g holds h.block id.block (inner path h there).taken)) (no_root path h there))

    same_path : (path : List ℕ) → tree_of a content path ≡ tree_of b content path
    same_path path = path_same b a content keeps path

    -- what stands in the old tree stands in the new one
    record Stands (path : List ℕ) (h : Held) : Type 0 where
      pub n : ℕ
      pub there : (tree_in b content).below path ≡ Some (held b n)
      pub is : h ≡ held a n

    stands : (path : List ℕ) (h : Held) → (tree_in a content).below path ≡ Some h → Stands path h
    stands path h there =
        let here = held_is a (tree_of a content path) h there in
        record {
          n = tree_of b content path;
          there = held_there b (tree_of b content path) (λ none. here.1 (same_path path ∙ none));
          is = here.0 ∙ ap (held a) (same_path path);
        }

    shown_at : (path : List ℕ) (h : Held) → (shown_tree a id.block).below path ≡ Some h → (tree_in a content).below path ≡ Some h
    shown_at path h there = subst (λ (c : List ℕ). (tree_in a c).below path ≡ Some h) read.shown there

    shown_leaf : (leaf : ℕ) (h : Held) → leaf_in (shown_tree a id.block) leaf ≡ Some h → leaf_in (tree_in a content) leaf ≡ Some h
    shown_leaf leaf h there = subst (λ (c : List ℕ). leaf_in (tree_in a c) leaf ≡ Some h) read.shown there

    right : IsRight a id.block its.source
    right = record {
      on_disk = λ path h there.
          let at_b = stands path h (shown_at path h there) in
          omega (arith, tree_is.on_disk path (held b at_b.n) at_b.there, ap (λ (x : Held). x.block) at_b.is, m.size);
      within = λ leaf h there. let at_b = stands _ h (shown_leaf leaf h there) in tree_is.within leaf (held b at_b.n) at_b.there;
      filled = λ leaf i h there below past.
          let at_b = stands _ h (shown_leaf leaf h there) in
          ap (λ (x : Held). get_or x.content i 0) at_b.is ∙ ap (λ (c : List ℕ). get_or c i 0) (keeps _ (held b at_b.n) at_b.there) ∙ tree_is.filled leaf i (held b at_b.n) at_b.there below past;
      leads_on = λ path h there short.
          let at_b = stands path h (shown_at path h there) in
          let on = tree_is.leads_on path (held b at_b.n) at_b.there (subst (λ (c : List ℕ). length path < length (levels_of c)) read.shown short) in (
            on.0,
            subst (λ (c : List ℕ). IsTrue (is_some ((tree_in a c).below (path ++ on.0 ∷ [])))) (sym read.shown)
                (held_some a (tree_of a content (path ++ on.0 ∷ [])) (λ none. some_held b (tree_of b content (path ++ on.0 ∷ [])) on.1 (sym (same_path (path ++ on.0 ∷ [])) ∙ none))),
          );
    }

    slots : id.block ≡ 2 → HasRootSlots its.source
    slots two =
        let label = holds.label in
        let index = m.sound.graph.root in
        let root_two : g.root.block ≡ 2 = ap (λ (x : Puid). x.block) (sym label.root_is) ∙ label.is_label.root in
        let same = same_block b (length b) id g.root o (objects.Index index.0) its (holds.objects g.root (objects.Index index.0) index.1) (two ∙ sym root_two) in
        let is : o ≡ objects.Index index.0 = same_Some _ _ (sym at ∙ ap (object_at g) same ∙ index.1) in
        let gives = index_to_leaves its.source (leaf_in (tree_in b content)) index.0 (tree_is.object ∙ is) in
        let eight = (tree_is.spelled.good.1.size.slots gives.kind).1 in
        record { index = gives.kind; size = omega (arith, gives.size, index.2, eight) }

    shows : Shows a id.block its.source o
    shows = record {
      read = record {
        own = read.own;
        own_spelled = read.own_spelled;
        spelled = subst (λ (c : List ℕ). IsRootBlock c its.source) (sym read.shown) tree_is.spelled;
        same = subst (IsSameSort read.own) (one_root_block content read.root its.source read.spelled tree_is.spelled) read.same;
      };
      sort = slots;
      object = ap (λ (c : List ℕ). object_with its.source (leaf_in (tree_in a c))) read.shown ∙ same_object b a content keeps its.source ∙ tree_is.object;
    }

    names_root : NamesRoot a id
    unfolding sight
    names_root = record {
      some = λ none. let no : true ≡ false = ap is_fixed (sym none) ∙ root_apart b g m.sound m.clean id o at in cc;
      on_disk = let inside = root_inside b g m.sound m.clean id o at in omega (arith, inside, m.size);
      word = λ root spelled.
          ap (λ (r : Root). r.word) (one_root_block (block_at a id.block) root read.own spelled read.own_spelled) ∙ sym read.same.word
          ∙ ap (λ (r : Root). r.word) (one_root_block content read.root its.root read.spelled its.spelled) ∙ its.word;
    }

  -- ---- it reads as what was shown

  has_label : HasLabel a holds.label.label
  has_label = record {
    is_label = holds.label.is_label;
    spelled = sym (m.others 1 (λ none. omega (arith, none)) (λ root. let no : true ≡ false = ap is_fixed (sym root.3) ∙ root_apart b g m.sound m.clean root.0 root.1 root.2 in cc)) ∙ holds.label.spelled;
  }

  root_there : is_there g g.root ≡ true
  root_there = there_from g g.root (objects.Index m.sound.graph.root.0) m.sound.graph.root.1

  reach : (x : Puid) → IsReached (graph_pairs g) (g.root ∷ []) x → IsReachedIn a x
  reach x (Start among) = subst (λ (y : Puid). IsReachedIn a y) (holds.label.root_is ∙ sym (among_one x g.root among)) (TheRoot holds.label.label has_label)
  reach x (Along {i} before pair) =
      let from = pair_from_index g i x m.sound.graph.ordered pair in
      let to = object_there g x (m.sound.graph.closed i x pair) in
      Next i x (holds.objects i from.0 from.1).source from.0 (reach i before) (shows i from.0 from.1) from.2 (names_root x to.0 to.1)

  reached : (x : Puid) (o : Object) → object_at g x ≡ Some o → IsReachedIn a x
  reached x o at = reach x (steps_reach (graph_pairs g) (g.root ∷ []) (length g.objects) x (m.sound.reached x (there_from g x o at)))

  pub as_shown : IsShownGraph a g
  as_shown = graph_is_shown a holds.label.label has_label g m.sound.graph.ordered (sym holds.label.root_is) root_there reached (λ x o at. ((holds.objects x o at).source, shows x o at))
      (λ x y o at among. found_next g x y o m.sound.graph at among)

  -- ---- what an object uses

  -- the object with this identifier uses the block
  pub record IsUser (n : ℕ) : Type 0 where
    pub id : Puid
    pub object : Object
    pub there : object_at g id ≡ Some object
    pub place : Place
    pub used : IsUsed a id.block place n

  in_tree : (id : Puid) (o : Object) → object_at g id ≡ Some o → (path : List ℕ) (h : Held) → (shown_tree a id.block).below path ≡ Some h
      → (k : Held) × ((source_tree b id.block).below path ≡ Some k) × (k.block ≡ h.block)
  in_tree id o at path h there =
      let at_b = stands id o at path h (shown_at id o at path h there) in (
        held b at_b.n,
        subst (λ (n : ℕ). (tree_in b (block_at b n)).below path ≡ Some (held b at_b.n)) (sym (from_itself id o at)) at_b.there,
        sym (ap (λ (x : Held). x.block) at_b.is),
      )

  pub used_in : (id : Puid) (o : Object) → object_at g id ≡ Some o → (place : Place) (n : ℕ) → IsUsed a id.block place n → IsIn b g n
  used_in id o at place n AsRoot = record { id = id; object = o; there = at; here = inl refl }
  used_in id o at place n (InTree root p path h shown there below) =
      let k = in_tree id o at path h there in record { id = id; object = o; there = at; here = inr (record { path = path; held = k.0; there = k.1; is = k.2 }) }

  pub in_used : (n : ℕ) → IsIn b g n → IsUser n
  in_used n is = at is.here
    where
      at : (n ≡ is.id.block) ⊎ StandsIn (source_tree b is.id.block) n → IsUser n
      at (inl root) = subst IsUser (sym root) (record { id = is.id; object = is.object; there = is.there; place = places.Root; used = AsRoot })
      at (inr s) =
          let c = block_at b is.id.block in
          let there = subst (λ (k : ℕ). (tree_in b (block_at b k)).below s.path ≡ Some s.held) (from_itself is.id is.object is.there) s.there in
          let here = held_is b (tree_of b c s.path) s.held there in
          let n_is : tree_of b c s.path ≡ n = sym (ap (λ (x : Held). x.block) here.0) ∙ s.is in
          let at_a : (tree_in a c).below s.path ≡ Some (held a n) =
          held_there a (tree_of a c s.path) (λ none. here.1 (sym (same_path is.id is.object is.there s.path) ∙ none)) ∙ ap (λ (k : ℕ). Some (held a k)) (same_path is.id is.object is.there s.path ∙ n_is)
          in
          let shown = subst (λ (x : List ℕ). (tree_in a x).below s.path ≡ Some (held a n)) (sym (m.roots is.id is.object is.there).shown) at_a in
          record {
            id = is.id;
            object = is.object;
            there = is.there;
            place = place_at (levels_of (shown_root a is.id.block)) s.path;
            used = InTree (holds.objects is.id is.object is.there).source is.object s.path (held a n) (shows is.id is.object is.there) shown ((right is.id is.object is.there).on_disk s.path (held a n) shown);
          }

  belongs : (id : Puid) (o : Object) → object_at g id ≡ Some o → (place : Place) (n : ℕ) → IsUsed a id.block place n → BelongsTo id.block place (part_at b n)
  unfolding sight
  belongs id o at place n AsRoot = (holds.objects id o at).part
  belongs id o at place n (InTree root p path h shown there below) =
      let at_b = stands id o at path h (shown_at id o at path h there) in
      subst (λ (c : List ℕ). BelongsTo id.block (place_at (levels_of c) path) (part_at b h.block)) (sym (m.roots id o at).shown)
      (subst (λ (k : ℕ). BelongsTo id.block (place_at (levels_of (block_at b id.block)) path) (part_at b k)) (sym (ap (λ (x : Held). x.block) at_b.is)) ((tree_is id o at).owned path (held b at_b.n) at_b.there))

  -- its entry
  pub used_entry : (id : Puid) (o : Object) → object_at g id ≡ Some o → (place : Place) (n : ℕ) → IsUsed a id.block place n → entry_in b n ≡ Some (mended_entry (uses.By id.block place))
  used_entry id o at place n used =
      let p = placed b n id.block place (part_at b n) refl (belongs id o at place n used) in
      let e = p.taken.is in
      let tidy = m.clean.held n e p.taken.here (used_in id o at place n used) in
      p.taken.here ∙ (λ i. Some (record { state = tidy.0 i; committed = tidy.1 i; place = p.place_is i; owner = p.taken.owned i }))

  -- ---- no fault but of entries

  module _ (id : Puid) (o : Object) (at : object_at g id ≡ Some o) where
    abbrev root_is : Root
    root_is = (holds.objects id o at).source

    abbrev shown : Shows a id.block root_is o
    shown = shows id o at

    same_root : (root : Root) (p : Object) → Shows a id.block root p → root ≡ root_is
    same_root root p other = one_shown_root a id.block root root_is other.read shown.read

    past_disk : (path : List ℕ) → length a ≤ tree_of a (shown_root a id.block) path → ⊥
    past_disk path past =
        let n = tree_of a (shown_root a id.block) path in
        let some : n ≢ 0 = λ none. absurd (omega (arith, none, past, holds.label.size_is, holds.label.is_label.some, m.size)) in
        let inside = (right id o at).on_disk path (held a n) (held_there a n some) in absurd (omega (arith, inside, past))

    of_object : (code n : ℕ) → ObjectFault a id.block code n → IsOfEntry code
    of_object code n (ObjectFault.NoRoot none) = absurd (none shown.read.own shown.read.own_spelled)
    of_object code n (ObjectFault.NoShadow s has other) =
        let from : reader a id.block ≡ s = only_one id.block s (standing a id.block) (m.roots id o at).one has in
        let own = other root_is (subst (λ (k : ℕ). IsRootBlock (block_at a k) root_is) from shown.read.spelled) in
        let same = one_root_block (block_at a id.block) own.0 shown.read.own own.1 shown.read.own_spelled in
        absurd (own.2 (shown.read.same.kind ∙ ap (λ (r : Root). r.kind) (sym same)) (shown.read.same.word ∙ ap (λ (r : Root). r.word) (sym same)))
    of_object code n (ObjectFault.PastDisk root p path k is past) = absurd (past_disk (path ++ k ∷ []) past)
    of_object code n (ObjectFault.NotOwned place k used other) = inr refl
    of_object code n (ObjectFault.SlotNamesNothing x root index s h leaf slot nothing) =
        let same = one_shown a id.block root root_is (objects.Index index) o leaf.shows shown in
        let there = object_there g x (found_next g id x o m.sound.graph at (subst (λ (p : Object). is_among x (referred p) ≡ true) same (refers_at index.slots s x slot))) in
        absurd (named_not a x (names_root x there.0 there.1) nothing)
    of_object code n (ObjectFault.NoRootIndex root two is other) =
        absurd (other (subst HasRootSlots (sym (one_shown_root a id.block root root_is is shown.read)) (shown.sort two)))
    of_object code n (ObjectFault.TwoShadows two) = absurd (omega (arith, two, (m.roots id o at).one))
    of_object code n (ObjectFault.PastSize root p leaf h is past) =
        let inside = (right id o at).within leaf h is.here in absurd (omega (arith, inside, past, ap (λ (r : Root). r.size) (same_root root p is.shows)))
    of_object code n (ObjectFault.NotFilled root p leaf i h is below past other) =
        let same = same_root root p is.shows in
        absurd (other ((right id o at).filled leaf i h is.here below (omega (arith, past, ap (λ (r : Root). r.size) same)) ∙ ap (λ (r : Root). r.fill) (sym same)))
    of_object code n (ObjectFault.DeadEnd root p path h is there below short none) =
        let on = (right id o at).leads_on path h there short in
        let no : true ≡ false = sym on.1 ∙ ap is_some (none on.0) in cc

  kept_on : (n : ℕ) → IsKeptBlock a n → IsKeptBlock b n
  kept_on n kept = let o = as_shown.all kept.id kept.reached in in_kept b g holds m.sound.graph m.sound.reached n (used_in kept.id o.0 o.1 kept.place n kept.used)

  kept_from : (n : ℕ) → IsKeptBlock b n → IsKeptBlock a n
  kept_from n kept =
      let user = in_used n (kept_in b g holds m.sound.graph m.sound.reached n kept) in
      record { id = user.id; place = user.place; reached = reached user.id user.object user.there; used = user.used }

  leaves_on : (left : ℕ) → LeavesBlocks a left → LeavesBlocks b left
  leaves_on left are = record {
    taken = are.taken;
    size = are.size ∙ sym m.size;
    only = λ n is. elim (are.only n is) [ inl fixed ↦ inl fixed | inr kept ↦ inr (kept_on n kept) ];
    all = λ n below is. are.all n (omega (arith, below, m.size)) (elim is [ inl fixed ↦ inl fixed | inr kept ↦ inr (kept_from n kept) ]);
    count = are.count;
  }

  of_entry : (code n : ℕ) → Fault a code n → IsOfEntry code
  of_entry code n (Fault.WrongSize l has other) = absurd (other (ap (λ (k : Label). 64 * k.cylinders) (one_label a l holds.label.label has has_label) ∙ holds.label.size_is ∙ m.size))
  of_entry code n (Fault.NoEntry k below none) = inl refl
  of_entry code n (Fault.RootOfAnother k e is root other) = inl refl
  of_entry code n (Fault.NotReserved k below fixed other) = inr refl
  of_entry code n (Fault.LabelNamesNothing l has nothing) =
      let same : l.root ≡ g.root = ap (λ (k : Label). k.root) (one_label a l holds.label.label has has_label) ∙ holds.label.root_is in
      let o = object_there g g.root root_there in
      absurd (named_not a g.root (names_root g.root o.0 o.1) (subst (NamesNothing a) same nothing))
  of_entry code n (Fault.InObject id c k is wrong) = let o = as_shown.all id is in of_object id o.0 o.1 c k wrong
  of_entry code n (Fault.TooFull left is few) = absurd (sound_no_fault b g m.sound codes.too_full 0 (Fault.TooFull left (leaves_on left is) few))

  -- it isn't refused
  pub not_refused : (d : Damage) → IsListed a d → ¬ CantHeal a d
  not_refused d listed (inl (no_two, no_five)) = elim (of_entry d.code d.block listed.is) [ inl two ↦ no_two two | inr five ↦ no_five five ]
  not_refused d listed (inr (five, inl t)) =
      let one = as_shown.all t.id t.reached in
      let other = as_shown.all t.other t.reached_too in
      let same = same_Some _ _ (sym (used_entry t.id one.0 one.1 t.place d.block t.used) ∙ used_entry t.other other.0 other.1 t.place_of_other d.block t.used_too) in
      t.differs (ap (λ (e : MapEntry). e.owner) same, same_Some _ _ (ap (λ (e : MapEntry). e.place) same))
  not_refused d listed (inr (five, inr (fixed, t))) =
      let one = as_shown.all t.id t.reached in
      let is = used_entry t.id one.0 one.1 t.place d.block t.used in
      let same = same_Some _ _ (sym (holds.fixed d.block (in_image b g holds d.block _ is) fixed) ∙ is) in
      let no : None ≡ Some t.place = ap (λ (e : MapEntry). e.place) same in cc

-- ---- one graph

module _ (a b c : Image) (g h : Graph) (m : MendsTo a g b) (n : MendsTo a h c) where
  same_object_at : (x : Puid) → object_at g x ≡ object_at h x
  same_object_at x = at (object_at g x) (object_at h x) refl refl
    where
      at : (p q : Option Object) → object_at g x ≡ p → object_at h x ≡ q → object_at g x ≡ object_at h x
      at None None one two = one ∙ sym two
      at (Some o) (Some p) one two = one ∙ ap Some (let s = (as_shown a b g m).shows x o one in let t = (as_shown a c h n).shows x p two in one_shown a x.block s.0 t.0 o p s.1 t.1) ∙ sym two
      at (Some o) None one two = let q = (as_shown a c h n).all x ((as_shown a b g m).reached x o one) in let no : None ≡ Some q.0 = sym two ∙ q.1 in cc
      at None (Some p) one two = let q = (as_shown a b g m).all x ((as_shown a c h n).reached x p two) in let no : None ≡ Some q.0 = sym one ∙ q.1 in cc

  pub same_graph : g ≡ h
  same_graph =
      let root : g.root ≡ h.root = sym m.sound.holds.label.root_is ∙ ap (λ (l : Label). l.root) (one_label a _ _ (has_label a b g m) (has_label a c h n)) ∙ n.sound.holds.label.root_is in
      let entries = same_entries g.objects h.objects m.sound.graph.ordered n.sound.graph.ordered same_object_at in
      λ i. record { root = root i; objects = entries i }

-- ---- one image

same_or_other : (xs ys : List ℕ) → (xs ≡ ys) ⊎ (xs ≢ ys)
same_or_other [] [] = inl refl
same_or_other [] (y ∷ ys) = inr (λ is. cc)
same_or_other (x ∷ xs) [] = inr (λ is. cc)
same_or_other (x ∷ xs) (y ∷ ys) = elim (cases_eq x y) [
  | inr other ↦ inr (λ is. other (let e : x ≡ y = cc in e))
  | inl head ↦ elim (same_or_other xs ys) [ inl tail ↦ inl (λ i. head i ∷ tail i) | inr other ↦ inr (λ is. other (let e : xs ≡ ys = cc in e)) ]
]

some_entry : (o : Option MapEntry) → IsSome o → (e : MapEntry) × (o ≡ Some e)
some_entry None is = cc
some_entry (Some e) is = (e, refl)

module _ (a b c : Image) (g : Graph) (m : MendsTo a g b) (n : MendsTo a g c) where
  -- a block that an object has, has the entry of its use in both
  both_used : (k : ℕ) → IsIn b g k ⊎ IsIn c g k → entry_in b k ≡ entry_in c k
  both_used k (inl is) = let u = in_used a b g m k is in used_entry a b g m u.id u.object u.there u.place k u.used ∙ sym (used_entry a c g n u.id u.object u.there u.place k u.used)
  both_used k (inr is) = let u = in_used a c g n k is in used_entry a b g m u.id u.object u.there u.place k u.used ∙ sym (used_entry a c g n u.id u.object u.there u.place k u.used)

  free_in_both : (k : ℕ) (e f : MapEntry) → entry_in b k ≡ Some e → entry_in c k ≡ Some f → is_fixed k ≡ false → e ≢ f → ⊥
  free_in_both k e f one two apart other =
      let differ : entry_in b k ≡ entry_in c k → ⊥ = λ (same : entry_in b k ≡ entry_in c k). other (same_Some _ _ (sym one ∙ same ∙ two)) in
      let free = m.clean.free k e one apart (λ is. differ (both_used k (inl is))) in
      other (free ∙ sym (n.clean.free k f two apart (λ is. differ (both_used k (inr is)))))

  same_entry : (k : ℕ) → k < length b → entry_in b k ≡ entry_in c k
  same_entry k below =
      let e = some_entry (entry_in b k) (m.sound.holds.maps k below) in
      let f = some_entry (entry_in c k) (n.sound.holds.maps k (omega (arith, below, m.size, n.size))) in
      elim (entry_or e.0 f.0) [
        | inl same ↦ e.1 ∙ ap Some same ∙ sym f.1
        | inr other ↦ at (is_fixed k) refl e f other
      ]
    where
      at : (t : Bool) → is_fixed k ≡ t → (e : (x : MapEntry) × (entry_in b k ≡ Some x)) → (f : (x : MapEntry) × (entry_in c k ≡ Some x)) → e.0 ≢ f.0 → entry_in b k ≡ entry_in c k
      at true fixed e f other = m.sound.holds.fixed k below fixed ∙ sym (n.sound.holds.fixed k (omega (arith, below, m.size, n.size)) fixed)
      at false apart e f other = absurd (free_in_both k e.0 f.0 e.1 f.1 apart other)

  -- the bytes of a map
  module _ (j : ℕ) (below : 64 * j < length b) where
    round : 64 * j + 63 < length b
    round = omega (arith, below, m.sound.holds.label.size_is)

    place : (k : ℕ) → k < 64 → (map_of (64 * j + k) ≡ 64 * j) × ((64 * j + k) % 64 ≡ k)
    place k small = (omega (arith, small), omega (arith, small))

    read_b : (k : ℕ) → k < 64 → (e : MapEntry) × (entry_in b (64 * j + k) ≡ Some e)
    read_b k small = some_entry (entry_in b (64 * j + k)) (m.sound.holds.maps (64 * j + k) (omega (arith, small, round)))

    read_in : (d : Image) (k : ℕ) (e : MapEntry) → k < 64 → entry_in d (64 * j + k) ≡ Some e → IsSome (entry_at (block_at d (64 * j)) k) × (bytes_at (block_at d (64 * j)) k ≡ spelling e)
    unfolding entry_in
    read_in d k e small is =
        let p = place k small in
        let moved : entry_at (block_at d (map_of (64 * j + k))) ((64 * j + k) % 64) ≡ entry_at (block_at d (64 * j)) k = λ i. entry_at (block_at d (p.0 i)) (p.1 i) in
        let here : entry_at (block_at d (64 * j)) k ≡ Some e = sym moved ∙ is in
        (subst IsSome (sym here) refl, (entry_of_spelled (bytes_at (block_at d (64 * j)) k) e here).1)

    map_bytes : block_at b (64 * j) ≡ block_at c (64 * j)
    map_bytes =
        let first = block_at b (64 * j) in
        let second = block_at c (64 * j) in
        let one = spells_read first (m.whole (64 * j) below) (λ k small. let e = read_b k small in (read_in b k e.0 small e.1).0) in
        let two = spells_read second (n.whole (64 * j) (omega (arith, below, m.size, n.size))) (λ k small. let e = read_b k small in (read_in c k e.0 small (sym (same_entry (64 * j + k) (omega (arith, small, round))) ∙ e.1)).0) in
        let same : entries_of first ≡ entries_of second =
        ext_get_or unheld_entry (entries_of first) (entries_of second) (length-entries_of first ∙ sym (length-entries_of second)) (λ k less.
        let small : k < 64 = omega (arith, less, length-entries_of first) in
        let e = read_b k small in
        get_or-entries_of first k unheld_entry small ∙ ap said_by ((read_in b k e.0 small e.1).1 ∙ sym (read_in c k e.0 small (sym (same_entry (64 * j + k) (omega (arith, small, round))) ∙ e.1)).1)
        ∙ sym (get_or-entries_of second k unheld_entry small))
        in
        one.spelled ∙ ap map_spelling same ∙ sym two.spelled

  pub same_image : b ≡ c
  same_image = ext_get_or [] b c (m.size ∙ sym n.size) (λ k below. elim (cases_eq (k % 64) 0) [
    | inl map ↦
        (let here : 64 * (k / 64) ≡ k = omega (arith, map) in
        subst (λ (i : ℕ). block_at b i ≡ block_at c i) here (map_bytes (k / 64) (omega (arith, here, below))))
    | inr apart ↦ elim (same_or_other (block_at b k) (block_at c k)) [
      | inl same ↦ same
      | inr other ↦
          (let none : ¬ IsRootOf g k = λ (root : IsRootOf g k). other (subst (λ (i : ℕ). block_at b i ≡ block_at c i) root.3 (sym (m.roots root.0 root.1 root.2).shown ∙ (n.roots root.0 root.1 root.2).shown)) in
          m.others k apart none ∙ sym (n.others k apart none))
    ]
  ])

pub mended_same : (a b c : Image) (g h : Graph) → MendsTo a g b → MendsTo a h c → (g ≡ h) × (b ≡ c)
mended_same a b c g h m n =
    let one = same_graph a b c g h m n in
    (one, same_image a b c g m (subst (λ (x : Graph). MendsTo a x c) (sym one) n))
