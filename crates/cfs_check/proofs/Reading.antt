-- A volume with no faults but of entries: every rooted object is shown, and they make a graph.
use Rattle.std.proofs.Common.{◌≡◌, ◌≢◌, ◌⊎◌, inl, inr, ⊎_elim, ℕ, zero, suc, ◌+◌, ◌*◌, ◌<◌, ◌≤◌, Bool, true, false, cond, List, [], ◌∷◌, length, Option, Some, None, refl, sym, ◌∙◌, ap, subst, arith}
use Rattle.std.proofs.lemmas.Bool.{cases_eq, cases_lt}
use Rattle.std.specs.BTreeMap.{insert_entry, is_at}
use Rattle.std.specs.Map.{lookup}
use Rattle.std.specs.Ordering.{is_eq, match_ordering}
use Rattle.std.specs.Prelude.{slice_get}
use Rattle.std.specs.declared.cmp.Ordering.TheVariants.{Less, Equal, Greater}
use Rattle.cfs_base.specs.Codes as codes
use Rattle.cfs_base.specs.Disk.{Image, block_at}
use Rattle.cfs_base.specs.declared.identifier.Puid.{Puid}
use Rattle.cfs_base.specs.declared.kind.Kind.TheVariants as kinds
use Rattle.block_tree.specs.Pointers.{levels_below}
use Rattle.block_tree.specs.Root.{IsRootBlock}
use Rattle.block_tree.specs.declared.root.Root.{Root}
use Rattle.ufs_model.proofs.Graphs.{object_at-with_object, object_there, rises-with_object, there_from}
use Rattle.ufs_model.proofs.Reached.{same_puid_is, same_puid_itself}
use Rattle.ufs_model.proofs.Rising.{here, in_cons, later}
use Rattle.ufs_model.specs.Graph.{Graph, ids_of, is_there, object_at, referred, with_object}
use Rattle.ufs_model.specs.Identifier.{is_among, puid_cmp, rises, same_puid}
use Rattle.ufs_model.specs.Numbers.{has_number}
use Rattle.ufs_model.specs.declared.object.Object.{Object}
use Rattle.vol_image.proofs.Unique.{one_root_block}
use Rattle.vol_image.specs.Fault.{Fault, HasLabel, HasNoRoot, HasRootSlots, IsReachedIn, IsShownGraph, IsShownRoot, NamesNothing, NamesRoot, Next, ObjectFault, Shows, TheRoot, one_or, reader, shown_tree, standing}
use Rattle.vol_image.specs.Reading.{leaf_in, object_with, slot_in}
use Rattle.vol_image.specs.Seen.{place_above}
use Rattle.vol_image.specs.Sound.{IsClosedGraph}
use Rattle.vol_label.specs.declared.label.Label.{Label}
use Rattle.cfs_recover.proofs.Named.{named_nothing, named_reached}
use Rattle.cfs_recover.proofs.Objects.{slots_named}
use Rattle.cfs_recover.proofs.Shown.{graph_is_shown, one_shown, one_shown_root, shown_closed, shown_rooted}
use Rattle.cfs_recover.proofs.Slots.{IsInSlot, refers_in}
use Rattle.cfs_recover.specs.Found.{IsNamed}
use Rattle.ufs_model.specs.Reach.{rooted}
use Rattle.cfs_check.specs.Sized.{AreSized}
use Rattle.cfs_check.specs.Surveyed.{IsWholeSurvey}
use Rattle.cfs_check.specs.Twigs.{IsShownBy, Twig}
use Rattle.cfs_check.specs.declared.survey.Survey.{Survey}
use Rattle.cfs_check.proofs.Along.{leaf_listed}
use Rattle.cfs_check.proofs.Decided.{slots_if}
use Rattle.cfs_check.proofs.Listed.{place_in}
use Rattle.cfs_check.proofs.Placed.{twigs_placed}
use Rattle.cfs_check.proofs.Right.{IsOfEntry, IsRight, is_right}
use Rattle.cfs_check.proofs.Shadowed.{read_by_own}
use Rattle.cfs_check.proofs.Walking.{leaf_level}
use Rattle.cfs_check.proofs.Whole.{all_of, found_all, found_from, shown_by}

-- ---- an entry more

length-insert_new : (k : Puid) (v : Object) (es : List (Puid × Object)) → lookup (is_at (puid_cmp k)) es ≡ None → length (insert_entry puid_cmp es k v) ≡ length es + 1
length-insert_new k v [] none = refl
length-insert_new k v (e ∷ es) none =
    elim (puid_cmp k e.0) as (λ r. puid_cmp k e.0 ≡ r → length (match_ordering r ((k, v) ∷ e ∷ es) ((e.0, v) ∷ es) (e ∷ insert_entry puid_cmp es k v)) ≡ length (e ∷ es) + 1) [
      | Less ↦ λ is. omega arith
      | Equal ↦ λ is. let found : lookup (is_at (puid_cmp k)) (e ∷ es) ≡ Some e.1 = ap (λ o. cond (is_eq o) (Some e.1) (lookup (is_at (puid_cmp k)) es)) is in let no : None ≡ Some e.1 = sym none ∙ found in cc
      | Greater ↦ λ is.
          let rest : lookup (is_at (puid_cmp k)) es ≡ None = ap (λ o. cond (is_eq o) (Some e.1) (lookup (is_at (puid_cmp k)) es)) (sym is) ∙ none in
          let more = length-insert_new k v es rest in omega (arith, more)
    ] refl

-- ---- names

pub names_root_if : (image : Image) (x : Puid) → ¬ NamesNothing image x → NamesRoot image x
names_root_if image x something = record {
  some = λ none. something (inl none);
  on_disk = elim (cases_lt x.block (length image)) [ inl less ↦ less | inr past ↦ absurd (something (inr (inl past))) ];
  word = λ root spelled. elim (cases_eq root.word x.word) [ inl same ↦ same | inr other ↦ absurd (something (inr (inr (root, spelled, other)))) ];
}

-- the image has no faults but of entries
abbrev pub HasGoodRoots : Image → Type 0
HasGoodRoots image = (code n : ℕ) → Fault image code n → IsOfEntry code

module _ (image : Image) (long : AreSized image) (s : Survey) (w : IsWholeSurvey image s) (only : HasGoodRoots image) where
  -- a fault of an object is of entries
  of_object : (id : Puid) → IsReachedIn image id → (code n : ℕ) → ObjectFault image id.block code n → IsOfEntry code
  of_object id reached code n wrong = only code n (Fault.InObject id code n reached wrong)

  no_three : IsOfEntry codes.no_root → ⊥
  no_three (inl is) = omega (arith, is)
  no_three (inr is) = omega (arith, is)

  no_six : IsOfEntry codes.names_nothing → ⊥
  no_six (inl is) = omega (arith, is)
  no_six (inr is) = omega (arith, is)

  -- ---- each object is shown

  module _ (id : Puid) (reached : IsReachedIn image id) where
    not_hidden : ((root : Root) → ¬ IsShownRoot image id.block root) → ⊥
    not_hidden never = no_three (of_object id reached codes.no_root id.block (ObjectFault.NoRoot (λ own spelled. by_standing own spelled (standing image id.block) refl)))
      where
        by_standing : (own : Root) → IsRootBlock (block_at image id.block) own → (ss : List ℕ) → standing image id.block ≡ ss → ⊥
        by_standing own spelled [] is = never own (read_by_own image id.block own (ap (one_or id.block) is) spelled)
        by_standing own spelled (t ∷ []) is =
            no_three (of_object id reached codes.no_root t (ObjectFault.NoShadow t (ap (has_number t) is ∙ here t [])
            (λ shadow at. (
              own,
              spelled,
              λ kind word. never shadow (record {
                own = own;
                own_spelled = spelled;
                spelled = subst (λ (n : ℕ). IsRootBlock (block_at image n) shadow) (sym (ap (one_or id.block) is)) at;
                same = record { kind = kind; word = word };
              }),
            ))))
        by_standing own spelled (t ∷ u ∷ ss) is = never own (read_by_own image id.block own (ap (one_or id.block) is) spelled)

    pub its_root : (root : Root) × IsShownRoot image id.block root
    its_root = elim (w.found.shown id.block (all_of image long s w id reached).root) [ inl is ↦ is | inr never ↦ absurd (not_hidden never) ]

    abbrev pub root_of : Root
    root_of = its_root.0

    abbrev pub object_of : Object
    object_of = object_with root_of (leaf_in (shown_tree image id.block))

    pub its_shown : IsShownBy image id.block root_of
    its_shown = record {
      read = its_root.1;
      sort = λ two. slots_if root_of (λ other. no_six (of_object id reached codes.names_nothing 2 (ObjectFault.NoRootIndex root_of two its_root.1 other)));
      object = refl;
    }

    pub its_right : IsRight image id.block root_of
    its_right = is_right image id.block root_of object_of its_shown (of_object id reached)

    pub one_stands : length (standing image id.block) ≤ 1
    one_stands = elim (cases_lt 1 (length (standing image id.block))) [
      | inl many ↦ absurd (elim (of_object id reached codes.two_shadows id.block (ObjectFault.TwoShadows (omega (arith, many)))) [ inl is ↦ omega (arith, is) | inr is ↦ omega (arith, is) ])
      | inr few ↦ few
    ]

    -- ---- what it names is there

    pub leads_to : (x : Puid) → is_among x (referred object_of) ≡ true → IsReachedIn image x
    leads_to x among =
        let at = refers_in image (reader image id.block) root_of its_shown.read.spelled long x among in
        let leaf = leaf_listed image id.block root_of at.number at.held at.here in
        let placed = twigs_placed image id root_of reached its_shown leaf.0 leaf.1.its in
        let it = placed.it in
        let level = leaf_level it.height it.number at.number (ap (λ (u : Twig). u.spot.place) (sym placed.is) ∙ leaf.4) in
        let block : at.held.block ≡ it.block = sym leaf.2 ∙ ap (λ (u : Twig). u.spot.block) placed.is in
        let on_disk : it.block < length image = omega (arith, block, at.on_disk) in
        let by : IsNamed image x it.block = slots_named image id.block root_of it placed.has level.0 at.index on_disk (long it.block on_disk) at.slot x
        (at.small, omega (arith, at.within, level.1), ap (λ (n : ℕ). slot_in (block_at image n) at.slot) (sym block) ∙ at.is) in
        let names = names_root_if image x (λ nothing. no_six (only codes.names_nothing it.block (named_nothing image x it.block by nothing))) in
        named_reached image x it.block by names.some names.on_disk names.word

  -- ---- its word

  own_word : (id : Puid) → IsReachedIn image id → (own : Root) → IsRootBlock (block_at image id.block) own → own.word ≡ id.word
  own_word id (TheRoot l has) own spelled = elim (cases_eq own.word l.root.word) [
    | inl same ↦ same
    | inr other ↦ absurd (no_six (only codes.names_nothing 1 (Fault.LabelNamesNothing l has (inr (inr (own, spelled, other))))))
  ]
  own_word id (Next i x root o before shows refers names) own spelled = names.word own spelled

  pub shown_word : (id : Puid) (reached : IsReachedIn image id) → (its_shown id reached).read.own.word ≡ id.word
  shown_word id reached = let read = (its_shown id reached).read in own_word id reached read.own read.own_spelled

  -- two with one root block are one
  pub one_there : (x y : Puid) → IsReachedIn image x → IsReachedIn image y → x.block ≡ y.block → x ≡ y
  one_there x y one two block =
      let own = (its_shown x one).read in
      let word : x.word ≡ y.word = sym (shown_word x one) ∙ own_word y two own.own (subst (λ (n : ℕ). IsRootBlock (block_at image n) own.own) block own.own_spelled) in
      λ i. record { block = block i; word = word i }

  -- ---- the graph

  abbrev label : Label
  label = w.label

  -- it has the objects with these root blocks
  pub record Has (blocks : List ℕ) (g : Graph) : Type 0 where
    pub root : g.root ≡ label.root
    pub ordered : rises (ids_of g) ≡ true
    pub each : (x : Puid) (o : Object) → object_at g x ≡ Some o → (reached : IsReachedIn image x) × (o ≡ object_of x reached) × (has_number x.block blocks ≡ true)
    pub all : (x : Puid) → IsReachedIn image x → has_number x.block blocks ≡ true → is_there g x ≡ true
    pub count : ((j k n : ℕ) → slice_get blocks j ≡ Some n → slice_get blocks k ≡ Some n → j ≡ k) → length g.objects ≡ length blocks

  none_there : Has [] (record { root = label.root; objects = [] })
  none_there = record {
    root = refl;
    ordered = refl;
    each = λ x o at. let no : None ≡ Some o = at in cc;
    all = λ x reached has. cc;
    count = λ once. refl;
  }

  module _ (r : ℕ) (blocks : List ℕ) (g : Graph) (has : Has blocks g) (x : Puid) (reached : IsReachedIn image x) (is : x.block ≡ r) where
    abbrev more : Graph
    more = with_object g x (object_of x reached)

    at_more : (y : Puid) → object_at more y ≡ cond (same_puid y x) (Some (object_of x reached)) (object_at g y)
    at_more y = object_at-with_object g x (object_of x reached) y

    there_more : (y : Puid) → is_there g y ≡ true → is_there more y ≡ true
    there_more y there = let o = object_there g y there in at (same_puid y x) refl o.0 o.1
      where
        at : (b : Bool) → same_puid y x ≡ b → (o : Object) → object_at g y ≡ Some o → is_there more y ≡ true
        at true same o there = there_from more y (object_of x reached) (at_more y ∙ ap (λ (b : Bool). cond b (Some (object_of x reached)) (object_at g y)) same)
        at false same o there = there_from more y o (at_more y ∙ ap (λ (b : Bool). cond b (Some (object_of x reached)) (object_at g y)) same ∙ there)

    itself_there : is_there more x ≡ true
    itself_there = there_from more x (object_of x reached) (at_more x ∙ ap (λ (b : Bool). cond b (Some (object_of x reached)) (object_at g x)) (same_puid_itself x))

    each_more : (y : Puid) (o : Object) (b : Bool) → same_puid y x ≡ b → object_at more y ≡ Some o → (found : IsReachedIn image y) × (o ≡ object_of y found) × (has_number y.block (r ∷ blocks) ≡ true)
    each_more y o true same at =
        let one : x ≡ y = sym (same_puid_is y x same) in
        let it : object_of x reached ≡ o = let e : Some (object_of x reached) ≡ Some o = ap (λ (b : Bool). cond b (Some (object_of x reached)) (object_at g y)) (sym same) ∙ sym (at_more y) ∙ at in cc in
        subst (λ (z : Puid). (found : IsReachedIn image z) × (o ≡ object_of z found) × (has_number z.block (r ∷ blocks) ≡ true)) one
        (reached, sym it, ap (λ (n : ℕ). has_number n (r ∷ blocks)) is ∙ here r blocks)
    each_more y o false same at =
        let was = has.each y o (ap (λ (b : Bool). cond b (Some (object_of x reached)) (object_at g y)) (sym same) ∙ sym (at_more y) ∙ at) in
        (was.0, was.1, later y.block r blocks was.2)

    no_old : ((j k n : ℕ) → slice_get (r ∷ blocks) j ≡ Some n → slice_get (r ∷ blocks) k ≡ Some n → j ≡ k) → object_at g x ≡ None
    no_old once = at (object_at g x) refl
      where
        at : (o : Option Object) → object_at g x ≡ o → object_at g x ≡ None
        at None none = none
        at (Some o) there =
            let was = has.each x o there in
            let place = place_in blocks x.block was.2 in
            let same = once 0 (suc place.0) r refl (place.1 ∙ ap Some is) in absurd (omega (arith, same))

    pub has_more : Has (r ∷ blocks) more
    has_more = record {
      root = has.root;
      ordered = rises-with_object g x (object_of x reached) has.ordered;
      each = λ y o at. each_more y o (same_puid y x) refl at;
      all = λ y found there. elim (in_cons y.block r blocks there) [
        | inl now ↦ subst (λ (z : Puid). is_there more z ≡ true) (one_there x y reached found (is ∙ now)) itself_there
        | inr was ↦ there_more y (has.all y found was)
      ];
      count = λ once.
          let before = has.count (λ j k n one two. let same = once (suc j) (suc k) n one two in omega (arith, same)) in
          omega (arith, before, length-insert_new x (object_of x reached) g.objects (no_old once));
    }

  build : (blocks : List ℕ) → ((r : ℕ) → has_number r blocks ≡ true → has_number r s.roots.blocks ≡ true) → (g : Graph) × Has blocks g
  build [] found = (record { root = label.root; objects = [] }, none_there)
  build (r ∷ blocks) found =
      let rest = build blocks (λ n has. found n (later n r blocks has)) in
      let x = found_from image long s w r (found r (here r blocks)) in
      (with_object rest.0 x.0 (object_of x.0 x.1), has_more r blocks rest.0 rest.1 x.0 x.1 x.2)

  abbrev built : (g : Graph) × Has s.roots.blocks g
  built = build s.roots.blocks (λ r has. has)

  -- the graph of all that is shown
  pub graph : Graph
  graph = built.0

  pub graph_has : Has s.roots.blocks graph
  unfolding graph
  graph_has = built.1

  pub in_graph : (x : Puid) → IsReachedIn image x → is_there graph x ≡ true
  in_graph x reached = graph_has.all x reached (found_all image long s w x reached)

  reached_there : (x : Puid) (o : Object) → object_at graph x ≡ Some o → IsReachedIn image x
  reached_there x o at = (graph_has.each x o at).0

  shows_there : (x : Puid) (o : Object) → object_at graph x ≡ Some o → (root : Root) × Shows image x.block root o
  shows_there x o at =
      let it = graph_has.each x o at in
      (root_of x it.0, subst (λ (p : Object). Shows image x.block (root_of x it.0) p) (sym it.1) (its_shown x it.0))

  leads_there : (x y : Puid) (o : Object) → object_at graph x ≡ Some o → is_among y (referred o) ≡ true → is_there graph y ≡ true
  leads_there x y o at among =
      let it = graph_has.each x o at in
      in_graph y (leads_to x it.0 y (ap (λ (p : Object). is_among y (referred p)) (sym it.1) ∙ among))

  root_there : is_there graph graph.root ≡ true
  root_there = ap (is_there graph) graph_has.root ∙ in_graph label.root (TheRoot label w.has)

  pub graph_closed : IsClosedGraph graph
  graph_closed = shown_closed image label w.has graph graph_has.ordered graph_has.root root_there reached_there shows_there leads_there

  pub graph_rooted : (x : Puid) → is_there graph x ≡ true → is_among x (rooted graph) ≡ true
  graph_rooted = shown_rooted image label w.has graph graph_has.ordered graph_has.root root_there reached_there shows_there leads_there

  pub graph_shown : IsShownGraph image graph
  graph_shown = graph_is_shown image label w.has graph graph_has.ordered graph_has.root root_there reached_there shows_there leads_there
