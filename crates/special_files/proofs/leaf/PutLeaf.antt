-- A leaf is put: over the draft's own, or into blocks that were claimed.
use Rattle.std.proofs.Common.{◌≡◌, ◌≢◌, ◌⊎◌, inl, inr, ℕ, ◌/◌, ◌%◌, ◌^◌, ◌<◌, true, false, List, [], ◌∷◌, length, get_or, set, Some, refl, sym, ◌∙◌, ◌-◌, ap, subst, get_or-set_other, get_or-set_same, eq-eqb, arith}
use Rattle.special_files.proofs.Words.{leaf_place, node_place, BelongsTo, Drafting, Free, Graph, HasDraft, HasItsBlocks, Holds, Image, IsEntry, Leaf, MapEntry, Node, Object, Place, Puid, block_at, block_at-with_entry, both_ways, entry_in, entry_in-set, entry_in-with_entry_other, entry_in-with_entry_same, free_is_loose, held, held_at, held_there, in_image, intended, is_free_entry, is_free_in, is_fresh_leaf, is_fresh_node, is_meant, is_meant_for, is_owned_by, le-leb, leaf_pointers, leaves_at, length-with_entry, lt-ltb, pointer_to_node, not_map, object_at, one_path, opened_as, part_at, part_of, passes, pointer, pointers_of, root_spelling, set-get_or, slice_index, taken_apart, tree_in, tree_of, tree_placed, with_entry, leaves_there, leaf_limit, node_pointers}
use Rattle.std.proofs.Math.ListN.{length-set}
use Rattle.ufs_model.specs.declared.object.Draft as models
use Rattle.special_files.proofs.Fresh.{fresh_there, node_of_fresh, small_image, read_leaf_is, unfresh}
use Rattle.special_files.proofs.Meant.{free_is, meant_is}
use Rattle.special_files.proofs.leaf.Puts.{LeafPut, taken_not_free}
use Rattle.special_files.proofs.Trees.{node_at}

-- ---- entries of claims

pub leaf_entry : (l r : ℕ) → l < leaf_limit → r ≢ 0 → r < 2 ^ 32 → IsEntry (intended (Leaf l) r)
leaf_entry l r below some small = record { in_table = rw (le-leb l 1048575 (omega arith), lt-ltb 0 r (omega (arith, some)), lt-ltb r (2 ^ 32) small) refl }

pub node_entry : (n r : ℕ) → n < node_pointers.count → r ≢ 0 → r < 2 ^ 32 → IsEntry (intended (Node n) r)
node_entry n r below some small = record { in_table = rw (le-leb n 8191 (omega arith), lt-ltb 0 r (omega (arith, some)), lt-ltb r (2 ^ 32) small) refl }

-- the part of a block with such an entry, which is meant for its owner
pub intended_part : (image : Image) (n r : ℕ) (p : Place) → entry_in image n ≡ Some (intended p r) → BelongsTo r p (part_at image n)
intended_part image n r p here = record { is = record { committed = false; place = Some p; owner = r }; here = ap part_of here; owner_is = refl; place_is = refl }

pub intended_meant : (image : Image) (n r : ℕ) (p : Place) → entry_in image n ≡ Some (intended p r) → is_meant_for image r n ≡ true
intended_meant image n r p here = ap (is_owned_by is_meant r) here ∙ eq-eqb r r refl

two_paths : (n k m : ℕ) → n ∷ k ∷ [] ≡ m ∷ [] → ⊥
two_paths n k m same = cc

-- ---- what was read before

-- the node of a leaf has these pointers, and the flags tell what is fresh
pub record IsReadFor (a : Image) (id : Puid) (drafting : Drafting) (l : ℕ) (leaves : List ℕ) : Type 0 where
  pub node : leaves ≡ leaves_at a (pointer_to_node drafting.root (l / leaf_pointers.count))
  pub leaf_flag : is_fresh_leaf drafting l ≡ passes (is_meant_for a id.block) ((tree_in a (root_spelling drafting.root)).below (l / leaf_pointers.count ∷ l % leaf_pointers.count ∷ []))
  pub node_flag : is_fresh_node drafting (l / leaf_pointers.count) ≡ passes (is_meant_for a id.block) ((tree_in a (root_spelling drafting.root)).below (l / leaf_pointers.count ∷ []))

module _ (a : Image) (g : Graph) (holds : Holds a g) (id : Puid) (o : Object) (at : object_at g id ≡ Some o) (has : HasItsBlocks a id.block) (drafting : Drafting) (m : models.Draft)
    (draft : HasDraft a id (opened_as drafting m)) (leaves : List ℕ) (l : ℕ) (is : IsReadFor a id drafting l leaves) (some : 0 < length a) where
  abbrev pub n : ℕ
  n = l / leaf_pointers.count

  abbrev pub k : ℕ
  k = l % leaf_pointers.count

  abbrev pub old : List ℕ
  old = root_spelling drafting.root

  leaf_read : (j : ℕ) → tree_of a old (n ∷ j ∷ []) ≡ slice_index leaves j
  leaf_read j = read_leaf_is a drafting.root draft.tree.spelled.good.0 n j leaves is.node

  node_read : tree_of a old (n ∷ []) ≡ pointer_to_node drafting.root n
  node_read = node_at a drafting.root draft.tree.spelled.good.0 n

  abbrev pub x_of : ℕ
  x_of = slice_index leaves k

  fresh_at : (p : List ℕ) → passes (is_meant_for a id.block) ((tree_in a old).below p) ≡ true → (tree_of a old p ≢ 0) × (is_meant_for a id.block (tree_of a old p) ≡ true)
  fresh_at p h = fresh_there a g holds id o at has (opened_as drafting m) draft p h

  -- the node of a fresh leaf is fresh
  above_fresh : is_fresh_leaf drafting l ≡ true → (tree_of a old (n ∷ []) ≢ 0) × (is_meant_for a id.block (tree_of a old (n ∷ [])) ≡ true)
  above_fresh fresh = fresh_at (n ∷ []) (node_of_fresh a g holds id o at has (opened_as drafting m) draft n k (sym is.leaf_flag ∙ fresh))

  -- ---- over the draft's own leaf

  pub put_again : (content : List ℕ) → l < leaf_limit → is_fresh_leaf drafting l ≡ true → LeafPut a (set a x_of content) id (opened_as drafting m) drafting.root l x_of (pointer_to_node drafting.root n) content
  put_again content most fresh =
      let leaf = fresh_at (n ∷ k ∷ []) (sym is.leaf_flag ∙ fresh) in
      let node = above_fresh fresh in
      let x_is = leaf_read k in
      let placed = λ (p : List ℕ) (v : ℕ) (there : tree_of a old p ≡ v) (real : v ≢ 0). tree_placed a (length a) id.block old drafting.root m.object draft.tree p (held a v) (ap (held_at a) there ∙ held_there a v real) in
      let x_real : x_of ≢ 0 = λ none. leaf.0 (x_is ∙ none) in
      let y_real : pointer_to_node drafting.root n ≢ 0 = λ none. node.0 (node_read ∙ none) in
      let x_at = placed (n ∷ k ∷ []) x_of x_is x_real in
      let y_at = placed (n ∷ []) (pointer_to_node drafting.root n) node_read y_real in
      let no_map = not_map x_of (taken_apart a g holds x_of id.block x_at.taken) in
      let entries = λ (v : ℕ). entry_in-set a x_of content v no_map in
      let x_below : x_of < length a = in_image a g holds x_of x_at.taken.is x_at.taken.here in
      let y_below : pointer_to_node drafting.root n < length a = in_image a g holds (pointer_to_node drafting.root n) y_at.taken.is y_at.taken.here in
      let apart : x_of ≢ pointer_to_node drafting.root n = λ same. two_paths n k n (one_path a (length a) id.block old drafting.root m.object draft.tree (n ∷ k ∷ []) (n ∷ []) (held a x_of) (held a (pointer_to_node drafting.root n))
      (ap (held_at a) x_is ∙ held_there a x_of x_real) (ap (held_at a) node_read ∙ held_there a (pointer_to_node drafting.root n) y_real) same) in
      let owned = λ (p : List ℕ) (v : ℕ) (there : tree_of a old p ≡ v) (real : v ≢ 0). draft.tree.owned p (held a v) (ap (held_at a) there ∙ held_there a v real) in
      let pointers_at : (j : ℕ) → pointer leaf_pointers (block_at (set a x_of content) (pointer_to_node drafting.root n)) j ≡ slice_index leaves j = λ j.
      ap (λ (c : List ℕ). pointer leaf_pointers c j) (get_or-set_other a x_of (pointer_to_node drafting.root n) content [] (λ e. apart (sym e)))
      ∙ ap (λ (ns : List ℕ). get_or ns j 0) (sym (leaves_there a (pointer_to_node drafting.root n) y_real) ∙ sym is.node) in
      record {
        size = length-set a x_of content;
        apart = apart;
        x_some = x_real;
        y_some = y_real;
        x_below = omega (arith, x_below, length-set a x_of content);
        y_below = omega (arith, y_below, length-set a x_of content);
        y_small = omega (arith, y_below, small_image a g holds);
        entries = λ v not_x not_y. entries v;
        contents = λ v real not_x not_y. get_or-set_other a x_of v content [] not_x;
        x_meant = ap (is_owned_by is_meant id.block) (entries x_of) ∙ ap (is_meant_for a id.block) (sym x_is) ∙ leaf.1;
        y_meant = ap (is_owned_by is_meant id.block) (entries (pointer_to_node drafting.root n)) ∙ ap (is_meant_for a id.block) (sym node_read) ∙ node.1;
        x_part = subst (BelongsTo id.block (Leaf l)) (ap part_of (sym (entries x_of))) (subst (λ pl. BelongsTo id.block pl (part_at a x_of)) (leaf_place old n k l (omega arith)) (owned (n ∷ k ∷ []) x_of x_is x_real));
        y_part = subst (BelongsTo id.block (Node n)) (ap part_of (sym (entries (pointer_to_node drafting.root n)))) (subst (λ pl. BelongsTo id.block pl (part_at a (pointer_to_node drafting.root n))) (node_place old n) (owned (n ∷ []) (pointer_to_node drafting.root n) node_read y_real));
        x_was = inr x_is;
        y_was = inr node_read;
        x_stays = λ meant. x_is;
        y_stays = λ meant. node_read;
        x_content = get_or-set_same a x_of content [] x_below;
        y_here = pointers_at k;
        y_others = λ j other. pointers_at j ∙ sym (leaf_read j);
        root_is = ap (λ (ns : List ℕ). record drafting.root { nodes = ns }) (sym (set-get_or drafting.root.nodes n 0));
      }

  pub fresh_below : is_fresh_leaf drafting l ≡ true → (is_meant_for a id.block x_of ≡ true) × (x_of < length a)
  fresh_below fresh =
      let leaf = fresh_at (n ∷ k ∷ []) (sym is.leaf_flag ∙ fresh) in
      let meant = ap (is_meant_for a id.block) (sym (leaf_read k)) ∙ leaf.1 in
      let is = (meant_is a id.block x_of meant).taken in
      (meant, in_image a g holds x_of is.is is.here)

  -- the node that was read stays
  pub node_again : (content : List ℕ) → l < leaf_limit → is_fresh_leaf drafting l ≡ true → leaves ≡ leaves_at (set a x_of content) (pointer_to_node drafting.root n)
  node_again content most fresh =
      let put = put_again content most fresh in
      is.node ∙ leaves_there a (pointer_to_node drafting.root n) put.y_some ∙ ap (pointers_of leaf_pointers) (sym (get_or-set_other a x_of (pointer_to_node drafting.root n) content [] (λ e. put.apart (sym e)))) ∙ sym (leaves_there (set a x_of content) (pointer_to_node drafting.root n) put.y_some)

  -- ---- into a block that was claimed, below a node that is fresh or was claimed

  -- what is so once both blocks are there
  pub record HasBoth (a2 : Image) (x y : ℕ) : Type 0 where
    pub size : length a2 ≡ length a
    pub apart : x ≢ y
    pub entries : (v : ℕ) → v ≢ x → v ≢ y → entry_in a2 v ≡ entry_in a v
    pub contents : (v : ℕ) → v % 64 ≢ 0 → block_at a2 v ≡ block_at a v
    pub x_entry : entry_in a2 x ≡ Some (intended (Leaf l) id.block)
    pub x_map : x % 64 ≢ 0
    pub y_map : y % 64 ≢ 0
    pub x_below : x < length a
    pub y_below : y < length a
    pub y_meant : is_meant_for a2 id.block y ≡ true
    pub y_part : BelongsTo id.block (Node n) (part_at a2 y)
    pub y_was : (is_free_in a y ≡ true) ⊎ (tree_of a old (n ∷ []) ≡ y)
    pub y_stays : is_meant_for a id.block (tree_of a old (n ∷ [])) ≡ true → tree_of a old (n ∷ []) ≡ y

  abbrev pub leaf_claim : MapEntry
  leaf_claim = intended (Leaf l) id.block

  abbrev pub node_claim : MapEntry
  node_claim = intended (Node n) id.block

  module _ (is_leaf : IsEntry leaf_claim) (is_node : IsEntry node_claim) (x y : ℕ) (a2 : Image) (free : is_free_in a x ≡ true) where
    abbrev pub a1 : Image
    a1 = with_entry a x leaf_claim

    was : (e : MapEntry) × (entry_in a x ≡ Some e) × (e.state ≡ Free)
    was = free_is a x free

    x_map : x % 64 ≢ 0
    x_map = not_map x (free_is_loose a g holds x was.0 was.1 was.2).apart

    x_here : entry_in a1 x ≡ Some leaf_claim
    x_here = entry_in-with_entry_same a x leaf_claim was.0 was.1 is_leaf

    others : (v : ℕ) → v ≢ x → entry_in a1 v ≡ entry_in a v
    others v apart = entry_in-with_entry_other a x leaf_claim was.0 v was.1 apart

    contents_one : (v : ℕ) → v % 64 ≢ 0 → block_at a1 v ≡ block_at a v
    contents_one v real = block_at-with_entry a x leaf_claim v (λ same. real (omega (arith, same)))

    pub had_node : is_fresh_node drafting n ≡ true → y ≡ pointer_to_node drafting.root n → a2 ≡ a1 → HasBoth a2 x y
    had_node fresh here same =
        let node = fresh_at (n ∷ []) (sym is.node_flag ∙ fresh) in
        let y_is : tree_of a old (n ∷ []) ≡ y = node_read ∙ sym here in
        let real : y ≢ 0 = λ none. node.0 (y_is ∙ none) in
        let there = ap (held_at a) y_is ∙ held_there a y real in
        let placed = tree_placed a (length a) id.block old drafting.root m.object draft.tree (n ∷ []) (held a y) there in
        let apart : x ≢ y = λ e. taken_not_free a y id.block placed.taken (subst (λ (v : ℕ). is_free_in a v ≡ true) e free) in
        let y_entry = ap (λ (i : Image). entry_in i y) same ∙ others y (λ e. apart (sym e)) in
        record {
          size = ap length same ∙ length-with_entry a x leaf_claim;
          apart = apart;
          entries = λ v not_x not_y. ap (λ (i : Image). entry_in i v) same ∙ others v not_x;
          contents = λ v map. ap (λ (i : Image). block_at i v) same ∙ contents_one v map;
          x_entry = ap (λ (i : Image). entry_in i x) same ∙ x_here;
          x_map = x_map;
          y_map = not_map y (taken_apart a g holds y id.block placed.taken);
          x_below = in_image a g holds x was.0 was.1;
          y_below = in_image a g holds y placed.taken.is placed.taken.here;
          y_meant = ap (is_owned_by is_meant id.block) y_entry ∙ ap (is_meant_for a id.block) (sym y_is) ∙ node.1;
          y_part = subst (BelongsTo id.block (Node n)) (ap part_of (sym y_entry)) (subst (λ pl. BelongsTo id.block pl (part_at a y)) (node_place old n) (draft.tree.owned (n ∷ []) (held a y) there));
          y_was = inr y_is;
          y_stays = λ meant. y_is;
        }

    pub claimed_node : Holds a1 g → is_fresh_node drafting n ≡ false → is_free_in a1 y ≡ true → a2 ≡ with_entry a1 y node_claim → HasBoth a2 x y
    claimed_node holds1 stale free1 same =
        let was1 = free_is a1 y free1 in
        let apart : x ≢ y = λ e. (let no : false ≡ true = ap is_free_entry (sym x_here) ∙ ap (is_free_in a1) e ∙ free1 in cc) in
        let y_free : is_free_in a y ≡ true = ap is_free_entry (sym (others y (λ e. apart (sym e)))) ∙ free1 in
        let y_here = ap (λ (i : Image). entry_in i y) same ∙ entry_in-with_entry_same a1 y node_claim was1.0 was1.1 is_node in
        let real1 = not_map y (free_is_loose a1 g holds1 y was1.0 was1.1 was1.2).apart in
        record {
          size = ap length same ∙ length-with_entry a1 y node_claim ∙ length-with_entry a x leaf_claim;
          apart = apart;
          entries = λ v not_x not_y. ap (λ (i : Image). entry_in i v) same ∙ entry_in-with_entry_other a1 y node_claim was1.0 v was1.1 not_y ∙ others v not_x;
          contents = λ v map. ap (λ (i : Image). block_at i v) same ∙ block_at-with_entry a1 y node_claim v (λ e. map (omega (arith, e))) ∙ contents_one v map;
          x_entry = ap (λ (i : Image). entry_in i x) same ∙ entry_in-with_entry_other a1 y node_claim was1.0 x was1.1 apart ∙ x_here;
          x_map = x_map;
          y_map = real1;
          x_below = in_image a g holds x was.0 was.1;
          y_below = omega (arith, in_image a1 g holds1 y was1.0 was1.1, length-with_entry a x leaf_claim);
          y_meant = intended_meant a2 y id.block (Node n) y_here;
          y_part = intended_part a2 y id.block (Node n) y_here;
          y_was = inl y_free;
          y_stays = λ meant. absurd (both_ways _ (unfresh a g holds id o at has (opened_as drafting m) draft some (n ∷ []) (sym is.node_flag ∙ stale)) meant);
        }

    pub put_new : (content node : List ℕ) → HasBoth a2 x y → is_fresh_leaf drafting l ≡ false → pointers_of leaf_pointers node ≡ set leaves k x → k < length leaves
        → LeafPut a (set (set a2 x content) y node) id (opened_as drafting m) (record drafting.root { nodes = set drafting.root.nodes n y }) l x y content
    put_new content node both stale pointers within =
        let b1 = set a2 x content in
        let entries : (v : ℕ) → entry_in (set b1 y node) v ≡ entry_in a2 v = λ v. entry_in-set b1 y node v both.y_map ∙ entry_in-set a2 x content v both.x_map in
        let long : length (set b1 y node) ≡ length a = length-set b1 y node ∙ length-set a2 x content ∙ both.size in
        let y_content : block_at (set b1 y node) y ≡ node = get_or-set_same b1 y node [] (omega (arith, both.y_below, length-set a2 x content, both.size)) in
        let pointers_at : (j : ℕ) → pointer leaf_pointers (block_at (set b1 y node) y) j ≡ get_or (set leaves k x) j 0 = λ j. ap (λ (c : List ℕ). pointer leaf_pointers c j) y_content ∙ ap (λ (ns : List ℕ). get_or ns j 0) pointers in
        record {
          size = long;
          apart = both.apart;
          x_some = λ none. both.x_map (omega (arith, none));
          y_some = λ none. both.y_map (omega (arith, none));
          x_below = omega (arith, both.x_below, long);
          y_below = omega (arith, both.y_below, long);
          y_small = omega (arith, both.y_below, small_image a g holds);
          entries = λ v not_x not_y. entries v ∙ both.entries v not_x not_y;
          contents = λ v map not_x not_y. get_or-set_other b1 y v node [] not_y ∙ get_or-set_other a2 x v content [] not_x ∙ both.contents v map;
          x_meant = intended_meant (set b1 y node) x id.block (Leaf l) (entries x ∙ both.x_entry);
          y_meant = ap (is_owned_by is_meant id.block) (entries y) ∙ both.y_meant;
          x_part = intended_part (set b1 y node) x id.block (Leaf l) (entries x ∙ both.x_entry);
          y_part = subst (BelongsTo id.block (Node n)) (ap part_of (sym (entries y))) both.y_part;
          x_was = inl free;
          y_was = both.y_was;
          x_stays = λ meant. absurd (both_ways _ (unfresh a g holds id o at has (opened_as drafting m) draft some (n ∷ k ∷ []) (sym is.leaf_flag ∙ stale)) meant);
          y_stays = both.y_stays;
          x_content = get_or-set_other b1 y x node [] both.apart ∙ get_or-set_same a2 x content [] (omega (arith, both.x_below, both.size));
          y_here = pointers_at k ∙ get_or-set_same leaves k x 0 within;
          y_others = λ j other. pointers_at j ∙ get_or-set_other leaves k j x 0 other ∙ sym (leaf_read j);
          root_is = refl;
        }
