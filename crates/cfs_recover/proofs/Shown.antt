-- The graph of what an image shows: it is closed, and all of it is rooted.
use Rattle.std.proofs.Common.{◌≡◌, ℕ, true, length, Some, refl, sym, ◌∙◌, ap, subst, arith}
use Rattle.cfs_recover.proofs.Words.{Graph, HasLabel, HasRootSlots, Image, IsClosedGraph, IsReachedIn, IsRootBlock, IsShownGraph, IsShownRoot, Label, Next, Object, Puid, ReadsAs, Root, Shows, TheRoot, Tree, block_at, graph_pairs, has_pair, index_has_pair, index_to_leaves, is_among, is_there, leaf_in, made_is, object_at, object_there, object_with, one_root_block, pair_from_index, reader, reader_is, referred, rises, root_is_rooted, rooted, rooted_is_closed, shown_root, shown_tree, sight, some_index, source, source_tree, tree_in}
use Rattle.ufs_model.specs.Graph.{ids_of}

-- ---- of a label and of an object there is one at most

pub one_label : (image : Image) (l m : Label) → HasLabel image l → HasLabel image m → l ≡ m
one_label image l m one two =
    sym (made_is (block_at image 1) l _ _ _ _ one.is_label one.spelled refl refl refl refl) ∙ made_is (block_at image 1) m _ _ _ _ two.is_label two.spelled refl refl refl refl

pub one_shown_root : (image : Image) (r : ℕ) (root other : Root) → IsShownRoot image r root → IsShownRoot image r other → root ≡ other
one_shown_root image r root other one two = one_root_block (shown_root image r) root other one.spelled two.spelled

pub one_shown : (image : Image) (r : ℕ) (root other : Root) (o p : Object) → Shows image r root o → Shows image r other p → o ≡ p
one_shown image r root other o p one two =
    sym one.object ∙ ap (λ (x : Root). object_with x (leaf_in (shown_tree image r))) (one_shown_root image r root other one.read two.read) ∙ two.object

-- ---- an object that reads well is shown

module _ (image : Image) (id : Puid) (o : Object) (reads : ReadsAs (length image) id (sight image id.block) o) where
  pub reads_from : reader image id.block ≡ source image id.block
  unfolding sight
  reads_from = reader_is image id.block reads.part reads.one_shadow

  pub tree_at_source : shown_tree image id.block ≡ source_tree image id.block
  tree_at_source = ap (λ (n : ℕ). tree_in image (block_at image n)) reads_from

  pub reads_by : IsShownRoot image id.block reads.source
  unfolding sight
  reads_by = record {
    own = reads.root;
    own_spelled = reads.spelled;
    spelled = subst (λ (n : ℕ). IsRootBlock (block_at image n) reads.source) (sym reads_from) reads.tree.spelled;
    same = record { kind = reads.same_kind; word = reads.same_word };
  }

  pub reads_shown : (id.block ≡ 2 → HasRootSlots reads.source) → Shows image id.block reads.source o
  unfolding sight
  reads_shown sort = record {
    read = reads_by;
    sort = sort;
    object = ap (λ (t : Tree). object_with reads.source (leaf_in t)) tree_at_source ∙ reads.tree.object;
  }

-- ---- the graph

module _ (image : Image) (label : Label) (has : HasLabel image label) (g : Graph) (ordered : rises (ids_of g) ≡ true) (root_is : g.root ≡ label.root) (root_there : is_there g g.root ≡ true)
    (reached : (x : Puid) (o : Object) → object_at g x ≡ Some o → IsReachedIn image x)
    (shows : (x : Puid) (o : Object) → object_at g x ≡ Some o → (root : Root) × Shows image x.block root o)
    (leads : (x y : Puid) (o : Object) → object_at g x ≡ Some o → is_among y (referred o) ≡ true → is_there g y ≡ true) where
  closed : (i x : Puid) → has_pair (graph_pairs g) i x ≡ true → is_there g x ≡ true
  closed i x pair = let from = pair_from_index g i x ordered pair in leads i x from.0 from.1 from.2

  pub shown_closed : IsClosedGraph g
  shown_closed = record {
    ordered = ordered;
    root =
        let at = object_there g g.root root_there in
        let shown = shows g.root at.0 at.1 in
        let slots = shown.1.sort (ap (λ (x : Puid). x.block) root_is ∙ has.is_label.root) in
        let leaf = leaf_in (shown_tree image g.root.block) in
        let index = some_index shown.0 leaf slots.index in
        let gives = index_to_leaves shown.0 leaf index.0 index.1 in
        (index.0, at.1 ∙ ap Some (sym shown.1.object ∙ index.1), omega (arith, gives.size, slots.size));
    closed = closed;
  }

  reached_rooted : (x : Puid) → IsReachedIn image x → (is_there g x ≡ true) × (is_among x (rooted g) ≡ true)
  reached_rooted x (TheRoot l at) =
      let same : l.root ≡ g.root = ap (λ (m : Label). m.root) (one_label image l label at has) ∙ sym root_is in
      (ap (is_there g) same ∙ root_there, ap (λ (y : Puid). is_among y (rooted g)) same ∙ root_is_rooted g)
  reached_rooted x (Next i y root o before shown refers names) =
      let rest = reached_rooted i before in
      let at = object_there g i rest.0 in
      let here = shows i at.0 at.1 in
      let to : is_among y (referred at.0) ≡ true = ap (λ (p : Object). is_among y (referred p)) (sym (one_shown image i.block root here.0 o at.0 shown here.1)) ∙ refers in
      (leads i y at.0 at.1 to, rooted_is_closed g closed i y (index_has_pair g i y at.0 ordered at.1 to) rest.1)

  pub shown_rooted : (x : Puid) → is_there g x ≡ true → is_among x (rooted g) ≡ true
  shown_rooted x there = let at = object_there g x there in (reached_rooted x (reached x at.0 at.1)).1

  pub graph_is_shown : IsShownGraph image g
  graph_is_shown = record {
    reached = reached;
    all = λ x is. object_there g x (reached_rooted x is).0;
    shows = shows;
  }
