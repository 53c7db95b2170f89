-- An image reads as one graph at most.
use Rattle.std.proofs.Common.{◌≡◌, ℕ, List, refl, sym, ◌∙◌, ap, length, true, false, Option, Some, None}
use Rattle.vol_image.proofs.Words.{Graph, Holds, Image, IsClosedGraph, IsLabelOf, IsRootBlock, IsSoundAs, IsTree, Object, Puid, ReadsAs, Sight, Tree, block_at, graph_pairs, is_among, is_some, is_there, leaf_in, object_at, object_with, one_root, referred, rooted, says, sight}
use Rattle.block_tree.specs.declared.root.Root.{Root}
use Rattle.vol_image.proofs.Reached.{IsClosed}
use Rattle.vol_image.proofs.Graphs.{same_entries, object_there, there_from, pair_from_index, index_has_pair}
use Rattle.vol_image.proofs.Rooted.{rooted_within}

-- ---- one label, one root, one object

same_puid_parts : (r s : Puid) → r.block ≡ s.block → r.word ≡ s.word → r ≡ s
same_puid_parts r s block word = λ i. record { block = block i; word = word i }

-- a label names one root index
pub one_root_index : (size : ℕ) (r s : Puid) (block : List ℕ) → IsLabelOf size r block → IsLabelOf size s block → r ≡ s
one_root_index size r s block one two =
    let here = says block one.label one.is_label one.spelled in
    let there = says block two.label two.is_label two.spelled in
    let same : one.label.root ≡ two.label.root = same_puid_parts one.label.root two.label.root (sym here.root ∙ there.root) (sym here.word ∙ there.word) in
    sym one.root_is ∙ same ∙ two.root_is

pub one_root_block : (block : List ℕ) (r s : Root) → IsRootBlock block r → IsRootBlock block s → r ≡ s
one_root_block block r s one two = one_root r s one.good two.good (sym one.spelled ∙ two.spelled)

-- a tree gives one object
pub one_tree_object : (size owner : ℕ) (tree : Tree) (r s : Root) (o p : Object) → IsTree size owner tree r o → IsTree size owner tree s p → o ≡ p
one_tree_object size owner tree r s o p one two =
    sym one.object ∙ ap (λ (root : Root). object_with root (leaf_in tree)) (one_root_block tree.root r s one.spelled two.spelled) ∙ two.object

-- what is seen reads as one object
pub one_object : (size : ℕ) (id : Puid) (seen : Sight) (o p : Object) → ReadsAs size id seen o → ReadsAs size id seen p → o ≡ p
one_object size id seen o p one two = one_tree_object size id.block seen.tree one.source two.source o p one.tree two.tree

pub held_object : (a : Image) (g h : Graph) (x : Puid) (o p : Object) → Holds a g → Holds a h → object_at g x ≡ Some o → object_at h x ≡ Some p → o ≡ p
held_object a g h x o p one two at there = one_object (length a) x (sight a x.block) o p (one.objects x o at) (two.objects x p there)

-- ---- what an index refers to

-- to what an index of a closed graph refers is there
pub found_next : (g : Graph) (i x : Puid) (o : Object) → IsClosedGraph g → object_at g i ≡ Some o → is_among x (referred o) ≡ true → is_there g x ≡ true
found_next g i x o graph at refers = graph.closed i x (index_has_pair g i x o graph.ordered at refers)

-- so is what a held index is read to refer to
pub read_next : (a : Image) (g : Graph) (i x : Puid) (o : Object) → Holds a g → IsClosedGraph g → is_there g i ≡ true → ReadsAs (length a) i (sight a i.block) o
    → is_among x (referred o) ≡ true → is_there g x ≡ true
read_next a g i x o holds graph there reads refers =
    let here = object_there g i there in
    let same = one_object (length a) i (sight a i.block) o here.0 reads (holds.objects i here.0 here.1) in
    found_next g i x o graph (here.1 ∙ ap Some (sym same)) refers

-- ---- one graph

-- each object is reached from the root
abbrev pub IsReached : Graph → Type 0
IsReached g = (x : Puid) → is_there g x ≡ true → is_among x (rooted g) ≡ true

module _ (a : Image) (g h : Graph) (one : Holds a g) (two : Holds a h) (g_is : IsClosedGraph g) (h_is : IsClosedGraph h) where
  pub one_root_of : g.root ≡ h.root
  one_root_of = one_root_index (length a) g.root h.root (block_at a 1) one.label two.label

  -- what the other graph has is closed under the pairs of this one
  there_closed : IsClosed (is_there h) (graph_pairs g)
  there_closed i x pair there =
      let from = pair_from_index g i x g_is.ordered pair in
      read_next a h i x from.0 two h_is there (one.objects i from.0 from.1) from.2

  -- so the other has all that is reached here
  pub there_too : IsReached g → (x : Puid) → is_there g x ≡ true → is_there h x ≡ true
  there_too all x is =
      rooted_within g (is_there h) there_closed (ap (is_there h) one_root_of ∙ there_from h h.root _ h_is.root.1) x (all x is)

pub one_reading : (a : Image) (g h : Graph) → Holds a g → Holds a h → IsClosedGraph g → IsClosedGraph h → IsReached g → IsReached h → g ≡ h
one_reading a g h one two g_is h_is g_all h_all =
    let root = one_root_of a g h one two g_is h_is in
    let objects = same_entries g.objects h.objects g_is.ordered h_is.ordered (λ x. each x (object_at g x) (object_at h x) refl refl) in
    λ i. record { root = root i; objects = objects i }
  where
    each : (x : Puid) (o p : Option Object) → object_at g x ≡ o → object_at h x ≡ p → object_at g x ≡ object_at h x
    each x None None s t = s ∙ sym t
    each x (Some o) (Some p) s t = s ∙ ap Some (held_object a g h x o p one two s t) ∙ sym t
    each x (Some o) None s t = let no : false ≡ true = sym (ap is_some t) ∙ there_too a g h one two g_is h_is g_all x (ap is_some s) in cc
    each x None (Some p) s t = let no : false ≡ true = sym (ap is_some s) ∙ there_too a h g two one h_is g_is h_all x (ap is_some t) in cc

pub reading_is_one : (a : Image) (g h : Graph) → IsSoundAs a g → IsSoundAs a h → g ≡ h
reading_is_one a g h one two = one_reading a g h one.holds two.holds one.graph two.graph one.reached two.reached
