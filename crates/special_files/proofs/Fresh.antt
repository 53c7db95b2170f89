-- What is fresh in a draft's tree is meant for the object, and stands below what is fresh.
use Rattle.std.proofs.Common.{◌≡◌, ◌≢◌, ℕ, zero, suc, ◌<◌, ◌≤◌, Bool, true, false, List, [], ◌∷◌, length, get_or, inl, inr, Some, refl, sym, ◌∙◌, ap, arith, not}
use Rattle.special_files.proofs.Words.{pointed, Fits, Graph, HasDraft, HasItsBlocks, Holds, Image, Object, Opened, Puid, block_at, cases_Bool, content_of, held, held_at, is_meant, is_meant_for, is_owned_by, leaves_at, meant_differs, pointer_to_node, not_meant_is_own, object_at, passes, root_spelling, slice_index, tree_in, tree_of}
use Rattle.block_tree.specs.declared.root.Root as roots
use Rattle.special_files.proofs.Trees.{leaf_at, leaf_from, node_at}

-- the leaf pointers that were read of a node are those of the tree
pub read_leaf_is : (image : Image) (root : roots.Root) → Fits root → (n k : ℕ) (leaves : List ℕ) → leaves ≡ leaves_at image (pointer_to_node root n) → tree_of image (root_spelling root) (n ∷ k ∷ []) ≡ slice_index leaves k
read_leaf_is image root fits n k leaves is = leaf_at image root fits n k ∙ pointed image (pointer_to_node root n) k ∙ ap (λ (ns : List ℕ). get_or ns k 0) (sym is)

-- what passes is there, and is meant
pub passed_some : (test : ℕ → Bool) (image : Image) (v : ℕ) → passes test (held_at image v) ≡ true → (v ≢ 0) × (test v ≡ true)
passed_some test image zero h = cc
passed_some test image (suc v) h = (λ none. cc, h)

-- a volume has 65,536 cylinders at most
pub small_image : (image : Image) (g : Graph) → Holds image g → length image ≤ 4194304
small_image image g holds = omega (arith, holds.label.size_is, holds.label.is_label.at_most)

-- block 0 is nobody's
zero_unmeant : (image : Image) (g : Graph) → Holds image g → (r : ℕ) → 0 < length image → is_meant_for image r 0 ≡ false
zero_unmeant image g holds r some = ap (λ e. is_owned_by is_meant r e) (holds.fixed 0 some refl)

pub failed_none : (test : ℕ → Bool) (image : Image) (v : ℕ) → test 0 ≡ false → passes test (held_at image v) ≡ false → test v ≡ false
failed_none test image zero none h = none
failed_none test image (suc v) none h = h

module _ (a : Image) (g : Graph) (holds : Holds a g) (id : Puid) (o : Object) (at : object_at g id ≡ Some o) (has : HasItsBlocks a id.block) (d : Opened) (draft : HasDraft a id d) where
  -- what isn't fresh isn't meant, and what is fresh is
  pub fresh_there : (p : List ℕ) → passes (is_meant_for a id.block) ((tree_in a (content_of d)).below p) ≡ true → (tree_of a (content_of d) p ≢ 0) × (is_meant_for a id.block (tree_of a (content_of d) p) ≡ true)
  fresh_there p h = passed_some (is_meant_for a id.block) a (tree_of a (content_of d) p) h

  pub unfresh : 0 < length a → (p : List ℕ) → passes (is_meant_for a id.block) ((tree_in a (content_of d)).below p) ≡ false → is_meant_for a id.block (tree_of a (content_of d) p) ≡ false
  unfresh some p h = failed_none (is_meant_for a id.block) a (tree_of a (content_of d) p) (zero_unmeant a g holds id.block some) h

  -- the node of a fresh leaf is fresh: below one of the object's own stand the object's own leaves
  pub node_of_fresh : (n k : ℕ) → passes (is_meant_for a id.block) ((tree_in a (content_of d)).below (n ∷ k ∷ [])) ≡ true → passes (is_meant_for a id.block) ((tree_in a (content_of d)).below (n ∷ [])) ≡ true
  node_of_fresh n k fresh = elim (cases_Bool (passes (is_meant_for a id.block) ((tree_in a (content_of d)).below (n ∷ [])))) [
    | inl is ↦ is
    | inr not ↦ absurd (own_leaf (slice_index d.root.nodes n) refl not)
  ]
    where
      leaf : (tree_of a (content_of d) (n ∷ k ∷ []) ≢ 0) × (is_meant_for a id.block (tree_of a (content_of d) (n ∷ k ∷ [])) ≡ true)
      leaf = fresh_there (n ∷ k ∷ []) fresh

      leaf_is : tree_of a (content_of d) (n ∷ k ∷ []) ≡ leaf_from a (slice_index d.root.nodes n) k
      leaf_is = leaf_at a d.root draft.tree.spelled.good.0 n k

      own_leaf : (p : ℕ) → slice_index d.root.nodes n ≡ p → passes (is_meant_for a id.block) ((tree_in a (content_of d)).below (n ∷ [])) ≡ false → ⊥
      own_leaf zero none not = leaf.0 (leaf_is ∙ ap (λ (q : ℕ). leaf_from a q k) none)
      own_leaf (suc p) some not =
          let there : tree_of a (content_of d) (n ∷ []) ≡ suc p = node_at a d.root draft.tree.spelled.good.0 n ∙ some in
          let unmeant : is_meant_for a id.block (suc p) ≡ false = ap (λ (q : ℕ). passes (is_meant_for a id.block) (held_at a q)) (sym there) ∙ not in
          let same : tree_of a (block_at a id.block) (n ∷ []) ≡ suc p = not_meant_is_own a g holds id o at has d draft (n ∷ []) (held a (suc p)) (ap (held_at a) there) unmeant in
          let own : slice_index d.own.nodes n ≡ suc p = sym (node_at a d.own draft.own.good.0 n) ∙ ap (λ (c : List ℕ). tree_of a c (n ∷ [])) (sym draft.own.spelled) ∙ same in
          let below : tree_of a (block_at a id.block) (n ∷ k ∷ []) ≡ tree_of a (content_of d) (n ∷ k ∷ []) =
          ap (λ (c : List ℕ). tree_of a c (n ∷ k ∷ [])) draft.own.spelled ∙ leaf_at a d.own draft.own.good.0 n k ∙ ap (λ (q : ℕ). leaf_from a q k) (own ∙ sym some) ∙ sym leaf_is in
          meant_differs a g holds id o at has d draft (n ∷ k ∷ []) (tree_of a (content_of d) (n ∷ k ∷ [])) leaf.0 leaf.1 below
