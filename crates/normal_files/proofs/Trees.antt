-- A tree of nodes and leaves: what stands at each path, as the pointers say.
use Rattle.normal_files.proofs.Words.{◌≡◌, ◌≢◌, inl, inr, ℕ, zero, suc, ◌+◌, ◌*◌, ◌/◌, ◌%◌, ◌<◌, ◌≤◌, List, [], ◌∷◌, get_or, refl, sym, ◌∙◌, ap, subst, arith, slice_index, cases_eq, cases_lt, get_or_past, Image, block_at, leaf_pointers, node_pointers, pointers_of, IsGoodRoot, IsRootBlock, root_spelling, end_of, pointer, tree_of, nodes_of, leaf_is, node_block, path_is, Object, IsTree, leaf_in, held_at, tree_in, held_there, held, IsNear, leaves_at, length-leaves, pointed, zeros}
use Rattle.normal_files.specs.Laid.{leaf_of, leaves_of, node_of}
use Rattle.block_tree.specs.Along.{IsNearTree}
use Rattle.block_tree.specs.declared.root.Root as roots

pub same_leaves : (i j : Image) (m : ℕ) → (m ≢ 0 → block_at i m ≡ block_at j m) → leaves_at i m ≡ leaves_at j m
same_leaves i j zero same = refl
same_leaves i j (suc m) same = ap (pointers_of leaf_pointers) (same (λ none. cc))

-- what is so of each place of each node is so of each leaf
pub each_leaf : (P : ℕ → Type 0) → ((n k : ℕ) → k < leaf_pointers.count → P (leaf_pointers.count * n + k)) → (l : ℕ) → P l
each_leaf P each l = let is : leaf_pointers.count * (l / leaf_pointers.count) + l % leaf_pointers.count ≡ l = omega arith in subst P is (each (l / leaf_pointers.count) (l % leaf_pointers.count) (omega arith))

-- a node has no pointer past its last
pub none_past : (image : Image) (p k : ℕ) → leaf_pointers.count ≤ k → get_or (leaves_at image p) k 0 ≡ 0
none_past image p k past = get_or_past (leaves_at image p) k 0 (omega (arith, past, length-leaves image p))

module _ (image : Image) (content : List ℕ) (root : roots.Root) (is : IsRootBlock content root) where
  pub node_pointer : (n : ℕ) → pointer node_pointers content n ≡ slice_index root.nodes n
  node_pointer n = ap (λ (c : List ℕ). pointer node_pointers c n) is.spelled ∙ ap (λ (ns : List ℕ). get_or ns n 0) (sym (nodes_of root is.good.0))

  pub node_at : (n : ℕ) → tree_of image content (n ∷ []) ≡ slice_index root.nodes n
  node_at n = node_block image content n ∙ node_pointer n

  pub leaf_at : (n k : ℕ) → k < leaf_pointers.count → tree_of image content (n ∷ k ∷ []) ≡ get_or (leaves_at image (slice_index root.nodes n)) k 0
  leaf_at n k small =
      let l = leaf_pointers.count * n + k in
      let high : n ≡ l / leaf_pointers.count = omega arith in
      let low : k ≡ l % leaf_pointers.count = omega arith in
      ap (λ (m : ℕ). tree_of image content (m ∷ k ∷ [])) high ∙ ap (λ (m : ℕ). tree_of image content (l / leaf_pointers.count ∷ m ∷ [])) low
      ∙ ap (tree_of image content) (sym (path_is content l)) ∙ leaf_is image content l
      ∙ ap (λ (p : ℕ). end_of image (leaf_pointers ∷ []) p (l % leaf_pointers.count ∷ [])) (ap (pointer node_pointers content) (sym high) ∙ node_pointer n)
      ∙ ap (λ (m : ℕ). end_of image (leaf_pointers ∷ []) (slice_index root.nodes n) (m ∷ [])) (sym low) ∙ pointed image (slice_index root.nodes n) k

  -- a leaf stands where its node points
  pub leaf_stands : (n k : ℕ) → k < leaf_pointers.count → leaf_in (tree_in image content) (leaf_pointers.count * n + k) ≡ held_at image (get_or (leaves_at image (slice_index root.nodes n)) k 0)
  leaf_stands n k small =
      let l = leaf_pointers.count * n + k in
      let high : l / leaf_pointers.count ≡ n = omega arith in
      let low : l % leaf_pointers.count ≡ k = omega arith in
      ap (λ (p : List ℕ). held_at image (tree_of image content p)) (path_is content l)
      ∙ ap (λ (m : ℕ). held_at image (tree_of image content (m ∷ l % leaf_pointers.count ∷ []))) high ∙ ap (λ (m : ℕ). held_at image (tree_of image content (n ∷ m ∷ []))) low
      ∙ ap (held_at image) (leaf_at n k small)

  -- all of a tree is on the disk
  module _ (size owner : ℕ) (r : roots.Root) (o : Object) (tree : IsTree size owner (tree_in image content) r o) (some : 0 < size) where
    on_disk : (p : List ℕ) → tree_of image content p < size
    on_disk p = elim (cases_eq (tree_of image content p) 0) [
      | inl none ↦ omega (arith, none)
      | inr real ↦ tree.on_disk p (held image (tree_of image content p)) (held_there image (tree_of image content p) real)
    ]

    pub near : (n : ℕ) → IsNear size image (slice_index root.nodes n)
    near n = record {
      here = subst (λ (b : ℕ). b < size) (node_at n) (on_disk (n ∷ []));
      leaves = λ k. elim (cases_lt k leaf_pointers.count) [
        | inl small ↦ subst (λ (b : ℕ). b < size) (leaf_at n k small) (on_disk (n ∷ k ∷ []))
        | inr past ↦ omega (arith, none_past image (slice_index root.nodes n) k past, some)
      ];
    }

-- a node that is absent leads nowhere
pub none_below : (image : Image) (root : roots.Root) (n k : ℕ) → node_of root n ≡ 0 → leaf_of image root n k ≡ 0
none_below image root n k none = ap (λ (m : ℕ). get_or (leaves_at image m) k 0) none ∙ zeros leaf_pointers.count k

pub near_none : (size : ℕ) (image : Image) → 0 < size → IsNear size image 0
near_none size image some = record { here = some; leaves = λ k. omega (arith, zeros leaf_pointers.count k, some) }

-- so is all that its nodes lead to
pub near_tree : (image : Image) (content : List ℕ) (root : roots.Root) → IsRootBlock content root → (size owner : ℕ) (r : roots.Root) (o : Object) → IsTree size owner (tree_in image content) r o → 0 < size → IsNearTree size image (root_spelling root)
near_tree image content root is size owner r o tree some [] few = near_none size image some
near_tree image content root is size owner r o tree some (n ∷ []) few =
    subst (IsNear size image) (sym (node_at image content root is n) ∙ ap (λ (c : List ℕ). tree_of image c (n ∷ [])) is.spelled) (near image content root is size owner r o tree some n)
near_tree image content root is size owner r o tree some (n ∷ k ∷ path) few = absurd (omega (arith, few))

-- each leaf of a file, by its root
pub stands_at : (image : Image) (r : roots.Root) → IsGoodRoot r → (n k : ℕ) → k < leaf_pointers.count → leaves_of image r (leaf_pointers.count * n + k) ≡ held_at image (leaf_of image r n k)
stands_at image r good n k small = leaf_stands image (root_spelling r) r (record { good = good; spelled = refl }) n k small
