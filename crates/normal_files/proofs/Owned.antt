-- The blocks of a file that is read by its root: the root, and the nodes and leaves to which the pointers lead.
use Rattle.normal_files.proofs.Words.{◌≡◌, ◌≢◌, ◌⊎◌, inl, inr, ℕ, ◌<◌, List, [], ◌∷◌, Some, refl, sym, ◌∙◌, ap, subst, Image, Puid, IsRootBlock, root_spelling, entry_in, IsBlockOf, tree_in, first_or, sight, no_shadows, read_by_root, held, HasItsBlocks, is_had, is_leaving, is_owned_by, leaf_pointers}
use Rattle.normal_files.specs.Laid.{IsRooted, leaf_of, node_of}
use Rattle.normal_files.proofs.Laid.{each, leaf_there, node_there}
use Rattle.block_tree.specs.declared.root.Root as roots

-- one of these blocks
abbrev pub IsOwn : Image → Puid → roots.Root → ℕ → Type 0
IsOwn image id root m =
    (m ≡ id.block) ⊎ (((n : ℕ) × (node_of root n ≢ 0) × (m ≡ node_of root n)) ⊎ ((n : ℕ) × (k : ℕ) × (k < leaf_pointers.count) × (leaf_of image root n k ≢ 0) × (m ≡ leaf_of image root n k)))

module _ (image : Image) (id : Puid) (root : roots.Root) (rooted : IsRooted image id root) where
  is_root : IsRootBlock (root_spelling root) root
  is_root = record { good = rooted.laid.good; spelled = refl }

  in_tree : (p : List ℕ) (m : ℕ) → (tree_in image (root_spelling root)).below p ≡ Some (held image m) → IsBlockOf image id.block m
  unfolding sight
  in_tree p m there = inr (inr (p, held image m, ap (λ (c : List ℕ). (tree_in image c).below p) (read_by_root image id.block (root_spelling root) rooted.no_bit rooted.here) ∙ there, refl))

  pub node_block : (n : ℕ) → node_of root n ≢ 0 → IsBlockOf image id.block (node_of root n)
  node_block n real = in_tree (n ∷ []) (node_of root n) (node_there image (root_spelling root) root is_root n real)

  pub leaf_block : (n k : ℕ) → k < leaf_pointers.count → leaf_of image root n k ≢ 0 → IsBlockOf image id.block (leaf_of image root n k)
  leaf_block n k small real = in_tree (n ∷ k ∷ []) (leaf_of image root n k) (leaf_there image (root_spelling root) root is_root n k small real)

  pub block_from_own : (m : ℕ) → IsOwn image id root m → IsBlockOf image id.block m
  block_from_own m (inl is) = inl is
  block_from_own m (inr (inl (n, real, is))) = subst (IsBlockOf image id.block) (sym is) (node_block n real)
  block_from_own m (inr (inr (n, k, small, real, is))) = subst (IsBlockOf image id.block) (sym is) (leaf_block n k small real)

  pub own_from_block : (m : ℕ) → IsBlockOf image id.block m → IsOwn image id root m
  unfolding sight
  own_from_block m (inl is) = inl is
  own_from_block m (inr (inl is)) = inl (is ∙ ap (first_or id.block) (no_shadows image id.block rooted.no_bit))
  own_from_block m (inr (inr (p, h, there, is))) =
      subst (IsOwn image id root) is (each image (root_spelling root) root is_root (λ q v. IsOwn image id root v.block) (λ n real. inr (inl (n, real, refl))) (λ n k small real. inr (inr (n, k, small, real, refl)))
      p h (ap (λ (c : List ℕ). (tree_in image c).below p) (sym (read_by_root image id.block (root_spelling root) rooted.no_bit rooted.here)) ∙ there))

-- where no entry changes and the pointers stay, the file has its blocks as before
pub blocks_stay : (a b : Image) (id : Puid) (root next : roots.Root) → IsRooted a id root → IsRooted b id next → ((n : ℕ) → node_of next n ≡ node_of root n) → ((n k : ℕ) → leaf_of b next n k ≡ leaf_of a root n k) → ((m : ℕ) → entry_in b m ≡ entry_in a m)
    → HasItsBlocks a id.block → HasItsBlocks b id.block
blocks_stay a b id root next one two nodes same entries has = record {
  no_bit = two.no_bit;
  each = λ m is. ap (is_owned_by is_had id.block) (entries m) ∙ has.each m (block_from_own a id root one m (back m (own_from_block b id next two m is)));
  no_other = λ m is. block_from_own b id next two m (forth m (own_from_block a id root one m (has.no_other m (sym (ap (is_owned_by is_had id.block) (entries m)) ∙ is))));
  none_leaves = λ m. ap (is_owned_by is_leaving id.block) (entries m) ∙ has.none_leaves m;
}
  where
    back : (m : ℕ) → IsOwn b id next m → IsOwn a id root m
    back m (inl is) = inl is
    back m (inr (inl (n, real, is))) = inr (inl (n, λ none. real (nodes n ∙ none), is ∙ nodes n))
    back m (inr (inr (n, k, small, real, is))) = inr (inr (n, k, small, λ none. real (same n k ∙ none), is ∙ same n k))

    forth : (m : ℕ) → IsOwn a id root m → IsOwn b id next m
    forth m (inl is) = inl is
    forth m (inr (inl (n, real, is))) = inr (inl (n, λ none. real (sym (nodes n) ∙ none), is ∙ sym (nodes n)))
    forth m (inr (inr (n, k, small, real, is))) = inr (inr (n, k, small, λ none. real (sym (same n k) ∙ none), is ∙ sym (same n k)))
