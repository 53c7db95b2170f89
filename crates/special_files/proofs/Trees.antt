-- A tree of nodes and leaves: what stands at each path, as the pointers say.
use Rattle.std.proofs.Common.{◌≡◌, ℕ, ◌<◌, List, [], ◌∷◌, get_or, set, sym, ◌∙◌, ap, ◌^◌}
use Rattle.special_files.proofs.Words.{All-set, Fits, Image, IsGoodRoot, end_of, leaf_pointers, levels_of, node_block, node_pointers, nodes_of, pointer, root_spelling, slice_index, tree_of}
use Rattle.std.proofs.Math.ListN.{length-set}
use Rattle.block_tree.specs.declared.root.Root as roots

-- ---- pointers

pub pointer_is : (root : roots.Root) → Fits root → (m : ℕ) → pointer node_pointers (root_spelling root) m ≡ slice_index root.nodes m
pointer_is root fits m = ap (λ (ns : List ℕ). get_or ns m 0) (sym (nodes_of root fits))

pub node_at : (image : Image) (root : roots.Root) → Fits root → (m : ℕ) → tree_of image (root_spelling root) (m ∷ []) ≡ slice_index root.nodes m
node_at image root fits m = node_block image (root_spelling root) m ∙ pointer_is root fits m

-- the pointer of a leaf in a node; of an absent node 0
abbrev pub leaf_from : Image → ℕ → ℕ → ℕ
leaf_from image p j = end_of image (leaf_pointers ∷ []) p (j ∷ [])

pub leaf_at : (image : Image) (root : roots.Root) → Fits root → (m j : ℕ) → tree_of image (root_spelling root) (m ∷ j ∷ []) ≡ leaf_from image (slice_index root.nodes m) j
unfolding levels_of
leaf_at image root fits m j = ap (λ (p : ℕ). leaf_from image p j) (pointer_is root fits m)

-- ---- one pointer of a root changed

pub fits_with : (root : roots.Root) (n y : ℕ) → Fits root → y < 2 ^ 32 → Fits (record root { nodes = set root.nodes n y })
fits_with root n y fits small = record {
  fill = fits.fill;
  word = fits.word;
  count = length-set root.nodes n y ∙ fits.count;
  nodes = All-set (λ p. p < 2 ^ 32) root.nodes n y small fits.nodes;
}

pub good_with : (root : roots.Root) (n y : ℕ) → IsGoodRoot root → y < 2 ^ 32 → IsGoodRoot (record root { nodes = set root.nodes n y })
good_with root n y good small = (fits_with root n y good.0 small, record { fill = good.1.fill; size = good.1.size })
