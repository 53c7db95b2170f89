-- The tree of a root as the calls walk it: a pointer of the root, and then one of a node.
use Rattle.std.proofs.Common.{◌≡◌, ◌≢◌, replicate, ℕ, zero, suc, ◌+◌, ◌/◌, ◌%◌, ◌<◌, ◌^◌, List, [], ◌∷◌, ◌++◌, length, take, get_or, refl, sym, ◌∙◌, ap, subst, arith}
use Rattle.block_tree.specs.Reads.{holder_block}
use Rattle.block_tree.specs.Tree.{LeadsPast}
use Rattle.block_tree.proofs.Words.{Image, IsLeafPointer, IsPast, Level, PastAbove, PastOn, Pointer, Root, block_at, bytes_in, div-one, end_of, get_or-map-range_with_len, leaf_block, leaf_bytes, leaf_pointers, levels_of, node_pointers, number_at, path_to, pointer, pointers_of, root_spelling, tree_of}
use Rattle.block_tree.proofs.Numbers.{number_back}

-- a pointer of the root
pub node_is : (root : Root) (k : ℕ) → length root.nodes ≡ node_pointers.count → k < node_pointers.count → get_or root.nodes k 0 < 2 ^ 32 → pointer node_pointers (root_spelling root) k ≡ get_or root.nodes k 0
unfolding pointers_of root_spelling
node_is root k count here fits =
    get_or-map-range_with_len (λ (j : ℕ). number_at (root_spelling root) (8 + j)) 0 node_pointers.count k k 0 here (omega arith)
    ∙ number_back (take 32 (root_spelling root)) root.nodes 8 k refl (omega arith) fits

-- a pointer of a block
pub end_is : (image : Image) (level : Level) (block k : ℕ) → block ≢ 0 → end_of image (level ∷ []) block (k ∷ []) ≡ pointer level (block_at image block) k
end_is image level zero k some = absurd (some refl)
end_is image level (suc n) k some = refl

pub end_none : (image : Image) (level : Level) (block k : ℕ) → block ≡ 0 → end_of image (level ∷ []) block (k ∷ []) ≡ 0
end_none image level zero k none = refl
end_none image level (suc n) k none = absurd (omega arith)

pub path_is : (root : List ℕ) (leaf : ℕ) → path_to (levels_of root) leaf ≡ leaf / leaf_pointers.count ∷ leaf % leaf_pointers.count ∷ []
unfolding levels_of path_to
path_is root leaf = ap (λ (n : ℕ). leaf / leaf_pointers.count ∷ n ∷ []) (div-one (leaf % leaf_pointers.count))

pub leaf_is : (image : Image) (root : List ℕ) (leaf : ℕ) → leaf_block image root leaf ≡ end_of image (leaf_pointers ∷ []) (pointer node_pointers root (leaf / leaf_pointers.count)) (leaf % leaf_pointers.count ∷ [])
unfolding levels_of
leaf_is image root leaf = ap (tree_of image root) (path_is root leaf)

pub node_block : (image : Image) (root : List ℕ) (k : ℕ) → tree_of image root (k ∷ []) ≡ pointer node_pointers root k
unfolding levels_of
node_block image root k = refl

-- ---- a leaf's bytes

bytes_none : (image : Image) (fill n : ℕ) → n ≡ 0 → bytes_in image fill n ≡ replicate 512 fill
bytes_none image fill zero none = refl
bytes_none image fill (suc n) none = absurd (omega arith)

-- a leaf, by its root's fill byte
pub leaf_bytes_is : (image : Image) (root : Root) (leaf : ℕ) → leaf_bytes image (root_spelling root) leaf ≡ bytes_in image root.fill (leaf_block image (root_spelling root) leaf)
unfolding root_spelling
leaf_bytes_is image root leaf = refl

-- an absent leaf
pub leaf_absent : (image : Image) (root : Root) (leaf : ℕ) → leaf_block image (root_spelling root) leaf ≡ 0 → leaf_bytes image (root_spelling root) leaf ≡ replicate 512 root.fill
leaf_absent image root leaf none = leaf_bytes_is image root leaf ∙ bytes_none image root.fill (leaf_block image (root_spelling root) leaf) none

-- the pointer to a leaf leads to its block
pub at_leaf : (image : Image) (root : List ℕ) (leaf : ℕ) (p : Pointer) → IsLeafPointer image root leaf p → p.block ≡ leaf_block image root leaf
at_leaf image root leaf p to = ap (λ (p : Pointer). p.block) to.is ∙ ap (tree_of image root) to.on

pub past_last : (image : Image) (size : ℕ) (root : List ℕ) (leaf : ℕ) (p : Pointer) → IsLeafPointer image root leaf p → IsPast size p.block → PastOn image size root leaf p
past_last image size root leaf p to past = record { path = to.path; k = to.k; rest = []; on = to.on; is = to.is; past = past }

-- the block that has it has a pointer that leads past the end
pub on_leads : (image : Image) (size : ℕ) (root : List ℕ) (leaf r : ℕ) (p : Pointer) → PastOn image size root leaf p → LeadsPast image size root r (holder_block r p.holder)
on_leads image size root leaf r p past = record {
  path = past.path;
  k = past.k;
  at = ap (λ (p : Pointer). holder_block r p.holder) past.is;
  past = subst (λ (p : Pointer). IsPast size p.block) past.is past.past;
}

-- no pointer on a leaf's path is past the end, where none above the leaf is, and its own is not
pub none_past_on : (image : Image) (size : ℕ) (root : List ℕ) (leaf n : ℕ) → n ≡ leaf_block image root leaf → ((p : Pointer) → ¬ PastAbove image size root leaf p) → ¬ IsPast size n
    → (p : Pointer) → ¬ PastOn image size root leaf p
none_past_on image size root leaf n is above own p past = by past.rest refl
  where
    by : (rest : List ℕ) → past.rest ≡ rest → ⊥
    by [] last = own (subst (IsPast size) (ap (λ (p : Pointer). p.block) past.is ∙ ap (tree_of image root) (ap (λ (r : List ℕ). past.path ++ past.k ∷ r) (sym last) ∙ past.on) ∙ sym is) past.past)
    by (k ∷ rest) more = above p (record { past = past; above = λ none. let e = sym more ∙ none in cc })
