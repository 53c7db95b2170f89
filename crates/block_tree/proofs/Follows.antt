-- Pointers that are followed along a path are those of the tree.
use Rattle.std.proofs.Common.{◌≡◌, ◌≢◌, ◌⊎◌, inl, inr, ℕ, zero, suc, ◌/◌, ◌%◌, ◌<◌, ◌≤◌, ◌^◌, List, [], ◌∷◌, ◌++◌, length, get_or, drop, take, Option, Some, None, refl, sym, ◌∙◌, ap, subst, arith}
use Rattle.std.proofs.lemmas.List.{length-replicate}
use Rattle.block_tree.proofs.Words.{Image, IsLeafPointer, IsPast, Level, PastAbove, PastFrom, Pointer, Root, div_below, end_of, first_pointer, leaf_block, leaf_limit, leaf_pointers, levels_below, levels_of, next_pointer, node_levels, node_pointers, path_to, pointer, pointer_below, pointer_from, root_spelling, take_all, width}
use Rattle.block_tree.proofs.Descents.{length-path_to, places as places_are, some_width}
use Rattle.block_tree.specs.Path.{path_of}
use Rattle.block_tree.proofs.Trees.{node_is}
use Rattle.block_tree.proofs.Ways.{step_end}
use Rattle.block_tree.specs.Tree.{pointer_at}
use Rattle.block_tree.specs.Way.{pointers_in}

pub same_pointer : (h i : Option ℕ) (a b : ℕ) → h ≡ i → a ≡ b → ◌≡◌ {A = Pointer} (record { holder = h; block = a }) (record { holder = i; block = b })
same_pointer h i a b one two = cc

-- ---- where each pointer stands

-- the pointer at a place of the node to which a path from block n leads
abbrev placed : Image → List Level → ℕ → List ℕ → ℕ → Pointer
placed image levels n front k = record { holder = Some (end_of image levels n front); block = end_of image levels n (front ++ k ∷ []) }

placed_first : (image : Image) (level : Level) (levels : List Level) (p : Pointer) (k : ℕ) → next_pointer image level p k ≡ placed image (level ∷ levels) p.block [] k
placed_first image level levels p k = same_pointer _ _ _ _ refl (sym (step_end image level levels p.block k []))

placed_more : (image : Image) (level : Level) (levels : List Level) (n j : ℕ) (front : List ℕ) (k : ℕ) → placed image levels (pointers_in image level n j) front k ≡ placed image (level ∷ levels) n (j ∷ front) k
placed_more image level levels n j front k = same_pointer _ _ _ _ (ap Some (sym (step_end image level levels n j front))) (sym (step_end image level levels n j (front ++ k ∷ [])))

no_level : (image : Image) (n k : ℕ) (path : List ℕ) → 0 ≡ end_of image [] n (k ∷ path)
no_level image zero k path = refl
no_level image (suc n) k path = refl

pub block_from : (image : Image) (levels : List Level) (p : Pointer) (path : List ℕ) → (pointer_from image levels p path).block ≡ end_of image levels p.block path
block_from image levels p [] = refl
block_from image [] p (k ∷ path) = no_level image p.block k path
block_from image (level ∷ levels) p (k ∷ path) = block_from image levels (next_pointer image level p k) path ∙ sym (step_end image level levels p.block k path)

-- the last
last_placed : (image : Image) (levels : List Level) (p : Pointer) (k : ℕ) (path : List ℕ) → length path < length levels
    → (front : List ℕ) × (j : ℕ) × (front ++ j ∷ [] ≡ k ∷ path) × (pointer_from image levels p (k ∷ path) ≡ placed image levels p.block front j)
last_placed image [] p k path less = absurd (omega (arith, less))
last_placed image (level ∷ levels) p k [] less = ([], k, refl, placed_first image level levels p k)
last_placed image (level ∷ levels) p k (i ∷ path) less =
    let last = last_placed image levels (next_pointer image level p k) i path (omega (arith, less)) in
    (k ∷ last.0, last.1, ap (λ (l : List ℕ). k ∷ l) last.2, last.3 ∙ placed_more image level levels p.block k last.0 last.1)

-- one before it that is past the end
record Above (image : Image) (levels : List Level) (size n : ℕ) (path : List ℕ) (q : Pointer) : Type 0 where
  front : List ℕ
  k : ℕ
  rest : List ℕ
  on : front ++ k ∷ rest ≡ path
  more : rest ≢ []
  is : q ≡ placed image levels n front k
  past : IsPast size q.block

above_from : (image : Image) (levels : List Level) (size : ℕ) (p : Pointer) (path : List ℕ) (q : Pointer) → PastFrom image levels size p path q
    → ((q ≡ p) × IsPast size p.block × (path ≢ [])) ⊎ Above image levels size p.block path q
above_from image levels size p [] q past = absurd past
above_from image [] size p (k ∷ path) q past = absurd past
above_from image (level ∷ levels) size p (k ∷ path) q (inl here) = inl (here.0, here.1, λ none. cc)
above_from image (level ∷ levels) size p (k ∷ path) q (inr later) = elim (above_from image levels size (next_pointer image level p k) path q later) [
  | inl next ↦ inr (record {
    front = [];
    k = k;
    rest = path;
    on = refl;
    more = next.2;
    is = next.0 ∙ placed_first image level levels p k;
    past = subst (λ (r : Pointer). IsPast size r.block) (sym next.0) next.1;
  })
  | inr deeper ↦ inr (record {
    front = k ∷ deeper.front;
    k = deeper.k;
    rest = deeper.rest;
    on = ap (λ (l : List ℕ). k ∷ l) deeper.on;
    more = deeper.more;
    is = deeper.is ∙ placed_more image level levels p.block k deeper.front deeper.k;
    past = deeper.past;
  })
]

begins : (image : Image) (levels : List Level) (size : ℕ) (p : Pointer) (path : List ℕ) (q : Pointer) → path ≢ [] → length path ≤ length levels → q ≡ p → IsPast size q.block → PastFrom image levels size p path q
begins image levels size p [] q some few is past = absurd (some refl)
begins image [] size p (k ∷ path) q some few is past = absurd (omega (arith, few))
begins image (level ∷ levels) size p (k ∷ path) q some few is past = inl (is, subst (λ (r : Pointer). IsPast size r.block) is past)

from_placed : (image : Image) (levels : List Level) (size : ℕ) (p : Pointer) (front : List ℕ) (k : ℕ) (rest : List ℕ) (q : Pointer) → rest ≢ [] → length (front ++ k ∷ rest) ≤ length levels → q ≡ placed image levels p.block front k → IsPast size q.block
    → PastFrom image levels size p (front ++ k ∷ rest) q
from_placed image [] size p [] k rest q more few is past = absurd (omega (arith, few))
from_placed image [] size p (j ∷ front) k rest q more few is past = absurd (omega (arith, few))
from_placed image (level ∷ levels) size p [] k rest q more few is past =
    inr (begins image levels size (next_pointer image level p k) rest q more (omega (arith, few)) (is ∙ sym (placed_first image level levels p k)) past)
from_placed image (level ∷ levels) size p (j ∷ front) k rest q more few is past =
    inr (from_placed image levels size (next_pointer image level p j) front k rest q more (omega (arith, few)) (is ∙ sym (placed_more image level levels p.block j front k)) past)

-- ---- from a root

abbrev low : List Level
low = levels_below node_levels

pub low_count : length low ≡ node_levels
low_count = length-replicate node_levels leaf_pointers

-- the path of a leaf begins at a pointer of the root
pub path_is_from : (root : List ℕ) (leaf : ℕ) → leaf / width low ∷ path_to low (leaf % width low) ≡ path_to (levels_of root) leaf
unfolding levels_of path_to
path_is_from root leaf = refl

abbrev top : List ℕ → ℕ → Pointer
top root k = record { holder = None; block = pointer node_pointers root k }

-- the pointer at the end of a leaf's path
at_end : (image : Image) (root : List ℕ) (leaf k : ℕ) (path : List ℕ) → k ∷ path ≡ path_to (levels_of root) leaf → length path ≤ node_levels → IsLeafPointer image root leaf (pointer_from image low (top root k) path)
unfolding levels_of
at_end image root leaf k [] on few = record { path = []; k = k; on = on; is = refl }
at_end image root leaf k (i ∷ path) on few =
    let last = last_placed image low (top root k) i path (omega (arith, few, low_count)) in
    record { path = k ∷ last.0; k = last.1; on = ap (λ (l : List ℕ). k ∷ l) last.2 ∙ on; is = last.3 }

-- one above it that is past the end
above_of : (image : Image) (root : List ℕ) (leaf k : ℕ) (path : List ℕ) → k ∷ path ≡ path_to (levels_of root) leaf → (size : ℕ) (q : Pointer) → PastFrom image low size (top root k) path q → PastAbove image size root leaf q
unfolding levels_of
above_of image root leaf k path on size q past = elim (above_from image low size (top root k) path q past) [
  | inl here ↦ record {
    past = record { path = []; k = k; rest = path; on = on; is = here.0; past = subst (λ (r : Pointer). IsPast size r.block) (sym here.0) here.1 };
    above = here.2;
  }
  | inr deeper ↦ record {
    past = record { path = k ∷ deeper.front; k = deeper.k; rest = deeper.rest; on = ap (λ (l : List ℕ). k ∷ l) deeper.on ∙ on; is = deeper.is; past = deeper.past };
    above = deeper.more;
  }
]

of_placed : (image : Image) (root : List ℕ) (k : ℕ) (path : List ℕ) → length path ≤ node_levels → (size : ℕ) (q : Pointer) (before : List ℕ) (j : ℕ) (rest : List ℕ) → before ++ j ∷ rest ≡ k ∷ path → rest ≢ [] → q ≡ pointer_at image root before j → IsPast size q.block
    → PastFrom image low size (top root k) path q
unfolding levels_of
of_placed image root k path few size q [] j rest on more is past =
    let first : j ≡ k = cc in
    let then : rest ≡ path = cc in
    begins image low size (top root k) path q (λ none. more (then ∙ none)) (omega (arith, few, low_count)) (is ∙ ap (top root) first) past
of_placed image root k path few size q (i ∷ before) j rest on more is past =
    let first : i ≡ k = cc in
    let then : before ++ j ∷ rest ≡ path = cc in
    subst (λ (l : List ℕ). PastFrom image low size (top root k) l q) then
    (from_placed image low size (top root k) before j rest q more (omega (arith, few, low_count, ap (λ (l : List ℕ). length l) then)) (is ∙ ap (λ (n : ℕ). placed image low (pointer node_pointers root n) before j) first) past)

-- ---- a leaf of a root that is in memory

module _ (image : Image) (root : Root) (count : length root.nodes ≡ node_pointers.count) (leaf : ℕ) (small : leaf < leaf_limit) (fits : get_or root.nodes (leaf / width low) 0 < 2 ^ 32) where
  abbrev R : List ℕ
  R = root_spelling root

  abbrev path : List ℕ
  path = path_to low (leaf % width low)

  few : length path ≤ node_levels
  few = omega (arith, length-path_to low (leaf % width low), low_count)

  top_is : first_pointer None root.nodes low leaf ≡ top R (leaf / width low)
  top_is = same_pointer _ _ _ _ refl (sym (node_is root (leaf / width low) count (div_below leaf (width low) node_pointers.count (some_width node_levels) small) fits))

  pub leaf_pointer_is : IsLeafPointer image R leaf (pointer_below image None root.nodes low leaf)
  leaf_pointer_is = subst (λ (p : Pointer). IsLeafPointer image R leaf (pointer_from image low p path)) (sym top_is) (at_end image R leaf (leaf / width low) path (path_is_from R leaf) few)

  pub leaf_block_is : (pointer_below image None root.nodes low leaf).block ≡ leaf_block image R leaf
  unfolding levels_of path_to
  leaf_block_is = block_from image low (first_pointer None root.nodes low leaf) path ∙ ap (λ (p : Pointer). end_of image low p.block path) top_is

  pub past_above : (size : ℕ) (q : Pointer) → PastFrom image low size (first_pointer None root.nodes low leaf) path q → PastAbove image size R leaf q
  past_above size q past = above_of image R leaf (leaf / width low) path (path_is_from R leaf) size q (subst (λ (p : Pointer). PastFrom image low size p path q) top_is past)

  pub above_past : (size : ℕ) (q : Pointer) → PastAbove image size R leaf q → PastFrom image low size (first_pointer None root.nodes low leaf) path q
  above_past size q is = subst (λ (p : Pointer). PastFrom image low size p path q) (sym top_is)
      (of_placed image R (leaf / width low) path few size q is.past.path is.past.k is.past.rest (is.past.on ∙ sym (path_is_from R leaf)) is.above is.past.is is.past.past)

-- ---- the same, where the path is had as a list of places

pub first_is : (places : List ℕ) (leaf : ℕ) → places ≡ path_of leaf → get_or places 0 0 ≡ leaf / width low
unfolding path_to
first_is places leaf is = ap (λ (l : List ℕ). get_or l 0 0) is

rest_is : (places : List ℕ) (leaf : ℕ) → places ≡ path_of leaf → take node_levels (drop 1 places) ≡ path_to low (leaf % width low)
unfolding path_to
rest_is places leaf is = ap (λ (l : List ℕ). take node_levels (drop 1 l)) is ∙ take_all node_levels (path_to low (leaf % width low)) (omega (arith, length-path_to low (leaf % width low), low_count))

pub rest_small : (places : List ℕ) (leaf : ℕ) → leaf < leaf_limit → places ≡ path_of leaf → (d : ℕ) → get_or (take node_levels (drop 1 places)) d 0 < leaf_pointers.count
unfolding path_to
rest_small places leaf small is d = subst (λ (l : List ℕ). get_or l d 0 < leaf_pointers.count) (sym (rest_is places leaf is)) ((places_are leaf small).rest d)

module _ (image : Image) (root : Root) (count : length root.nodes ≡ node_pointers.count) (leaf : ℕ) (small : leaf < leaf_limit) (places : List ℕ) (is : places ≡ path_of leaf) (read : get_or root.nodes (get_or places 0 0) 0 < 2 ^ 32) where
  abbrev from : Pointer
  from = record { holder = None; block = get_or root.nodes (get_or places 0 0) 0 }

  abbrev rest : List ℕ
  rest = take node_levels (drop 1 places)

  fits : get_or root.nodes (leaf / width low) 0 < 2 ^ 32
  fits = subst (λ (k : ℕ). get_or root.nodes k 0 < 2 ^ 32) (first_is places leaf is) read

  from_is : from ≡ first_pointer None root.nodes low leaf
  from_is = same_pointer _ _ _ _ refl (ap (λ (k : ℕ). get_or root.nodes k 0) (first_is places leaf is))

  below_is : levels_below (length rest) ≡ low
  below_is = ap levels_below (ap (λ (l : List ℕ). length l) (rest_is places leaf is) ∙ length-path_to low (leaf % width low) ∙ low_count)

  ends_so : pointer_from image (levels_below (length rest)) from rest ≡ pointer_below image None root.nodes low leaf
  ends_so = ap (λ (ls : List Level). pointer_from image ls from rest) below_is ∙ ap (λ (p : Pointer). pointer_from image low p rest) from_is ∙ ap (pointer_from image low (first_pointer None root.nodes low leaf)) (rest_is places leaf is)

  pub read_to : (p : Pointer) → p ≡ pointer_from image (levels_below (length rest)) from rest → IsLeafPointer image (root_spelling root) leaf p
  read_to p ends = subst (IsLeafPointer image (root_spelling root) leaf) (sym (ends ∙ ends_so)) (leaf_pointer_is image root count leaf small fits)

  past_so : (size : ℕ) (q : Pointer) → PastFrom image (levels_below (length rest)) size from rest q ≡ PastFrom image low size (first_pointer None root.nodes low leaf) (path_to low (leaf % width low)) q
  past_so size q = ap (λ (ls : List Level). PastFrom image ls size from rest q) below_is ∙ ap (λ (p : Pointer). PastFrom image low size p rest q) from_is ∙ ap (λ (l : List ℕ). PastFrom image low size (first_pointer None root.nodes low leaf) l q) (rest_is places leaf is)

  pub read_past : (size : ℕ) (q : Pointer) → PastFrom image (levels_below (length rest)) size from rest q → PastAbove image size (root_spelling root) leaf q
  read_past size q past = past_above image root count leaf small fits size q (subst (λ (T : Type 0). T) (past_so size q) past)

  pub past_read : (size : ℕ) (q : Pointer) → PastAbove image size (root_spelling root) leaf q → PastFrom image (levels_below (length rest)) size from rest q
  past_read size q past = subst (λ (T : Type 0). T) (sym (past_so size q)) (above_past image root count leaf small fits size q past)
