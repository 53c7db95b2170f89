-- A place names one path, and below a root a block stands at one path.
use Rattle.std.proofs.Common.{◌≡◌, ◌≢◌, ℕ, zero, suc, ◌+◌, ◌*◌, ◌%◌, ◌/◌, ◌<◌, ◌≤◌, List, [], ◌∷◌, length, inl, inr, Some, refl, sym, ◌∙◌, ap, subst, arith}
use Rattle.vol_image.proofs.Words.{Held, Image, IsTree, Leaf, Span, Level, Node, Object, EntryPart, Place, Root, ShadowRoot, below, block_at, cases_lt, div-mul-add, end_of, get_or_past, leaf_pointers, length-map-range_with_len, levels_of, mod-mul-add, number_at, part_at, place_above, place_at, place_from, place_number, pointer, pointers_of, same_Some, tree_in, tree_of}
use Rattle.block_tree.specs.declared.root.Root as roots
use Rattle.vol_image.proofs.Views.{held_is, held_part}

-- ---- a place names one path

-- each number of the path is that of a pointer at its level
abbrev pub IsPath : List Level → List ℕ → Type 0
IsPath levels [] = Unit {0}
IsPath [] (k ∷ path) = ⊥
IsPath (level ∷ levels) (k ∷ path) = (k < level.count) × IsPath levels path

-- how many levels are below a place
rank : Place → ℕ
rank Root = 9
rank ShadowRoot = 9
rank (Leaf n) = 0
rank (Span n) = 2
rank (Node n) = 1

rank_above : (levels : List Level) (n : ℕ) → length levels ≤ 1 → rank (place_above levels n) ≡ length levels
unfolding rank
rank_above [] n few = refl
rank_above (l ∷ []) n few = refl
rank_above (l ∷ m ∷ levels) n few = absurd (omega arith)

rank_leaf : (n : ℕ) → rank (Leaf n) ≡ 0
unfolding rank
rank_leaf n = refl

rank_from : (p : List ℕ) (levels : List Level) (n : ℕ) → length levels ≤ 1 → rank (place_from n levels p) ≤ length levels
rank_from [] levels n few = omega (arith, rank_above levels n few)
rank_from (k ∷ p) [] n few = omega (arith, rank_leaf n)
rank_from (k ∷ p) (l ∷ levels) n few = let rest = rank_from p levels (n * l.count + k) (omega arith) in omega (arith, rest)

number_above : (levels : List Level) (n : ℕ) → place_number (Some (place_above levels n)) ≡ n
number_above [] n = refl
number_above (l ∷ levels) n = refl

digits : (c n m k j : ℕ) → k < c → j < c → n * c + k ≡ m * c + j → (n ≡ m) × (k ≡ j)
digits c n m k j small other same =
    (sym (div-mul-add n c k small) ∙ ap (λ (x : ℕ). x / c) same ∙ div-mul-add m c j other, sym (mod-mul-add n c k small) ∙ ap (λ (x : ℕ). x % c) same ∙ mod-mul-add m c j other)

pub place_names : (levels : List Level) (p q : List ℕ) (n m : ℕ) → length levels ≤ 1 → IsPath levels p → IsPath levels q → place_from n levels p ≡ place_from m levels q → (n ≡ m) × (p ≡ q)
place_names levels [] [] n m few f h same = (sym (number_above levels n) ∙ ap (λ (p : Place). place_number (Some p)) same ∙ number_above levels m, refl)
place_names [] [] (j ∷ q) n m few f h same = absurd h
place_names (l ∷ levels) [] (j ∷ q) n m few f h same = absurd (omega (arith, rank_above (l ∷ levels) n few, ap rank same, rank_from q levels (m * l.count + j) (omega arith)))
place_names [] (k ∷ p) q n m few f h same = absurd f
place_names (l ∷ levels) (k ∷ p) [] n m few f h same = absurd (omega (arith, rank_above (l ∷ levels) m few, ap rank same, rank_from p levels (n * l.count + k) (omega arith)))
place_names (l ∷ levels) (k ∷ p) (j ∷ q) n m few f h same =
    let rest = place_names levels p q (n * l.count + k) (m * l.count + j) (omega arith) f.1 h.1 same in
    let two = digits l.count n m k j f.0 h.0 rest.0 in
    (two.0, λ i. two.1 i ∷ rest.1 i)

place_step : (levels : List Level) (k j : ℕ) (p q : List ℕ) → length levels ≤ 2 → IsPath levels (k ∷ p) → IsPath levels (j ∷ q) → place_at levels (k ∷ p) ≡ place_at levels (j ∷ q) → (k ∷ p) ≡ (j ∷ q)
unfolding place_at
place_step [] k j p q few f h same = absurd f
place_step (l ∷ levels) k j p q few f h same =
    let two = place_names levels p q (0 * l.count + k) (0 * l.count + j) (omega arith) f.1 h.1 same in
    let first : k ≡ j = omega (arith, two.0) in
    λ i. first i ∷ two.1 i

-- ---- where a block stands is a path

end_zero : (image : Image) (levels : List Level) (n : ℕ) (p : List ℕ) → n ≡ 0 → end_of image levels n p ≡ 0
end_zero image levels n [] is = is
end_zero image levels zero (k ∷ p) is = refl
end_zero image levels (suc n) (k ∷ p) is = absurd (omega arith)

pointer_past : (level : Level) (content : List ℕ) (k : ℕ) → level.count ≤ k → pointer level content k ≡ 0
unfolding pointers_of
pointer_past level content k past =
    get_or_past (pointers_of level content) k 0 (omega (arith, length-map-range_with_len (λ (j : ℕ). number_at content (level.from + j)) 0 level.count))

-- a pointer that leads somewhere is one of its level's
pointer_in : (image : Image) (level : Level) (levels : List Level) (content : List ℕ) (k : ℕ) (p : List ℕ) → end_of image levels (pointer level content k) p ≢ 0 → k < level.count
pointer_in image level levels content k p some = elim (cases_lt k level.count) [
  | inl less ↦ less
  | inr past ↦ absurd (some (end_zero image levels (pointer level content k) p (pointer_past level content k past)))
]

end_is_path : (image : Image) (p : List ℕ) (levels : List Level) (n : ℕ) → end_of image levels n p ≢ 0 → IsPath levels p
end_is_path image [] levels n some = tt
end_is_path image (k ∷ p) levels zero some = absurd (some refl)
end_is_path image (k ∷ p) [] (suc n) some = absurd (some refl)
end_is_path image (k ∷ p) (level ∷ levels) (suc n) some =
    (pointer_in image level levels (block_at image (suc n)) k p some, end_is_path image p levels (pointer level (block_at image (suc n)) k) some)

pub below_is_path : (image : Image) (levels : List Level) (content : List ℕ) (p : List ℕ) → below image levels content p ≢ 0 → IsPath levels p
below_is_path image levels content [] some = absurd (some refl)
below_is_path image [] content (k ∷ p) some = absurd (some refl)
below_is_path image (level ∷ levels) content (k ∷ p) some = (pointer_in image level levels content k p some, end_is_path image p levels (pointer level content k) some)

-- ---- a block stands at one path

few_levels : (content : List ℕ) → length (levels_of content) ≤ 2
unfolding levels_of
few_levels content = omega arith

place_path : (levels : List Level) (p q : List ℕ) → length levels ≤ 2 → p ≢ [] → q ≢ [] → IsPath levels p → IsPath levels q → place_at levels p ≡ place_at levels q → p ≡ q
place_path levels [] q few one two f h same = absurd (one refl)
place_path levels (k ∷ p) [] few one two f h same = absurd (two refl)
place_path levels (k ∷ p) (j ∷ q) few one two f h same = place_step levels k j p q few f h same

below_somewhere : (image : Image) (levels : List Level) (content : List ℕ) (p : List ℕ) → below image levels content p ≢ 0 → p ≢ []
below_somewhere image levels content p some none = some (ap (below image levels content) none)

-- a block that stands below two roots of one owner stands at one path
pub same_path : (image : Image) (size owner : ℕ) (content other : List ℕ) (root r : roots.Root) (o p : Object) → levels_of content ≡ levels_of other → IsTree size owner (tree_in image content) root o → IsTree size owner (tree_in image other) r p
    → (path q : List ℕ) (g h : Held) → (tree_in image content).below path ≡ Some g → (tree_in image other).below q ≡ Some h → g.block ≡ h.block → path ≡ q
same_path image size owner content other root r o p levels fits too path q g h one two same =
    let first = fits.owned path g one in
    let second = too.owned q h two in
    let at = (held_is image (tree_of image content path) g one).1 in
    let there = (held_is image (tree_of image other q) h two).1 in
    let parts : g.part ≡ h.part = held_part image (tree_of image content path) g one ∙ ap (part_at image) same ∙ sym (held_part image (tree_of image other q) h two) in
    let is : first.is ≡ second.is = same_Some _ _ (sym first.here ∙ parts ∙ second.here) in
    place_path (levels_of content) path q (few_levels content) (below_somewhere image (levels_of content) content path at) (below_somewhere image (levels_of other) other q there)
    (below_is_path image (levels_of content) content path at) (subst (λ (ls : List Level). IsPath ls q) (sym levels) (below_is_path image (levels_of other) other q there))
    (same_Some _ _ (sym first.place_is ∙ ap (λ (x : EntryPart). x.place) is ∙ second.place_is) ∙ ap (λ (ls : List Level). place_at ls q) (sym levels))

-- the same below one root
pub one_path : (image : Image) (size owner : ℕ) (content : List ℕ) (root : roots.Root) (o : Object) → IsTree size owner (tree_in image content) root o → (p q : List ℕ) (g h : Held)
    → (tree_in image content).below p ≡ Some g → (tree_in image content).below q ≡ Some h → g.block ≡ h.block → p ≡ q
one_path image size owner content root o fits p q g h one two same = same_path image size owner content content root root o o refl fits fits p q g h one two same

-- all roots have the same levels
pub same_levels : (content other : List ℕ) → levels_of content ≡ levels_of other
unfolding levels_of
same_levels content other = refl

-- ---- the places of nodes and leaves

pub node_place : (content : List ℕ) (n : ℕ) → place_at (levels_of content) (n ∷ []) ≡ Node n
unfolding place_at levels_of
node_place content n = ap Node (omega arith)

pub leaf_place : (content : List ℕ) (n k l : ℕ) → l ≡ leaf_pointers.count * n + k → place_at (levels_of content) (n ∷ k ∷ []) ≡ Leaf l
unfolding place_at levels_of
leaf_place content n k l is = ap Leaf (omega (arith, is))
