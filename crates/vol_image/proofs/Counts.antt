-- The blocks of an object by the model are the blocks that its tree holds.
use Rattle.std.proofs.Common.{◌≡◌, ◌≢◌, ℕ, zero, suc, ◌+◌, ◌*◌, ◌/◌, ◌%◌, ◌<◌, ◌≤◌, List, [], ◌∷◌, ◌++◌, length, take, Bool, true, Option, refl, sym, ◌∙◌, ap, subst, arith}
use Rattle.vol_image.proofs.Words.{FAN_OUT, Held, Image, Index, IsRoot, IsTree, Kind, Level, Normal, Object, Special, Tree, blocks_held, blocks_of, branches, count_is, div-lt_iff_lt-mul, div-mul-add, filter, has_number, held_at_depth, held_in, held_leaves, held_levels, inner_levels, is_some, leaf_in, leaf_pointers, leaves_in, length-append, levels_held, levels_of, map, mod-mul-add, numbers_rise, object_with, parents, path_to, range_with_len, sum_by, take_all, tree_in, tree_of, width}
use Rattle.block_tree.specs.declared.root.Root.{Root}
use Rattle.vol_image.proofs.Views.{held}
use Rattle.vol_image.proofs.Places.{IsPath, below_is_path}
use Rattle.vol_image.proofs.Paths.{positive, width_more, path_more, digits_below, length-path_to, last_in, below_before, held_some, some_held, held_there}
use Rattle.vol_image.proofs.Rising.{in_numbers, to_numbers, in_filter, to_filter, in_map, to_map, in_withs, to_withs, numbers-rise, filter-rises, with_numbers-rise, same_numbers}

-- ---- what holds of the levels

-- a depth with one level more below it, at which a block leads on to as many as an inner block of the model
record LeadsOn (levels : List Level) (d : ℕ) : Type 0 where
  pub level : Level
  pub rest : List Level
  pub all : levels ≡ take d levels ++ level ∷ rest
  pub one_more : take (suc d) levels ≡ take d levels ++ level ∷ []
  pub inner : 0 < length (take d levels)
  pub fan_out : level.count ≡ FAN_OUT

leads : (content : List ℕ) (d : ℕ) → 0 < d → d < length (levels_of content) → LeadsOn (levels_of content) d
unfolding levels_of
leads content zero inner few = absurd (omega arith)
leads content (suc zero) inner few = record { level = leaf_pointers; rest = []; all = refl; one_more = refl; inner = omega arith; fan_out = refl }
leads content (suc (suc d)) inner few = absurd (omega arith)

depth_is : (content : List ℕ) (o : Object) → length (levels_of content) ≡ suc (inner_levels o)
unfolding levels_of
depth_is content o = refl

-- no size takes more leaves than there are places for
leaves_fit : (content : List ℕ) (root : Root) → IsRoot root → leaves_in root.size ≤ width (levels_of content)
leaves_fit content root is = omega (arith, count_is content, is.size.limit)

-- ---- what a tree holds at each depth

-- a block with this number stands below so many levels
abbrev stands : Tree → List Level → ℕ → Bool
stands tree levels n = is_some (tree.below (path_to levels n))

abbrev held_under : Tree → List Level → List ℕ
held_under tree levels = filter (stands tree levels) (range_with_len 0 (width levels))

to_under : (tree : Tree) (levels : List Level) (n : ℕ) → n < width levels → stands tree levels n ≡ true → has_number n (held_under tree levels) ≡ true
to_under tree levels n less is = to_filter (stands tree levels) n (range_with_len 0 (width levels)) is (to_numbers n 0 (width levels) (omega arith) (omega arith))

in_under : (tree : Tree) (levels : List Level) (n : ℕ) → has_number n (held_under tree levels) ≡ true → (stands tree levels n ≡ true) × (n < width levels)
in_under tree levels n h =
    let two = in_filter (stands tree levels) n (range_with_len 0 (width levels)) h in
    let row = in_numbers n 0 (width levels) two.1 in
    (two.0, omega arith)

under-rises : (tree : Tree) (levels : List Level) → numbers_rise (held_under tree levels) ≡ true
under-rises tree levels = filter-rises (stands tree levels) (range_with_len 0 (width levels)) (numbers-rise 0 (width levels))

-- the leaves that an object holds
held_with : (root : Root) (leaf : ℕ → Option Held) → held_leaves (object_with root leaf) ≡ held_in root leaf
unfolding object_with
held_with root leaf = at root.kind
  where
    at : (kind : Kind) → held_leaves (object_with (record root { kind = kind }) leaf) ≡ held_in root leaf
    at Normal = refl
    at Special = refl
    at Index = refl

module _ (image : Image) (size owner : ℕ) (content : List ℕ) (root : Root) (o : Object) (fits : IsTree size owner (tree_in image content) root o) where
  abbrev tree : Tree
  tree = tree_in image content

  module _ (levels : List Level) (level : Level) (rest : List Level) (all : levels_of content ≡ levels ++ level ∷ rest) (inner : 0 < length levels) (fan_out : level.count ≡ FAN_OUT) where
    -- a block that is held has its parent held
    parent_held : (n : ℕ) → has_number n (held_under tree (levels ++ level ∷ [])) ≡ true → has_number (n / level.count) (held_under tree levels) ≡ true
    parent_held n h =
        let two = in_under tree (levels ++ level ∷ []) n h in
        let less : n < width levels * level.count = omega (arith, width_more levels level) in
        let up = path_to levels (n / level.count) in
        let some : tree_of image content (up ++ n % level.count ∷ []) ≢ 0 = subst (λ (p : List ℕ). tree_of image content p ≢ 0) (path_more levels level n less)
        (some_held image (tree_of image content (path_to (levels ++ level ∷ []) n)) two.0) in
        to_under tree levels (n / level.count) ((div-lt_iff_lt-mul (positive (width levels) level.count n less)).1 less)
        (held_some image (tree_of image content up) (below_before image (levels_of content) content up (n % level.count) (omega (arith, length-path_to levels (n / level.count))) some))

    -- and one that is held leads to one of the next level
    child_held : (x : ℕ) → has_number x (held_under tree levels) ≡ true → (n : ℕ) × (has_number n (held_under tree (levels ++ level ∷ [])) ≡ true) × (n / level.count ≡ x)
    child_held x h =
        let two = in_under tree levels x h in
        let path = path_to levels x in
        let some = some_held image (tree_of image content path) two.0 in
        let long : length path < length (levels_of content) = omega (arith, length-path_to levels x, ap length all, length-append levels (level ∷ rest)) in
        let child = fits.leads_on path (held image (tree_of image content path)) (held_there image (tree_of image content path) some) long in
        let k = child.0 in
        let small : k < level.count = last_in levels level rest path k (length-path_to levels x)
        (subst (λ (l : List Level). IsPath l (path ++ k ∷ [])) all (below_is_path image (levels_of content) content (path ++ k ∷ []) (some_held image (tree_of image content (path ++ k ∷ [])) child.1))) in
        let n = x * level.count + k in
        let up : n / level.count ≡ x = div-mul-add x level.count k small in
        let last : n % level.count ≡ k = mod-mul-add x level.count k small in
        let less : n < width levels * level.count = digits_below x k (width levels) level.count two.1 small in
        let is : path_to (levels ++ level ∷ []) n ≡ path ++ k ∷ [] = path_more levels level n less ∙ λ i. path_to levels (up i) ++ last i ∷ [] in
        (n, to_under tree (levels ++ level ∷ []) n (omega (arith, width_more levels level)) (ap (λ (p : List ℕ). is_some (tree.below p)) is ∙ child.1), up)

    parents_held : held_under tree levels ≡ parents (held_under tree (levels ++ level ∷ []))
    parents_held =
        let next = held_under tree (levels ++ level ∷ []) in
        let up : ℕ → ℕ = λ n. n / FAN_OUT in
        same_numbers (held_under tree levels) (parents next) (under-rises tree levels) (with_numbers-rise (map up next))
        (λ x h. let child = child_held x h in
        to_withs x (map up next) (subst (λ (y : ℕ). has_number y (map up next) ≡ true) (ap (λ (c : ℕ). child.0 / c) (sym fan_out) ∙ child.2) (to_map up child.0 next child.1)))
        (λ x h. let three = in_map up x next (in_withs x (map up next) h) in
        subst (λ (y : ℕ). has_number y (held_under tree levels) ≡ true) (ap (λ (c : ℕ). three.0 / c) fan_out ∙ three.2) (parent_held three.0 three.1))

  -- ---- from the leaves up

  branches_held : (d : ℕ) → d < length (levels_of content) → levels_held tree (suc d) ≡ branches d (held_at_depth tree (suc d))
  branches_held zero some = refl
  branches_held (suc d) some =
      let on = leads content (suc d) (omega arith) some in
      ap (λ (l : List (List ℕ)). held_at_depth tree (suc (suc d)) ∷ l) (branches_held d (omega arith)
      ∙ ap (branches d) (parents_held (take (suc d) (levels_of content)) on.level on.rest on.all on.inner on.fan_out ∙ ap (λ (l : List Level). parents (held_under tree l)) (sym on.one_more)))

  leaves_held : held_leaves o ≡ held_under tree (levels_of content)
  leaves_held = ap held_leaves (sym fits.object) ∙ held_with root (leaf_in tree) ∙
      same_numbers (held_in root (leaf_in tree)) (held_under tree (levels_of content)) (filter-rises leaf (range_with_len 0 (leaves_in root.size)) (numbers-rise 0 (leaves_in root.size))) (under-rises tree (levels_of content))
      (λ x h.
      let two = in_filter leaf x (range_with_len 0 (leaves_in root.size)) h in
      let row = in_numbers x 0 (leaves_in root.size) two.1 in
      to_under tree (levels_of content) x (let room = leaves_fit content root fits.spelled.good.1 in omega arith) two.0)
      (λ x h.
      let two = in_under tree (levels_of content) x h in
      let n = tree_of image content (path_to (levels_of content) x) in
      let less = fits.within x (held image n) (held_there image n (some_held image n two.0)) in
      to_filter leaf x (range_with_len 0 (leaves_in root.size)) two.0 (to_numbers x 0 (leaves_in root.size) (omega arith) (omega arith)))
    where
      leaf : ℕ → Bool
      leaf = stands tree (levels_of content)

  pub blocks_counted : levels_held (tree_in image content) (length (levels_of content)) ≡ held_levels o
  blocks_counted =
      let deep = depth_is content o in
      let whole : take (suc (inner_levels o)) (levels_of content) ≡ levels_of content = take_all (suc (inner_levels o)) (levels_of content) (omega (arith, deep)) in
      ap (levels_held tree) deep ∙ branches_held (inner_levels o) (omega (arith, deep)) ∙ ap (branches (inner_levels o)) (ap (held_under tree) whole ∙ sym leaves_held)

  pub blocks_are : blocks_held (tree_in image content) ≡ blocks_of o
  blocks_are = ap (λ (levels : List (List ℕ)). 1 + sum_by length levels) blocks_counted
