-- What stands at the end of a path of an object's tree is listed among its blocks.
use Rattle.std.proofs.Common.{◌≡◌, ◌≢◌, ℕ, zero, suc, ◌+◌, ◌*◌, ◌/◌, ◌%◌, ◌<◌, List, [], ◌∷◌, ◌++◌, length, get_or, Some, refl, sym, ◌∙◌, ap, subst, arith, append-nil}
use Rattle.std.specs.List.{Contains}
use Rattle.cfs_base.specs.Disk.{Image, block_at}
use Rattle.cfs_base.specs.declared.kind.Place.TheVariants as places
use Rattle.block_tree.specs.Pointers.{Level, leaf_pointers, levels_below, node_levels, node_pointers, pointers_of, width}
use Rattle.block_tree.specs.Tree.{end_of, pointer, tree_of}
unfoldable use Rattle.block_tree.specs.Tree.{levels_of, path_to}
use Rattle.block_tree.specs.declared.root.Root.{Root}
use Rattle.vol_image.proofs.Views.{held, held_is}
use Rattle.vol_image.specs.Fault.{holder, reader, shown_root, shown_tree}
use Rattle.vol_image.specs.Reading.{leaf_in}
use Rattle.vol_image.specs.Seen.{Held, place_above, place_from}
unfoldable use Rattle.vol_image.specs.Seen.{place_at}
use Rattle.cfs_recover.proofs.Trees.{end_zero, inside, place_on}
use Rattle.cfs_check.specs.Twigs.{Twig, extent_of, twigs_of}
use Rattle.cfs_check.proofs.Twigs.{at_listed, holder_from}

-- ---- one place further

-- the last pointer stands in the block before
holder_last : (image : Image) (levels : List Level) (h n : ℕ) (rest : List ℕ) (j : ℕ) → end_of image levels n (rest ++ j ∷ []) ≢ 0 → holder_from image levels h n (rest ++ j ∷ []) ≡ end_of image levels n rest
holder_last image [] h n [] j some = refl
holder_last image (l ∷ ls) h n [] j some = refl
holder_last image [] h zero (i ∷ rest) j some = absurd (some refl)
holder_last image [] h (suc n) (i ∷ rest) j some = absurd (some refl)
holder_last image (l ∷ ls) h zero (i ∷ rest) j some = absurd (some refl)
holder_last image (l ∷ ls) h (suc n) (i ∷ rest) j some = holder_last image ls (suc n) (pointer l (block_at image (suc n)) i) rest j some

-- a node to which a path leads
node_place : (height n : ℕ) (path : List ℕ) → length path < length (levels_below height) → (m : ℕ) × (place_from n (levels_below height) path ≡ places.Node m)
node_place zero n path deep = absurd (omega arith)
node_place (suc h) n [] deep = (n, refl)
node_place (suc h) n (k ∷ path) deep = node_place h (n * leaf_pointers.count + k) path (omega arith)

end_more : (image : Image) (height n : ℕ) (path : List ℕ) (j : ℕ) → length path < length (levels_below height) → end_of image (levels_below height) n path ≢ 0
    → end_of image (levels_below height) n (path ++ j ∷ []) ≡ pointer leaf_pointers (block_at image (end_of image (levels_below height) n path)) j
end_more image zero n path j deep some = absurd (omega arith)
end_more image (suc h) zero [] j deep some = absurd (some refl)
end_more image (suc h) (suc n) [] j deep some = refl
end_more image (suc h) zero (k ∷ path) j deep some = absurd (some refl)
end_more image (suc h) (suc n) (k ∷ path) j deep some = end_more image h (pointer leaf_pointers (block_at image (suc n)) k) path j (omega arith) some

-- ---- the twig at the end of a path

-- it is listed, and is what the path leads to
pub record IsTwigAt (image : Image) (r : ℕ) (root : Root) (t : Twig) (path : List ℕ) : Type 0 where
  pub its : Contains (twigs_of image r root) t
  pub owner : t.spot.owner ≡ r
  pub extent : t.extent ≡ extent_of root
  pub block : t.spot.block ≡ tree_of image (shown_root image r) path
  pub place : t.spot.place ≡ place_at (levels_of (shown_root image r)) path
  pub holder_is : (p : List ℕ) (j : ℕ) → path ≡ p ++ j ∷ [] → t.spot.holder ≡ holder image r p

module _ (image : Image) (r : ℕ) (root : Root) where
  abbrev content : List ℕ
  content = shown_root image r

  holds_it : (k : ℕ) (rest p : List ℕ) (j : ℕ) → tree_of image content (k ∷ rest) ≢ 0 → k ∷ rest ≡ p ++ j ∷ [] → holder_from image (levels_below node_levels) (reader image r) (pointer node_pointers content k) rest ≡ holder image r p
  unfolding levels_of
  holds_it k rest [] j some is =
      let none : rest ≡ [] = cc in
      ap (λ (q : List ℕ). holder_from image (levels_below node_levels) (reader image r) (pointer node_pointers content k) q) none
  holds_it k rest (i ∷ p) j some is =
      let first : k ≡ i = cc in
      let more : rest ≡ p ++ j ∷ [] = cc in
      ap (λ (q : List ℕ). holder_from image (levels_below node_levels) (reader image r) (pointer node_pointers content k) q) more
      ∙ holder_last image (levels_below node_levels) (reader image r) (pointer node_pointers content k) p j (subst (λ (q : List ℕ). end_of image (levels_below node_levels) (pointer node_pointers content k) q ≢ 0) more some)
      ∙ ap (λ (m : ℕ). end_of image (levels_below node_levels) (pointer node_pointers content m) p) first

  pub path_listed : (path : List ℕ) → tree_of image content path ≢ 0 → (t : Twig) × IsTwigAt image r root t path
  unfolding levels_of place_at
  path_listed [] some = absurd (some refl)
  path_listed (k ∷ rest) some =
      let at = at_listed image (record { owner = r; extent = extent_of root }) (levels_below node_levels) (reader image r) 0 (pointers_of node_pointers content) k rest some in (
        at.0,
        record {
          its = at.1;
          owner = at.2.owner;
          extent = at.2.extent;
          block = at.2.block;
          place = at.2.place ∙ ap (λ (n : ℕ). place_from n (levels_below node_levels) rest) (let e : 0 + k ≡ 0 * node_pointers.count + k = omega arith in e);
          holder_is = λ p j is. at.2.holder_is ∙ holds_it k rest p j some is;
        },
      )

  pub held_listed : (path : List ℕ) (h : Held) → (shown_tree image r).below path ≡ Some h → (t : Twig) × IsTwigAt image r root t path × (t.spot.block ≡ h.block) × (block_at image t.spot.block ≡ h.content)
  held_listed path h there =
      let is = held_is image (tree_of image content path) h there in
      let at = path_listed path is.1 in
      (at.0, at.1, at.1.block ∙ sym (ap (λ (k : Held). k.block) is.0), ap (block_at image) at.1.block ∙ sym (ap (λ (k : Held). k.content) is.0))

  -- ---- a leaf

  number_at_leaf : (leaf : ℕ) → leaf < width (levels_of content) → place_at (levels_of content) (path_to (levels_of content) leaf) ≡ places.Leaf leaf
  unfolding levels_of place_at
  number_at_leaf leaf below =
      ap (λ (ls : List Level). place_from 0 ls (path_to (levels_of content) leaf)) (sym (append-nil (levels_of content)))
      ∙ place_on (levels_of content) [] leaf 0 below ∙ ap places.Leaf (let e : 0 * width (levels_of content) + leaf ≡ leaf = omega arith in e)

  leaf_small : (leaf : ℕ) → tree_of image content (path_to (levels_of content) leaf) ≢ 0 → leaf < width (levels_of content)
  unfolding levels_of path_to
  leaf_small leaf some =
      let k = leaf / width (levels_below node_levels) in
      let small : k < node_pointers.count = inside node_pointers content k (λ none. some (end_zero image (levels_below node_levels) (pointer node_pointers content k) (path_to (levels_below node_levels) (leaf % width (levels_below node_levels))) none)) in
      omega (arith, small)

  pub leaf_listed : (leaf : ℕ) (h : Held) → leaf_in (shown_tree image r) leaf ≡ Some h
      → (t : Twig) × IsTwigAt image r root t (path_to (levels_of content) leaf) × (t.spot.block ≡ h.block) × (block_at image t.spot.block ≡ h.content) × (t.spot.place ≡ places.Leaf leaf)
  leaf_listed leaf h there =
      let path = path_to (levels_of content) leaf in
      let at = held_listed path h there in
      (at.0, at.1, at.2, at.3, at.1.place ∙ number_at_leaf leaf (leaf_small leaf (held_is image (tree_of image content path) h there).1))

  -- ---- a node

  pub node_listed : (path : List ℕ) → tree_of image content path ≢ 0 → length path < length (levels_of content) → (t : Twig) × IsTwigAt image r root t path × ((m : ℕ) × (t.spot.place ≡ places.Node m))
  unfolding levels_of place_at
  node_listed [] some deep = absurd (some refl)
  node_listed (k ∷ rest) some deep =
      let at = path_listed (k ∷ rest) some in
      let place = node_place node_levels (0 * node_pointers.count + k) rest (omega (arith, deep)) in
      (at.0, at.1, (place.0, at.1.place ∙ place.1))

  -- its pointers lead one place further
  pub one_more_place : (path : List ℕ) (j : ℕ) → tree_of image content path ≢ 0 → length path < length (levels_of content) → tree_of image content (path ++ j ∷ []) ≡ pointer leaf_pointers (block_at image (tree_of image content path)) j
  unfolding levels_of
  one_more_place [] j some deep = absurd (some refl)
  one_more_place (k ∷ rest) j some deep = end_more image node_levels (pointer node_pointers content k) rest j (omega (arith, deep)) some
