-- The tree of an object whose blocks were checked, and what is held and noted of it.
use Rattle.std.proofs.Common.{◌≡◌, ◌≢◌, inl, inr, ℕ, zero, suc, ◌+◌, ◌-◌, ◌*◌, ◌/◌, ◌<◌, true, List, [], ◌∷◌, ◌++◌, length, get_or, Some, refl, sym, ◌∙◌, ap, subst, arith, append-nil, is_some, IsTrue}
use Rattle.cfs_recover.proofs.Words.{AreGood, AreGoodBelow, BelongsTo, Branch, Grows, Held, Image, IsGood, IsGoodLeaf, IsGoodTree, IsNotedIn, IsRootBlock, IsTree, Level, Place, Puid, Root, Walk, block_at, end_of, held, held_is, held_some, holds, leaf_in, leaf_pointers, length-path_to, levels_below, levels_of, node_pointers, object_with, path_to, place_above, place_at, place_from, place_number, pointer, pointers_of, tree_in, leaf_limit, node_levels, width}
use Rattle.cfs_recover.proofs.Trees.{down, end_zero, inside, length-pointers, less_one, place_on}

-- ---- what was checked stays so

pub noted_on : (a b : Walk) → Grows a b → (x : Puid) → IsNotedIn a x → IsNotedIn b x
noted_on a b grows x (inl listed) = inl (grows.listed x listed)
noted_on a b grows x (inr clash) = inr (grows.clash clash)

module _ (image : Image) (owner : ℕ) (root : Root) (a b : Walk) (grows : Grows a b) where
  pub leaf_on : (leaf block : ℕ) → IsGoodLeaf image root a leaf block → IsGoodLeaf image root b leaf block
  leaf_on leaf block good = record {
    within = good.within;
    read = record { filled = good.read.filled; noted = λ index s id slot. noted_on a b grows id (good.read.noted index s id slot) };
  }

  good_on : (height n block : ℕ) → IsGood image owner root a height n block → IsGood image owner root b height n block
  good_on height n block good = record {
    on_disk = good.on_disk;
    owned = good.owned;
    held = grows.held block good.held;
    leads_on = good.leads_on;
    leaf = λ last. leaf_on n block (good.leaf last);
  }

  pub all_on : (height n block : ℕ) → AreGood image owner root a height n block → AreGood image owner root b height n block
  all_on zero n block good = good_on zero n block good
  all_on (suc h) n block good = (good_on (suc h) n block good.0, λ j some. all_on h (n * leaf_pointers.count + j) _ (good.1 j some))

-- all to which pointers lead
pub below_all : (image : Image) (owner : ℕ) (root : Root) (w : Walk) (at : Branch) (level : Level) (content pointers : List ℕ) → pointers ≡ pointers_of level content → AreGoodBelow image owner root w at pointers (length pointers)
    → (k : ℕ) → pointer level content k ≢ 0 → AreGood image owner root w at.height (at.number * level.count + k) (pointer level content k)
below_all image owner root w at level content pointers is all k some =
    let count = length-pointers level content in
    let here = subst (λ (ns : List ℕ). AreGoodBelow image owner root w at ns (length ns)) is all in
    subst (λ (n : ℕ). AreGood image owner root w at.height (at.number * n + k) (pointer level content k)) count (here k (omega (arith, count, inside level content k some)) some)

-- a block and all below it
pub good_with : (image : Image) (owner : ℕ) (root : Root) (w : Walk) (height n block : ℕ) (leaves : List ℕ) → height ≢ 0 → IsGood image owner root w height n block → leaves ≡ pointers_of leaf_pointers (block_at image block)
    → AreGoodBelow image owner root w (record { block = block; number = n; height = height - 1 }) leaves (length leaves) → AreGood image owner root w height n block
good_with image owner root w zero n block leaves more here is below = absurd (more refl)
good_with image owner root w (suc h) n block leaves more here is below =
    (here, λ j some. subst (λ (m : ℕ). AreGood image owner root w m (n * leaf_pointers.count + j) (pointer leaf_pointers (block_at image block) j)) (sym (less_one h)) (below_all image owner root w (record { block = block; number = n; height = suc h - 1 }) leaf_pointers (block_at image block) leaves is below j some))

pub good_leaf : (image : Image) (owner : ℕ) (root : Root) (w : Walk) (height n block : ℕ) → height ≡ 0 → IsGood image owner root w height n block → AreGood image owner root w height n block
good_leaf image owner root w zero n block last here = here
good_leaf image owner root w (suc h) n block last here = absurd (omega arith)

-- ---- what stands below a block that was checked with all below it

module _ (image : Image) (owner : ℕ) (root : Root) (w : Walk) where
  good_itself : (height n block : ℕ) → AreGood image owner root w height n block → IsGood image owner root w height n block
  good_itself zero n block good = good
  good_itself (suc h) n block good = good.0

  -- the block at the end of a path
  pub record IsChecked (height n block : ℕ) (path : List ℕ) : Type 0 where
    pub left : ℕ
    pub number : ℕ
    pub good : IsGood image owner root w left number (end_of image (levels_below height) block path)
    pub place_is : place_from n (levels_below height) path ≡ place_above (levels_below left) number
    pub depth : length path + left ≡ height
    pub next : (j : ℕ) → left ≢ 0 → end_of image (levels_below height) block (path ++ j ∷ []) ≡ pointer leaf_pointers (block_at image (end_of image (levels_below height) block path)) j

  pub checked : (path : List ℕ) (height n block : ℕ) → AreGood image owner root w height n block → end_of image (levels_below height) block path ≢ 0 → IsChecked height n block path
  checked [] height n block all some = record { left = height; number = n; good = good_itself height n block all; place_is = refl; depth = omega arith; next = λ j more. down image height block j [] more some }
  checked (k ∷ path) height n zero all some = absurd (some refl)
  checked (k ∷ path) zero n (suc b) all some = absurd (some refl)
  checked (k ∷ path) (suc h) n (suc b) all some =
      let p = pointer leaf_pointers (block_at image (suc b)) k in
      let there : p ≢ 0 = λ none. some (end_zero image (levels_below h) p path none) in
      let rest = checked path h (n * leaf_pointers.count + k) p (all.1 k there) some in
      record { left = rest.left; number = rest.number; good = rest.good; place_is = rest.place_is; depth = omega (arith, rest.depth); next = rest.next }

number_above : (height n : ℕ) → place_number (Some (place_above (levels_below height) n)) ≡ n
number_above zero n = refl
number_above (suc h) n = refl

leaf_number : (content : List ℕ) (leaf : ℕ) → leaf < width (levels_of content) → place_number (Some (place_at (levels_of content) (path_to (levels_of content) leaf))) ≡ leaf
unfolding levels_of place_at
leaf_number content leaf below =
    ap (λ (ls : List Level). place_number (Some (place_from 0 ls (path_to (levels_of content) leaf)))) (sym (append-nil (levels_of content)))
    ∙ ap (λ (p : Place). place_number (Some p)) (place_on (levels_of content) [] leaf 0 below)
    ∙ (let e : 0 * width (levels_of content) + leaf ≡ leaf = omega arith in e)

-- ---- the tree

module _ (image : Image) (owner from : ℕ) (root : Root) (w : Walk) (spelled : IsRootBlock (block_at image from) root) (nodes : IsGoodTree image owner root w (block_at image from)) where
  abbrev content : List ℕ
  content = block_at image from

  record InTree (path : List ℕ) (h : Held) : Type 0 where
    k : ℕ
    k_small : k < node_pointers.count
    rest : List ℕ
    path_is : path ≡ k ∷ rest
    block_is : h ≡ held image (end_of image (levels_below node_levels) (pointer node_pointers content k) rest)
    its : IsChecked image owner root w node_levels (0 * node_pointers.count + k) (pointer node_pointers content k) rest

  in_tree : (path : List ℕ) (h : Held) → (tree_in image content).below path ≡ Some h → InTree path h
  unfolding levels_of
  in_tree [] h v = cc
  in_tree (k ∷ rest) h v =
      let p = pointer node_pointers content k in
      let at = held_is image (end_of image (levels_below node_levels) p rest) h v in
      let there : p ≢ 0 = λ none. at.1 (end_zero image (levels_below node_levels) p rest none) in
      let small = inside node_pointers content k there in
      record { k = k; k_small = small; rest = rest; path_is = refl; block_is = at.0; its = checked image owner root w rest node_levels (0 * node_pointers.count + k) p (nodes k there) at.1 }

  pub on_disk : (path : List ℕ) (h : Held) → (tree_in image content).below path ≡ Some h → h.block < length image
  on_disk path h v = let at = in_tree path h v in rw at.block_is at.its.good.on_disk

  place_of : (path : List ℕ) (h : Held) (at : InTree path h) → place_at (levels_of content) path ≡ place_above (levels_below at.its.left) at.its.number
  unfolding levels_of place_at
  place_of path h at = ap (place_at (levels_of content)) at.path_is ∙ at.its.place_is

  owned : (path : List ℕ) (h : Held) → (tree_in image content).below path ≡ Some h → BelongsTo owner (place_at (levels_of content) path) h.part
  owned path h v = let at = in_tree path h v in rw (at.block_is, place_of path h at) at.its.good.owned

  -- each of its blocks is held
  pub all_held : (path : List ℕ) (h : Held) → (tree_in image content).below path ≡ Some h → holds w h.block ≡ true
  all_held path h v = let at = in_tree path h v in rw at.block_is at.its.good.held

  -- a held leaf is one that was checked
  pub leaf_checked : (leaf : ℕ) (h : Held) → leaf_in (tree_in image content) leaf ≡ Some h → IsGoodLeaf image root w leaf h.block × (h.content ≡ block_at image h.block)
  unfolding levels_of path_to
  leaf_checked leaf h v =
      let at = in_tree (path_to (levels_of content) leaf) h v in
      let long : length (at.k ∷ at.rest) ≡ length (levels_of content) = sym (ap length at.path_is) ∙ length-path_to (levels_of content) leaf in
      let last : at.its.left ≡ 0 = omega (arith, long, at.its.depth) in
      let first : leaf / width (levels_below node_levels) ≡ at.k = ap (λ (p : List ℕ). get_or p 0 0) at.path_is in
      let below : leaf < leaf_limit = omega (arith, first, at.k_small) in
      let is : at.its.number ≡ leaf =
      sym (number_above at.its.left at.its.number) ∙ ap (λ (p : Place). place_number (Some p)) (sym (place_of _ h at)) ∙ leaf_number content leaf below in
      let block = end_of image (levels_below node_levels) (pointer node_pointers content at.k) at.rest in
      rw at.block_is (subst (λ (l : ℕ). IsGoodLeaf image root w l block) is (at.its.good.leaf last), refl)

  leads_on : (path : List ℕ) (h : Held) → (tree_in image content).below path ≡ Some h → length path < length (levels_of content) → (k : ℕ) × IsTrue (is_some ((tree_in image content).below (path ++ k ∷ [])))
  unfolding levels_of
  leads_on path h v short =
      let at = in_tree path h v in
      let more : at.its.left ≢ 0 = λ none. omega (arith, ap length at.path_is, at.its.depth, none, short) in
      let on = at.its.good.leads_on more in (
        on.0,
        subst (λ (p : List ℕ). IsTrue (is_some ((tree_in image content).below (p ++ on.0 ∷ [])))) (sym at.path_is)
            (held_some image _ (λ none. on.1 (sym (at.its.next on.0 more) ∙ none))),
      )

  pub tree_is : IsTree (length image) owner (tree_in image content) root (object_with root (leaf_in (tree_in image content)))
  tree_is = record {
    spelled = spelled;
    object = refl;
    on_disk = on_disk;
    owned = owned;
    within = λ leaf h v. (leaf_checked leaf h v).0.within;
    filled = λ leaf i h v below past. let at = leaf_checked leaf h v in ap (λ (c : List ℕ). get_or c i 0) at.1 ∙ at.0.read.filled i below past;
    leads_on = leads_on;
  }
