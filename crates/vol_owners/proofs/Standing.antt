-- The blocks that stand in a tree and pass a test, as a list of different numbers.
use Rattle.std.proofs.Common.{◌≡◌, inl, inr, ℕ, zero, suc, ◌+◌, ◌*◌, ◌%◌, ◌<◌, ◌≤◌, List, [], ◌∷◌, ◌++◌, length, take, Bool, true, Option, Some, None, refl, sym, ◌∙◌, ap, subst, arith, length-append}
use Rattle.vol_owners.proofs.Words.{Held, Image, IsPath, IsTree, Level, Object, StandsIn, Tree, below_is_path, cases_lt, digits_below, div-mul-add, filter, filter-rises, fun_ext, has_number, held_at_depth, held_is, in_filter, in_map, in_numbers, is_some, length-map, length-path_to, levels_held, levels_of, levels_standing, map, mod-mul-add, numbers-rise, one_path, or_cases, or_left, or_right, passes, path_to, range_with_len, standing_at, sum_by, sum_by-cons, to_filter, to_map, to_numbers, tree_in, tree_of, width}
use Rattle.block_tree.specs.declared.root.Root.{Root}
use Rattle.vol_owners.proofs.Differ.{Differ, append_differ, has-append, map_differ, rising_differ}

-- ---- each path has a number at its depth

number_of : List Level → List ℕ → ℕ
number_of [] p = 0
number_of (l ∷ ls) [] = 0
number_of (l ∷ ls) (k ∷ p) = k * width ls + number_of ls p

path_again : (levels : List Level) (p : List ℕ) → IsPath levels p → length p ≡ length levels → (number_of levels p < width levels) × (path_to levels (number_of levels p) ≡ p)
unfolding path_to number_of
path_again [] [] is long = (omega arith, refl)
path_again [] (k ∷ p) is long = absurd is
path_again (l ∷ ls) [] is long = absurd (omega arith)
path_again (l ∷ ls) (k ∷ p) is long =
    let rest = path_again ls p is.1 (omega arith) in
    let first = div-mul-add k (width ls) (number_of ls p) rest.0 in
    let last = ap (path_to ls) (mod-mul-add k (width ls) (number_of ls p) rest.0) ∙ rest.1 in
    (digits_below k (number_of ls p) l.count (width ls) is.0 rest.0, λ i. first i ∷ last i)

number_again : (levels : List Level) (n : ℕ) → n < width levels → number_of levels (path_to levels n) ≡ n
unfolding path_to number_of
number_again [] n less = omega arith
number_again (l ∷ ls) n less = elim (cases_lt 0 (width ls)) [
  | inl some ↦ let rest = number_again ls (n % width ls) (omega arith) in omega (arith, rest)
  | inr none ↦ let zero_is : width ls ≡ 0 = omega arith in absurd (let no : n < l.count * 0 = subst (λ (w : ℕ). n < l.count * w) zero_is less in omega arith)
]

-- the levels of a path of this length
path_taken : (levels : List Level) (p : List ℕ) → IsPath levels p → IsPath (take (length p) levels) p × (length (take (length p) levels) ≡ length p)
path_taken levels [] is = (tt, refl)
path_taken [] (k ∷ p) is = absurd is
path_taken (l ∷ ls) (k ∷ p) is = let rest = path_taken ls p is.1 in ((is.0, rest.0), omega (arith, rest.1))

path_short : (levels : List Level) (p : List ℕ) → IsPath levels p → length p ≤ length levels
path_short [] [] is = omega arith
path_short (l ∷ ls) [] is = omega arith
path_short [] (k ∷ p) is = absurd is
path_short (l ∷ ls) (k ∷ p) is = let rest = path_short ls p is.1 in omega arith

length-take_few : (d : ℕ) (levels : List Level) → d ≤ length levels → length (take d levels) ≡ d
length-take_few zero levels few = refl
length-take_few (suc d) [] few = absurd (omega arith)
length-take_few (suc d) (l ∷ ls) few = let rest = length-take_few d ls (omega arith) in omega (arith, rest)

-- ---- the blocks, level by level

abbrev block_in : Option Held → ℕ
block_in None = 0
block_in (Some h) = h.block

abbrev blocks_at : (ℕ → Bool) → Tree → ℕ → List ℕ
blocks_at test tree d = map (λ k. block_in (tree.below (path_to (take d (levels_of tree.root)) k))) (standing_at test tree d)

abbrev pub blocks_down : (ℕ → Bool) → Tree → ℕ → List ℕ
blocks_down test tree zero = []
blocks_down test tree (suc d) = blocks_at test tree (suc d) ++ blocks_down test tree d

pub length-down : (test : ℕ → Bool) (tree : Tree) (d : ℕ) → length (blocks_down test tree d) ≡ sum_by length (levels_standing test tree d)
length-down test tree zero = refl
length-down test tree (suc d) =
    omega (
      arith,
      length-append (blocks_at test tree (suc d)) (blocks_down test tree d),
      length-map (standing_at test tree (suc d)) (λ k. block_in (tree.below (path_to (take (suc d) (levels_of tree.root)) k))),
      length-down test tree d,
      sum_by-cons (length {A = ℕ}) (standing_at test tree (suc d)) (levels_standing test tree d),
    )

-- with no test these are the levels that are held
pub levels_all : (tree : Tree) (d : ℕ) → levels_standing (λ n. true) tree d ≡ levels_held tree d
levels_all tree zero = refl
levels_all tree (suc d) =
    let same : standing_at (λ n. true) tree (suc d) ≡ held_at_depth tree (suc d) =
    ap (λ (P : ℕ → Bool). filter P (range_with_len 0 (width (take (suc d) (levels_of tree.root))))) (fun_ext (λ k. any (tree.below (path_to (take (suc d) (levels_of tree.root)) k)))) in
    λ i. same i ∷ levels_all tree d i
  where
    any : (o : Option Held) → passes (λ n. true) o ≡ is_some o
    any None = refl
    any (Some h) = refl

-- a block that passes the test, at a path of this length
record StandsAt (test : ℕ → Bool) (tree : Tree) (d n : ℕ) : Type 0 where
  stands : StandsIn tree n
  passed : test n ≡ true
  deep : length stands.path ≡ d

module _ (image : Image) (size owner : ℕ) (content : List ℕ) (root : Root) (o : Object) (fits : IsTree size owner (tree_in image content) root o) (test : ℕ → Bool) where
  abbrev tree : Tree
  tree = tree_in image content

  abbrev path : ℕ → ℕ → List ℕ
  path d k = path_to (take d (levels_of content)) k

  held_path : (p : List ℕ) (h : Held) → tree.below p ≡ Some h → IsPath (levels_of content) p
  held_path p h there = below_is_path image (levels_of content) content p (held_is image (tree_of image content p) h there).1

  -- a number that is listed at a depth
  record IsListed (d k : ℕ) : Type 0 where
    here : Held
    there : tree.below (path d k) ≡ Some here
    passed : test here.block ≡ true
    below_width : k < width (take d (levels_of content))

  listed : (d k : ℕ) → has_number k (standing_at test tree d) ≡ true → IsListed d k
  listed d k h =
      let two = in_filter (λ k. passes test (tree.below (path d k))) k (range_with_len 0 (width (take d (levels_of content)))) h in
      let row = in_numbers k 0 (width (take d (levels_of content))) two.1 in
      at (tree.below (path d k)) refl two.0 (omega arith)
    where
      at : (found : Option Held) → tree.below (path d k) ≡ found → passes test found ≡ true → k < width (take d (levels_of content)) → IsListed d k
      at None is q less = cc
      at (Some x) is q less = record { here = x; there = is; passed = q; below_width = less }

  at_depth : (d n : ℕ) → d ≤ length (levels_of content) → has_number n (blocks_at test tree d) ≡ true → StandsAt test tree d n
  at_depth d n few h =
      let from = in_map (λ k. block_in (tree.below (path d k))) n (standing_at test tree d) h in
      let is = listed d from.0 from.1 in
      let same : is.here.block ≡ n = sym (ap block_in is.there) ∙ from.2 in
      record {
        stands = record { path = path d from.0; held = is.here; there = is.there; is = same };
        passed = subst (λ (m : ℕ). test m ≡ true) same is.passed;
        deep = length-path_to (take d (levels_of content)) from.0 ∙ length-take_few d (levels_of content) few;
      }

  to_depth : (d n : ℕ) → StandsAt test tree d n → has_number n (blocks_at test tree d) ≡ true
  to_depth d n s =
      let p = s.stands.path in
      let taken = path_taken (levels_of content) p (held_path p s.stands.held s.stands.there) in
      let here : IsPath (take d (levels_of content)) p = subst (λ (k : ℕ). IsPath (take k (levels_of content)) p) s.deep taken.0 in
      let again = path_again (take d (levels_of content)) p here (sym taken.1 ∙ ap (λ (k : ℕ). length (take k (levels_of content))) s.deep) in
      let k = number_of (take d (levels_of content)) p in
      let found : tree.below (path d k) ≡ Some s.stands.held = ap tree.below again.1 ∙ s.stands.there in
      let passed : passes test (tree.below (path d k)) ≡ true = ap (passes test) found ∙ ap test s.stands.is ∙ s.passed in
      subst (λ (m : ℕ). has_number m (blocks_at test tree d) ≡ true) (ap block_in found ∙ s.stands.is)
      (to_map (λ k. block_in (tree.below (path d k))) k (standing_at test tree d)
      (to_filter (λ k. passes test (tree.below (path d k))) k (range_with_len 0 (width (take d (levels_of content)))) passed (to_numbers k 0 (width (take d (levels_of content))) (omega arith) (omega (arith, again.0)))))

  in_down : (d n : ℕ) → d ≤ length (levels_of content) → has_number n (blocks_down test tree d) ≡ true → (k : ℕ) × (k ≤ d) × StandsAt test tree k n
  in_down zero n few h = cc
  in_down (suc d) n few h = elim (or_cases _ _ (sym (has-append n (blocks_at test tree (suc d)) (blocks_down test tree d)) ∙ h)) [
    | inl here ↦ (suc d, omega arith, at_depth (suc d) n few here)
    | inr lower ↦ let rest = in_down d n (omega arith) lower in (rest.0, omega (arith, rest.1), rest.2)
  ]

  to_down : (d k n : ℕ) → 0 < k → k ≤ d → StandsAt test tree k n → has_number n (blocks_down test tree d) ≡ true
  to_down zero k n some low s = absurd (omega arith)
  to_down (suc d) k n some low s = has-append n (blocks_at test tree (suc d)) (blocks_down test tree d) ∙ elim (cases_lt k (suc d)) [
    | inl less ↦ or_right _ _ (to_down d k n some (omega arith) s)
    | inr more ↦ or_left _ _ (to_depth (suc d) n (subst (λ (j : ℕ). StandsAt test tree j n) (omega arith) s))
  ]

  -- what stands at two paths stands at one
  one_stand : (d k n : ℕ) → StandsAt test tree d n → StandsAt test tree k n → d ≡ k
  one_stand d k n s t =
      sym s.deep ∙ ap (length {A = ℕ}) (one_path image size owner content root o fits s.stands.path t.stands.path s.stands.held t.stands.held s.stands.there t.stands.there (s.stands.is ∙ sym t.stands.is)) ∙ t.deep

  down_differ : (d : ℕ) → d ≤ length (levels_of content) → Differ (blocks_down test tree d)
  down_differ zero few = tt
  down_differ (suc d) few =
      append_differ (blocks_at test tree (suc d)) (blocks_down test tree d)
      (map_differ (λ k. block_in (tree.below (path (suc d) k))) (standing_at test tree (suc d))
      (rising_differ (standing_at test tree (suc d)) (filter-rises (λ k. passes test (tree.below (path (suc d) k))) (range_with_len 0 (width (take (suc d) (levels_of content)))) (numbers-rise 0 (width (take (suc d) (levels_of content)))))) names)
      (down_differ d (omega arith))
      (λ n here lower. let rest = in_down d n (omega arith) lower in let same = one_stand (suc d) rest.0 n (at_depth (suc d) n few here) rest.2 in omega (arith, same, rest.1))
    where
      names : (m n : ℕ) → has_number m (standing_at test tree (suc d)) ≡ true → has_number n (standing_at test tree (suc d)) ≡ true → block_in (tree.below (path (suc d) m)) ≡ block_in (tree.below (path (suc d) n)) → m ≡ n
      names m n hm hn same =
          let one = listed (suc d) m hm in
          let two = listed (suc d) n hn in
          let paths = one_path image size owner content root o fits (path (suc d) m) (path (suc d) n) one.here two.here one.there two.there (sym (ap block_in one.there) ∙ same ∙ ap block_in two.there) in
          sym (number_again (take (suc d) (levels_of content)) m one.below_width) ∙ ap (number_of (take (suc d) (levels_of content))) paths ∙ number_again (take (suc d) (levels_of content)) n two.below_width

  -- ---- the whole tree

  abbrev pub blocks_standing : List ℕ
  blocks_standing = blocks_down test tree (length (levels_of content))

  pub standing_differ : Differ blocks_standing
  standing_differ = down_differ (length (levels_of content)) (omega arith)

  pub standing_is : (n : ℕ) → has_number n blocks_standing ≡ true → StandsIn tree n × (test n ≡ true)
  standing_is n h = let is = in_down (length (levels_of content)) n (omega arith) h in (is.2.stands, is.2.passed)

  pub is_standing : (n : ℕ) → StandsIn tree n → test n ≡ true → has_number n blocks_standing ≡ true
  is_standing n s passed =
      to_down (length (levels_of content)) (length s.path) n (somewhere s.path s.there) (path_short (levels_of content) s.path (held_path s.path s.held s.there)) (record { stands = s; passed = passed; deep = refl })
    where
      somewhere : (p : List ℕ) → tree.below p ≡ Some s.held → 0 < length p
      somewhere [] none = cc
      somewhere (k ∷ p) there = omega arith
