-- What is read of an object, counted block by block and by the model.
use Rattle.std.proofs.Common.{◌≡◌, ◌≢◌, ℕ, zero, suc, ◌+◌, ◌-◌, ◌*◌, ◌/◌, ◌%◌, ◌<◌, ◌≤◌, ◌&&◌, Bool, true, false, cond, count_by, List, [], ◌∷◌, length, get_or, refl, sym, ◌∙◌, ap, arith, is_some}
use Rattle.cfs_recover.proofs.Words.{Ghosts, Image, IsTree, Object, OnlyReads, Root, Tree, add-mul, block_at, div-mul-add, end_of, filter, fun_ext, leaf_in, leaf_pointers, levels_of, mod-mul-add, node_levels, node_pointers, object_kind, one_of, path_to, pointer, pointers_of, range_with_len, reads_then, run-suc, run_same, sum_both, sum_by, sum_by-cons, sum_run, tree_in}
use Rattle.vol_owners.proofs.Sums.{run_none, run_split}
use Rattle.leaf_changes.proofs.Given.{size_is}
use Rattle.std.proofs.lemmas.List.Sums.{length-filter}
use Rattle.ufs_model.specs.Object.{held_leaves, held_levels, held_nodes, size_of}
use Rattle.vol_image.proofs.Counts.{blocks_counted}
use Rattle.vol_image.specs.Count.{levels_held}
use Rattle.vol_image.specs.Seen.{held_at}
use Rattle.cfs_recover.specs.Reads.{is_leaf_read, leaves_read, reads_below, reads_if, reads_wanted, reads_of_leaf, reads_through}
use Rattle.cfs_recover.proofs.Taking.{kind_is}
use Rattle.cfs_recover.proofs.Trees.{length-pointers, less_one}

-- ---- runs

-- one more at the end
pub run_last : (f : ℕ → ℕ) (n : ℕ) → sum_run f 0 (n + 1) ≡ sum_run f 0 n + f n
run_last f n =
    let at : 0 + n ≡ n = omega arith in
    omega (arith, run_split f 0 n 1, run-suc f (0 + n) 0, ap f at)

pub run_within : (f : ℕ → ℕ) (n m : ℕ) → n ≤ m → sum_run f 0 n ≤ sum_run f 0 m
run_within f zero m le = omega arith
run_within f (suc n) zero le = absurd (omega arith)
run_within f (suc n) (suc m) le =
    let more : suc n + (m - n) ≡ suc m = omega arith in
    omega (arith, run_split f 0 (suc n) (m - n), ap (λ (k : ℕ). sum_run f 0 k) more)

run_moved : (f : ℕ → ℕ) (c from n : ℕ) → sum_run (λ j. f (c + j)) from n ≡ sum_run f (c + from) n
run_moved f c from zero = refl
run_moved f c from (suc n) =
    let next : c + (from + 1) ≡ c + from + 1 = omega arith in
    omega (arith, run-suc (λ j. f (c + j)) from n, run-suc f (c + from) n, run_moved f c (from + 1) n, ap (λ (k : ℕ). sum_run f k n) next)

-- a run of runs
run_of_runs : (f : ℕ → ℕ) (b from n : ℕ) → sum_run (λ k. sum_run (λ j. f (k * b + j)) 0 b) from n ≡ sum_run f (from * b) (n * b)
run_of_runs f b from zero = let none : 0 ≡ 0 * b = omega arith in ap (λ (n : ℕ). sum_run f (from * b) n) none
run_of_runs f b from (suc n) =
    let first : from * b + 0 ≡ from * b = omega arith in
    let next : (from + 1) * b ≡ from * b + b = omega (arith, add-mul from 1 b) in
    let more : b + n * b ≡ suc n * b = omega (arith, add-mul 1 n b) in
    omega (
      arith,
      run-suc (λ k. sum_run (λ j. f (k * b + j)) 0 b) from n,
      run_moved f (from * b) 0 b,
      ap (λ (k : ℕ). sum_run f k b) first,
      run_of_runs f b (from + 1) n,
      ap (λ (k : ℕ). sum_run f k (n * b)) next,
      run_split f (from * b) b (n * b),
      ap (λ (k : ℕ). sum_run f (from * b) k) more,
    )

two_more : (a b : ℕ) → 2 + (a + b) ≡ 2 + a + b
two_more a b = omega arith

-- those of a filtered list that pass another test
count_filter : (p q : ℕ → Bool) (xs : List ℕ) → count_by p (filter q xs) ≡ sum_by (λ x. one_of (q x && p x)) xs
count_filter p q [] = refl
count_filter p q (x ∷ xs) = at (q x) refl (count_filter p q xs)
  where
    both : ℕ → ℕ
    both y = one_of (q y && p y)

    at : (b : Bool) → q x ≡ b → count_by p (filter q xs) ≡ sum_by both xs → count_by p (filter q (x ∷ xs)) ≡ sum_by both (x ∷ xs)
    at true is rest =
        let kept : filter q (x ∷ xs) ≡ x ∷ filter q xs = ap (λ (b : Bool). cond b (x ∷ filter q xs) (filter q xs)) is in
        ap (count_by p) kept ∙ sum_by-cons (λ (y : ℕ). one_of (p y)) x (filter q xs) ∙ ap (λ (n : ℕ). one_of (p x) + n) rest
        ∙ ap (λ (b : Bool). one_of (b && p x) + sum_by both xs) (sym is) ∙ sym (sum_by-cons both x xs)
    at false is rest =
        let gone : filter q (x ∷ xs) ≡ filter q xs = ap (λ (b : Bool). cond b (x ∷ filter q xs) (filter q xs)) is in
        let none : sum_by both xs ≡ 0 + sum_by both xs = omega arith in
        ap (count_by p) gone ∙ rest ∙ none ∙ ap (λ (b : Bool). one_of (b && p x) + sum_by both xs) (sym is) ∙ sym (sum_by-cons both x xs)

-- ---- the blocks to which pointers lead, one after another

abbrev pub one_pointer : (ℕ → ℕ → ℕ) → ℕ → List ℕ → ℕ → ℕ
one_pointer reads first pointers k = reads_if (get_or pointers k 0) (reads (first + k) (get_or pointers k 0))

pub if_some : (n r : ℕ) → n ≢ 0 → reads_if n r ≡ r
if_some zero r some = absurd (some refl)
if_some (suc n) r some = refl

-- one more that leads to a block, or nowhere, among all
pub with_one : (reads : ℕ → ℕ → ℕ) (first : ℕ) (pointers : List ℕ) (k : ℕ) → get_or pointers k 0 ≢ 0
    → sum_run (one_pointer reads first pointers) 0 k + reads (first + k) (get_or pointers k 0) ≤ sum_run (one_pointer reads first pointers) 0 (k + 1)
with_one reads first pointers k some =
    omega (arith, run_last (one_pointer reads first pointers) k, if_some (get_or pointers k 0) (reads (first + k) (get_or pointers k 0)) some)

pub with_one_of : (reads : ℕ → ℕ → ℕ) (first : ℕ) (pointers : List ℕ) (k : ℕ) → k < length pointers → get_or pointers k 0 ≢ 0
    → sum_run (one_pointer reads first pointers) 0 k + reads (first + k) (get_or pointers k 0) ≤ reads_through reads first pointers
with_one_of reads first pointers k small some =
    omega (arith, with_one reads first pointers k some, run_within (one_pointer reads first pointers) (k + 1) (length pointers) (omega arith))

pub below_leaf : (image : Image) (root : Root) (h n b : ℕ) → h ≡ 0 → reads_of_leaf root n ≤ reads_below image root h n b
below_leaf image root zero n b last = omega arith
below_leaf image root (suc h) n b last = absurd (omega arith)

below_node : (image : Image) (root : Root) (h n b : ℕ) → h ≢ 0
    → reads_below image root h n b ≡ 1 + reads_through (reads_below image root (h - 1)) (n * leaf_pointers.count) (pointers_of leaf_pointers (block_at image b))
below_node image root zero n b more = absurd (more refl)
below_node image root (suc h) n b more = ap (λ (m : ℕ). 1 + reads_through (reads_below image root m) (n * leaf_pointers.count) (pointers_of leaf_pointers (block_at image b))) (less_one h)

pub below_some : (image : Image) (root : Root) (h n b : ℕ) → h ≢ 0 → 1 ≤ reads_below image root h n b
below_some image root h n b more = omega (arith, below_node image root h n b more)

-- a node, and then all to which it leads
pub node_then : {D : Type 0} (g : Ghosts D) (old mid new : D) (image : Image) (root : Root) (h n b : ℕ) (leaves : List ℕ) → h ≢ 0 → leaves ≡ pointers_of leaf_pointers (block_at image b)
    → OnlyReads g 1 old mid → OnlyReads g (reads_through (reads_below image root (h - 1)) (n * length leaves) leaves) mid new → OnlyReads g (reads_below image root h n b) old new
node_then g old mid new image root h n b leaves more are one two =
    let reads : ℕ → ℕ → ℕ = reads_below image root (h - 1) in
    let all = ap (λ (ls : List ℕ). reads_through reads (n * length ls) ls) are ∙ ap (λ (c : ℕ). reads_through reads (n * c) (pointers_of leaf_pointers (block_at image b))) (length-pointers leaf_pointers (block_at image b)) in
    reads_then g old mid new 1 (reads_through reads (n * length leaves) leaves) (reads_below image root h n b) one two (omega (arith, all, below_node image root h n b more))

-- ---- an object

module _ (image : Image) (owner : ℕ) (content : List ℕ) (root : Root) (o : Object) (fits : IsTree (length image) owner (tree_in image content) root o) where
  abbrev tree : Tree
  tree = tree_in image content

  abbrev node : ℕ → ℕ
  node k = pointer node_pointers content k

  abbrev leaf : ℕ → ℕ → ℕ
  leaf n j = pointer leaf_pointers (block_at image n) j

  abbrev is_read : ℕ → Bool
  is_read l = is_leaf_read root.kind root.size l

  abbrev node_held : ℕ → Bool
  node_held n = is_some (tree.below (path_to (node_pointers ∷ []) n))

  abbrev leaf_held : ℕ → Bool
  leaf_held n = is_some (tree.below (path_to (levels_of content) n))

  abbrev one_read : ℕ → ℕ
  one_read l = one_of (leaf_held l && is_read l)

  -- ---- block by block

  path_node : (k : ℕ) → path_to (node_pointers ∷ []) k ≡ k ∷ []
  unfolding path_to
  path_node k = let is : k / 1 ≡ k = omega arith in ap (λ (n : ℕ). n ∷ []) is

  path_leaf : (k j : ℕ) → j < leaf_pointers.count → path_to (levels_of content) (k * leaf_pointers.count + j) ≡ k ∷ j ∷ []
  unfolding path_to levels_of
  path_leaf k j small =
      let first = div-mul-add k leaf_pointers.count j small in
      let last : (k * leaf_pointers.count + j) % leaf_pointers.count / 1 ≡ j = omega (arith, mod-mul-add k leaf_pointers.count j small) in
      λ i. first i ∷ last i ∷ []

  one : (n : ℕ) (r : Bool) → reads_if n (cond r 1 0) ≡ one_of (is_some (held_at image n) && r)
  one zero r = refl
  one (suc n) true = refl
  one (suc n) false = refl

  at_node : (k : ℕ) → node_held k ≡ is_some (held_at image (node k))
  unfolding levels_of
  at_node k = ap (λ (path : List ℕ). is_some (tree.below path)) (path_node k)

  at_leaf : (k j : ℕ) → j < leaf_pointers.count → leaf_held (k * leaf_pointers.count + j) ≡ is_some (held_at image (end_of image (leaf_pointers ∷ []) (node k) (j ∷ [])))
  unfolding levels_of
  at_leaf k j small = ap (λ (path : List ℕ). is_some (tree.below path)) (path_leaf k j small)

  module _ (first : ℕ) (from : first ≡ 0) where
    step : (k n : ℕ) → node k ≡ n → reads_if n (reads_below image root 1 (first + k) n) ≡ one_of (node_held k) + sum_run (λ j. one_read (k * leaf_pointers.count + j)) 0 leaf_pointers.count
    step k zero is =
        let none = run_none (λ j. one_read (k * leaf_pointers.count + j)) 0 leaf_pointers.count (λ j from small.
        ap (λ (b : Bool). one_of (b && is_read (k * leaf_pointers.count + j))) (at_leaf k j (omega arith) ∙ ap (λ (m : ℕ). is_some (held_at image (end_of image (leaf_pointers ∷ []) m (j ∷ [])))) is)) in
        omega (arith, none, ap one_of (at_node k ∙ ap (λ (m : ℕ). is_some (held_at image m)) is))
    step k (suc b) is =
        let f : ℕ → ℕ = λ j. reads_if (leaf (suc b) j) (reads_of_leaf root ((first + k) * leaf_pointers.count + j)) in
        let count = length-pointers leaf_pointers (block_at image (suc b)) in
        let each = run_same f (λ j. one_read (k * leaf_pointers.count + j)) 0 leaf_pointers.count (λ j low small.
        let l : (first + k) * leaf_pointers.count + j ≡ k * leaf_pointers.count + j = omega (arith, from) in
        ap (λ (m : ℕ). f_at (suc b) j m) l ∙ one (leaf (suc b) j) (is_read (k * leaf_pointers.count + j))
        ∙ ap (λ (c : Bool). one_of (c && is_read (k * leaf_pointers.count + j))) (sym (at_leaf k j (omega arith) ∙ ap (λ (m : ℕ). is_some (held_at image (end_of image (leaf_pointers ∷ []) m (j ∷ [])))) is))) in
        omega (arith, ap (λ (c : ℕ). sum_run f 0 c) count, each, ap one_of (at_node k ∙ ap (λ (m : ℕ). is_some (held_at image m)) is))
      where
        f_at : ℕ → ℕ → ℕ → ℕ
        f_at n j m = reads_if (leaf n j) (reads_of_leaf root m)

    all_nodes : reads_through (reads_below image root 1) first (pointers_of node_pointers content) ≡ sum_run (λ k. one_of (node_held k)) 0 node_pointers.count + sum_run one_read 0 (node_pointers.count * leaf_pointers.count)
    all_nodes =
        let f : ℕ → ℕ = λ k. reads_if (node k) (reads_below image root 1 (first + k) (node k)) in
        let a : ℕ → ℕ = λ k. one_of (node_held k) in
        let b : ℕ → ℕ = λ k. sum_run (λ j. one_read (k * leaf_pointers.count + j)) 0 leaf_pointers.count in
        let each = run_same f (λ k. a k + b k) 0 node_pointers.count (λ k low small. step k (node k) refl) in
        ap (λ (n : ℕ). sum_run f 0 n) (length-pointers node_pointers content) ∙ each ∙ sum_both a b (range_with_len 0 node_pointers.count)
        ∙ ap (λ (n : ℕ). sum_run a 0 node_pointers.count + n) (run_of_runs one_read leaf_pointers.count 0 node_pointers.count)

  -- ---- by the model

  depths : levels_held tree 2 ≡ held_levels o
  unfolding levels_of
  depths = blocks_counted image (length image) owner content root o fits

  nodes_counted : length (held_nodes o) ≡ sum_run (λ k. one_of (node_held k)) 0 node_pointers.count
  unfolding levels_of
  nodes_counted = ap (λ (ls : List (List ℕ)). length (get_or ls 1 [])) (sym depths) ∙ length-filter node_held (range_with_len 0 node_pointers.count)

  test_is : (l : ℕ) → is_leaf_read (object_kind o) (size_of o) l ≡ is_read l
  test_is l = λ i. is_leaf_read (kind i) (size i) l
    where
      kind : object_kind o ≡ root.kind
      kind = ap object_kind (sym fits.object) ∙ kind_is root (leaf_in tree)

      size : size_of o ≡ root.size
      size = ap size_of (sym fits.object) ∙ size_is root (leaf_in tree) (λ index. (fits.spelled.good.1.size.slots index).1)

  leaves_counted : length (leaves_read o) ≡ sum_run one_read 0 (node_pointers.count * leaf_pointers.count)
  unfolding levels_of
  leaves_counted =
      ap (λ (p : ℕ → Bool). length (filter p (held_leaves o))) (fun_ext test_is)
      ∙ ap (λ (ls : List (List ℕ)). length (filter is_read (get_or ls 0 []))) (sym depths)
      ∙ length-filter is_read (filter leaf_held (range_with_len 0 (node_pointers.count * leaf_pointers.count)))
      ∙ count_filter is_read leaf_held (range_with_len 0 (node_pointers.count * leaf_pointers.count))

  pub object_counted : (nodes : List ℕ) → nodes ≡ pointers_of node_pointers content → 2 + reads_through (reads_below image root node_levels) (0 * length nodes) nodes ≡ reads_wanted o
  object_counted nodes are =
      let first : 0 * length nodes ≡ 0 = omega arith in
      let below = ap (λ (ns : List ℕ). reads_through (reads_below image root node_levels) (0 * length nodes) ns) are ∙ all_nodes (0 * length nodes) first ∙ (λ i. sym nodes_counted i + sym leaves_counted i) in
      ap (λ (n : ℕ). 2 + n) below ∙ two_more (length (held_nodes o)) (length (leaves_read o))
