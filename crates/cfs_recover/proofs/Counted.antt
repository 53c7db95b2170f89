-- How many blocks a graph's objects have, and how many are left beside them.
use Rattle.std.proofs.Common.{◌≡◌, ◌⊎◌, inl, inr, ℕ, zero, suc, ◌+◌, ◌*◌, ◌/◌, ◌<◌, Bool, true, false, not, ◌&&◌, ◌==◌, List, [], ◌∷◌, length, get_or, count_by, Some, refl, sym, ◌∙◌, ap, subst, arith}
use Rattle.cfs_recover.proofs.Words.{Graph, Holds, Image, IsIn, IsKeptBlock, LeavesBlocks, Object, Puid, StandsIn, and_from, and_parts, below_apart, block_at, block_there, blocks_are, blocks_of, count_in, count_owned, count_with_tree, entry_in, eq-eqb, eqb-true, fixed_count, fixed_one, graph_blocks, has_block, in_image, is_fixed, levels_all, levels_of, object_at, one_of, owned_sum_by, owner_of, range_with_len, rises, root_placed, run-suc, run_ones, run_same, same_block, sight, source, source_tree, sum_both, sum_by, sum_by-cons, sum_each, sum_objects, sum_run, taken_apart, tree_in, tree_placed}
use Rattle.ufs_model.specs.Graph.{ids_of}

-- ---- marks

shift : (p : ℕ → Bool) (from n : ℕ) → sum_run (λ m. one_of (p m)) (from + 1) n ≡ sum_run (λ m. one_of (p (suc m))) from n
shift p from zero = refl
shift p from (suc n) =
    let next : from + 1 ≡ suc from = omega arith in
    omega (arith, run-suc (λ m. one_of (p m)) (from + 1) n, run-suc (λ m. one_of (p (suc m))) from n, shift p (from + 1) n, ap (λ (m : ℕ). one_of (p m)) next)

pub marks_count : (p : Bool → Bool) (hs : List Bool) → count_by p hs ≡ count_in (λ n. p (get_or hs n false)) 0 (length hs)
marks_count p [] = refl
marks_count p (h ∷ hs) =
    let q : ℕ → Bool = λ n. p (get_or (h ∷ hs) n false) in
    omega (arith, sum_by-cons (λ (b : Bool). one_of (p b)) h hs, run-suc (λ n. one_of (q n)) 0 (length hs), shift q 0 (length hs), marks_count p hs)

-- ---- marks of exactly what the objects of a graph have

module _ (image : Image) (g : Graph) (has : Holds image g) (up : rises (ids_of g) ≡ true) (marked : ℕ → Bool) (only : (n : ℕ) → marked n ≡ true → IsIn image g n) (all : (n : ℕ) → IsIn image g n → marked n ≡ true) where
  owner_here : (id : Puid) (o : Object) → object_at g id ≡ Some o → (n : ℕ) → (n ≡ id.block) ⊎ StandsIn (source_tree image id.block) n → owner_of (entry_in image n) ≡ id.block
  unfolding sight
  owner_here id o at n (inl is) =
      let root = root_placed image (length image) id o (has.objects id o at) in
      ap (λ (m : ℕ). owner_of (entry_in image m)) is ∙ ap owner_of root.taken.here ∙ root.taken.owned
  owner_here id o at n (inr s) =
      let reads = has.objects id o at in
      let inner = tree_placed image (length image) id.block (block_at image (source image id.block)) reads.source o reads.tree s.path s.held s.there in
      ap (λ (m : ℕ). owner_of (entry_in image m)) (sym s.is) ∙ ap owner_of inner.taken.here ∙ inner.taken.owned

  module _ (id : Puid) (o : Object) (at : object_at g id ≡ Some o) where
    abbrev test : ℕ → Bool
    test n = marked n && (id.block == owner_of (entry_in image n))

    passes : (n : ℕ) → (n ≡ id.block) ⊎ StandsIn (source_tree image id.block) n → test n ≡ true
    passes n here =
        and_from (marked n) (id.block == owner_of (entry_in image n))
        (all n (record { id = id; object = o; there = at; here = here }))
        (eq-eqb id.block (owner_of (entry_in image n)) (sym (owner_here id o at n here)))

    its_own : (n : ℕ) → test n ≡ true → (n ≡ id.block) ⊎ (StandsIn (source_tree image id.block) n × (true ≡ true))
    its_own n is =
        let two = and_parts (marked n) (id.block == owner_of (entry_in image n)) is in
        let found = only n two.0 in
        let block : found.id.block ≡ id.block = sym (owner_here found.id found.object found.there n found.here) ∙ sym (eqb-true id.block (owner_of (entry_in image n)) two.1) in
        let same = same_block image (length image) found.id id found.object o (has.objects found.id found.object found.there) (has.objects id o at) block in
        elim (subst (λ (x : Puid). (n ≡ x.block) ⊎ StandsIn (source_tree image x.block) n) same found.here) [ inl root ↦ inl root | inr s ↦ inr (s, refl) ]

    one_object : count_owned marked image id.block ≡ blocks_of o
    unfolding sight
    one_object =
        let reads = has.objects id o at in
        let root = root_placed image (length image) id o reads in
        let content = block_at image (source image id.block) in
        count_with_tree test (λ n. true) image (length image) id.block content reads.source o reads.tree id.block
        (λ s. below_apart image (length image) id.block content reads.source o reads.tree root s.path s.held s.there s.is)
        (in_image image g has id.block root.taken.is root.taken.here)
        (passes id.block (inl refl))
        (λ n s passed. passes n (inr s))
        its_own
        ∙ ap (λ (levels : List (List ℕ)). 1 + sum_by length levels) (levels_all (tree_in image content) (length (levels_of content)))
        ∙ blocks_are image (length image) id.block content reads.source o reads.tree

  -- what is held has an owner in the graph
  all_owned : (n : ℕ) → one_of (marked n) ≡ one_of (marked n && has_block g.objects (owner_of (entry_in image n)))
  all_owned n = at (marked n) refl
    where
      at : (h : Bool) → marked n ≡ h → one_of h ≡ one_of (h && has_block g.objects (owner_of (entry_in image n)))
      at false is = refl
      at true is =
          let found = only n is in
          ap one_of (sym (ap (has_block g.objects) (owner_here found.id found.object found.there n found.here) ∙ block_there g found.id found.object found.there))

  pub counted : count_in marked 0 (length image) ≡ graph_blocks g
  counted =
      sum_each (λ n. one_of (marked n)) (λ n. one_of (marked n && has_block g.objects (owner_of (entry_in image n)))) (range_with_len 0 (length image)) all_owned
      ∙ owned_sum_by marked image g has up
      ∙ sum_objects g up (λ e. count_owned marked image e.0.block) (λ e. blocks_of e.1) one_object

-- ---- what is left beside the maps, the label and the objects of a graph

in_apart : (image : Image) (g : Graph) → Holds image g → (n : ℕ) → IsIn image g n → (n < length image) × (is_fixed n ≡ false)
unfolding sight
in_apart image g has n is = at is.here
  where
    at : (n ≡ is.id.block) ⊎ StandsIn (source_tree image is.id.block) n → (n < length image) × (is_fixed n ≡ false)
    at (inl root) =
        let placed = root_placed image (length image) is.id is.object (has.objects is.id is.object is.there) in (
          subst (λ (m : ℕ). m < length image) (sym root) (in_image image g has is.id.block placed.taken.is placed.taken.here),
          ap is_fixed root ∙ taken_apart image g has is.id.block is.id.block placed.taken,
        )
    at (inr s) =
        let reads = has.objects is.id is.object is.there in
        let placed = tree_placed image (length image) is.id.block (block_at image (source image is.id.block)) reads.source is.object reads.tree s.path s.held s.there in (
          subst (λ (m : ℕ). m < length image) s.is (in_image image g has s.held.block placed.taken.is placed.taken.here),
          ap is_fixed (sym s.is) ∙ taken_apart image g has s.held.block is.id.block placed.taken,
        )

module _ (image : Image) (g : Graph) (has : Holds image g) (up : rises (ids_of g) ≡ true) (kept_in : (n : ℕ) → IsKeptBlock image n → IsIn image g n) (in_kept : (n : ℕ) → IsIn image g n → IsKeptBlock image n) (left : ℕ) (is : LeavesBlocks image left) where
  abbrev taken : ℕ → Bool
  taken n = get_or is.taken n false

  abbrev mine : ℕ → Bool
  mine n = taken n && not (is_fixed n)

  not_false : (b : Bool) → not b ≡ true → b ≡ false
  not_false true is_not = cc
  not_false false is_not = refl

  clash : (b : Bool) → b ≡ true → b ≡ false → ⊥
  clash b one two = let none = sym one ∙ two in cc

  only : (n : ℕ) → mine n ≡ true → IsIn image g n
  only n passed =
      let two = and_parts (taken n) (not (is_fixed n)) passed in
      elim (is.only n two.0) [ inl fixed ↦ absurd (clash (is_fixed n) fixed (not_false (is_fixed n) two.1)) | inr kept ↦ kept_in n kept ]

  all : (n : ℕ) → IsIn image g n → mine n ≡ true
  all n here =
      let apart = in_apart image g has n here in
      and_from (taken n) (not (is_fixed n)) (is.all n apart.0 (inr (in_kept n here))) (ap not apart.1)

  each : (n : ℕ) → n < length image → one_of (not (taken n)) + fixed_one n + one_of (mine n) ≡ 1
  each n below = at (taken n) (is_fixed n) refl refl
    where
      at : (t f : Bool) → taken n ≡ t → is_fixed n ≡ f → one_of (not t) + one_of f + one_of (t && not f) ≡ 1
      at true true is_t is_f = refl
      at true false is_t is_f = refl
      at false false is_t is_f = refl
      at false true is_t is_f = absurd (clash (taken n) (is.all n below (inl is_f)) is_t)

  pub left_is : left + graph_blocks g + 1 ≡ 63 * (length image / 64)
  left_is =
      let label = has.label in
      let wide : length image ≡ 64 * label.label.cylinders = sym label.size_is in
      let fixed = ap (λ (n : ℕ). sum_run fixed_one 0 n) wide ∙ fixed_count label.label.cylinders label.is_label.some in
      let free = is.count ∙ marks_count not is.taken ∙ ap (λ (n : ℕ). count_in (λ m. not (taken m)) 0 n) is.size in
      omega (
        arith,
        fixed,
        free,
        counted image g has up mine only all,
        sum_both (λ n. one_of (not (taken n)) + fixed_one n) (λ n. one_of (mine n)) (range_with_len 0 (length image)),
        sum_both (λ n. one_of (not (taken n))) fixed_one (range_with_len 0 (length image)),
        run_same (λ n. one_of (not (taken n)) + fixed_one n + one_of (mine n)) (λ n. 1) 0 (length image) (λ n from below. each n (omega arith)),
        run_ones 0 (length image),
        wide,
      )
