-- One step over the held leaves of a root's tree is one below the pointers of the root.
use Rattle.std.proofs.Common.{◌≡◌, ℕ, ◌+◌, ◌*◌, ◌/◌, ◌<◌, ◌≤◌, ◌^◌, List, ◌∷◌, length, get_or, take, refl, sym, ◌∙◌, ap, subst, arith, Option, Some, None}
use Rattle.block_tree.proofs.Words.{All-from_get_or, HasNoDeadEnd, HeldStep, IfSome, Image, IsFirstPast, IsLeafPointer, IsPlaced, IsStepped, LeafStep, Level, NoneHeld, NoneSet, Pointer, Root, SomeHeld, SomeSet, leaf_block, leaf_count, leaf_limit, levels_below, levels_of, node_levels, node_pointers, pointers_of, root_spelling, width}
use Rattle.block_tree.proofs.Follows.{above_past, leaf_block_is, leaf_pointer_is, past_above}
use Rattle.block_tree.proofs.Numbers.{numbers_back}
use Rattle.block_tree.proofs.Steps.{none_from, some_set}
use Rattle.block_tree.proofs.Walks.{count_is}
use Rattle.block_tree.specs.Step.{IsFoundOf, IsPastBelow, IsPlacedAmong, IsPlacedBelow, IsQuietBelow, IsStepBelow, IsSureStep, IsThere, NoDeadEndBelow, NoneOf, SomeOf, block_below, upto}
use Rattle.block_tree.specs.Tree.{EachLeaf, HasNearPath, IsQuiet}

abbrev low : List Level
low = levels_below node_levels

module _ (image : Image) (size : ℕ) (root : Root) (count : length root.nodes ≡ node_pointers.count) (fit : (k : ℕ) → get_or root.nodes k 0 < 2 ^ 32) where
  abbrev R : List ℕ
  R = root_spelling root

  abbrev total : ℕ
  total = length root.nodes * width low

  all_leaves : total ≡ leaf_count R
  all_leaves = ap (λ (k : ℕ). k * width low) count ∙ sym (count_is R)

  -- the pointers in memory are those of the block
  nodes_are : root.nodes ≡ pointers_of node_pointers R
  unfolding pointers_of root_spelling
  nodes_are = numbers_back (take 32 (root_spelling root)) root.nodes 8 node_pointers.count refl count (All-from_get_or (λ n. n < 2 ^ 32) root.nodes 0 (λ k less. fit k))

  -- and what they lead to stands in the tree
  inside : (leaf : ℕ) → leaf < total → leaf < leaf_limit
  inside leaf small = omega (arith, small, all_leaves, count_is R)

  same : (leaf : ℕ) → leaf < total → block_below image None root.nodes low leaf ≡ leaf_block image R leaf
  same leaf small = leaf_block_is image root count leaf (inside leaf small) (fit (leaf / width low))

  quiet : (leaf : ℕ) → leaf < total → IsQuietBelow image size None root.nodes low leaf → IsQuiet image size R leaf
  quiet leaf small is = record {
    absent = sym (same leaf small) ∙ is.0;
    followed = λ p past. is.1 p (above_past image root count leaf (inside leaf small) (fit (leaf / width low)) size p past);
  }

  some_held : (from : ℕ) → SomeOf (block_below image None root.nodes low) total from → SomeHeld image R from
  some_held from is = record { leaf = is.leaf; on = is.on; inside = omega (arith, is.inside, all_leaves); held = λ none. is.held (same is.leaf is.inside ∙ none) }

  alive_below : HasNoDeadEnd image R → NoDeadEndBelow image low root.nodes
  unfolding levels_of
  alive_below alive = subst (NoDeadEndBelow image low) (sym nodes_are) (λ k path here short. alive (k ∷ path) here (omega (arith, short)))

  placed_root : (from : ℕ) → IsPlaced image R from → IsPlacedBelow image node_levels root.nodes from
  placed_root from = subst (λ (ns : List ℕ). IsPlacedBelow image node_levels ns from) (sym nodes_are)

  placed_tree : (from : ℕ) → IsPlacedBelow image node_levels root.nodes from → IsPlaced image R from
  placed_tree from = subst (λ (ns : List ℕ). IsPlacedBelow image node_levels ns from) nodes_are

  -- ---- what a step tells

  module _ (from : ℕ) (step : LeafStep) (is : IsStepBelow image size None root.nodes node_levels total from step) where
    abbrev to : ℕ
    to = upto total step.next

    most : to ≤ total
    most = is.stepped.most

    to_is : to ≡ upto (leaf_count R) step.next
    to_is = ap (λ (n : ℕ). upto n step.next) all_leaves

    none_root : (a b : ℕ) → b ≤ total → NoneOf (block_below image None root.nodes low) a b → NoneHeld image R a b
    none_root a b few none leaf on less = sym (same leaf (omega (arith, few, less))) ∙ none leaf on less

    found_root : (f : Option HeldStep) → IsFoundOf (block_below image None root.nodes low) from f to → IsFoundOf (leaf_block image R) from f to
    found_root None none = none_root from to most none
    found_root (Some f) two =
        let small : f.held.leaf < total = omega (arith, two.0.inside, most) in (
          record {
            on = two.0.on;
            inside = two.0.inside;
            block_is = sym (same f.held.leaf small) ∙ two.0.block_is;
            is_held = two.0.is_held;
            before = none_root from f.held.leaf (omega (arith, small)) two.0.before;
          },
          none_root (f.held.leaf + 1) to most two.1,
        )

    pub stepped_root : IsStepped image R from step
    stepped_root = record {
      found = subst (λ (n : ℕ). IsFoundOf (leaf_block image R) from step.found n) to_is (found_root step.found is.stepped.found);
      most = subst (λ (n : ℕ). upto n step.next ≤ n) all_leaves most;
    }

    pub followed_root : EachLeaf from (upto (leaf_count R) step.next) (HasNearPath image size R)
    followed_root leaf on less =
        let small : leaf < total = omega (arith, less, to_is, most) in
        λ p past. is.followed leaf on (omega (arith, less, to_is)) p (above_past image root count leaf (inside leaf small) (fit (leaf / width low)) size p past)

    pub sure_root : HasNoDeadEnd image R → IsPlaced image R from → IsSureStep step
    sure_root alive placed = is.sure (alive_below alive) (placed_root from placed)

    pub sought_root : HasNoDeadEnd image R → IfSome step.next (λ n. IsPlaced image R n × SomeHeld image R n)
    sought_root alive = by step.next (is.sought (alive_below alive))
      where
        by : (n : Option ℕ) → IfSome n (IsPlacedAmong image node_levels None root.nodes total) → IfSome n (λ m. IsPlaced image R m × SomeHeld image R m)
        by None t = tt
        by (Some n) two = (placed_tree n two.1, some_held n two.0)

    pub there_root : IfSome step.found (λ s. IsLeafPointer image R s.held.leaf (record { holder = s.holder; block = s.held.block }))
    there_root = by step.found is.stepped.found is.there
      where
        by : (f : Option HeldStep) → IsFoundOf (block_below image None root.nodes low) from f to → IfSome f (IsThere image None root.nodes low) → IfSome f (λ s. IsLeafPointer image R s.held.leaf (record { holder = s.holder; block = s.held.block }))
        by None found t = tt
        by (Some s) two there =
            let small : s.held.leaf < total = omega (arith, two.0.inside, most) in
            subst (IsLeafPointer image R s.held.leaf) (sym there) (leaf_pointer_is image root count s.held.leaf (inside s.held.leaf small) (fit (s.held.leaf / width low)))

  -- the first pointer past the end
  pub past_root : (from : ℕ) (p : Pointer) → IsPastBelow image size None root.nodes low from p → IsFirstPast image size R from p
  past_root from p past = record {
    leaf = past.leaf;
    on = past.on;
    inside = omega (arith, past.inside, all_leaves);
    past = past_above image root count past.leaf (inside past.leaf past.inside) (fit (past.leaf / width low)) size p past.past;
    before = λ leaf on less. quiet leaf (omega (arith, less, past.inside)) (past.before leaf on less);
  }

  -- whether a leaf is held at all
  pub some_root : HasNoDeadEnd image R → SomeSet root.nodes 0 → SomeHeld image R 0
  some_root alive some = some_held 0 (some_set image size None root.nodes node_levels (alive_below alive) 0 0 (omega arith) some)

  pub none_held : NoneSet root.nodes 0 → NoneHeld image R 0 (leaf_count R)
  none_held none leaf on less = let small : leaf < total = omega (arith, less, all_leaves) in sym (same leaf small) ∙ (none_from image size None root.nodes node_levels 0 total 0 (omega arith) none leaf on small).0
