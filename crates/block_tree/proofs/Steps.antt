-- One step over the held leaves of a tree: below pointers, each above as many leaves.
use Rattle.std.proofs.Common.{◌≡◌, ◌≢◌, inl, inr, ℕ, zero, suc, ◌+◌, ◌-◌, ◌*◌, ◌/◌, ◌%◌, ◌<◌, ◌≤◌, List, [], ◌∷◌, ◌++◌, length, get_or, max, refl, sym, ◌∙◌, ap, subst, arith, IfSome, Some, None, Option}
use Rattle.block_tree.proofs.Words.{EachLeaf, HeldStep, Image, IsFirstSet, IsPast, LeafStep, Level, NoneSet, PastFrom, Pointer, SomeSet, cases_lt, div_below, end_of, first_pointer, get_or_past, leaf_pointers, leaves_at, levels_below, mod-lt, next_pointer, path_to, pointer_below, pointer_from, width}
use Rattle.block_tree.proofs.Descents.{some_width, wider}
use Rattle.block_tree.proofs.Nodes.{length-leaves, pointed}
use Rattle.block_tree.proofs.Trees.{end_none}
use Rattle.block_tree.proofs.Ways.{step_end}
use Rattle.block_tree.specs.Step.{HasNearPathBelow, IsFoundOf, IsHeldAmong, IsLaterBase, IsPastBelow, IsPlacedAmong, IsPlacedBelow, IsQuietBelow, IsStepBelow, IsSteppedOf, IsSureStep, IsThere, IsStepWithin, NoDeadEndBelow, NoDeadEndFrom, NoneOf, SomeOf, block_below, found_at, sought_at, step_at, upto}
use Rattle.std.proofs.Math.Nat.{div-mul-le_self, le-mul_of_pos_right, mul-add-mod_self_left, mul-le-mul_right}
use Rattle.std.proofs.Math.Path.{fun_ext}
use Rattle.std.proofs.lemmas.Nat.{div-add-mod', div-mul-add, le-div, mod-mul-add, mul-add-lt}

-- ---- places: below each pointer lie as many leaves

-- a leaf below an earlier pointer comes before
pub earlier_place : (k j m w : ℕ) → k < j → m < w → k * w + m < j * w
earlier_place k j m w less small = omega (arith, mul-add-lt k w m j less small)

later_place : (a b w : ℕ) → 0 < w → a ≤ b → a / w ≤ b / w
later_place a b w some less = le-div (a / w) b w some (omega (arith, div-mul-le_self a w, less))

-- there are as few pointers as leaves
pub few_places : (k n w : ℕ) → k < n → 0 < w → k < n * w
few_places k n w less some = omega (arith, less, le-mul_of_pos_right n some)

-- and below one of them no more than below all
pub few_below : (k n w : ℕ) → k < n → w ≤ n * w
few_below k n w less = let one : 1 ≤ n = omega (arith, less) in omega (arith, mul-le-mul_right w one)

-- where the step begins that goes on at this place
pub start_in : (from k start w : ℕ) → 0 < w → from / w ≤ k → start ≡ max from (k * w) → start / w ≡ k
start_in from k start w some low is = elim (cases_lt from (k * w)) [
  | inl less ↦ let e : start ≡ k * w + 0 = omega (arith, is, less) in ap (λ (n : ℕ). n / w) e ∙ div-mul-add k w 0 some
  | inr past ↦ let e : start ≡ from = omega (arith, is, past) in ap (λ (n : ℕ). n / w) e ∙ (let here : from / w ≡ k = omega (arith, low, le-div k from w some past) in here)
]

-- which is the place and what is left
pub start_is : (from k start w : ℕ) → 0 < w → from / w ≤ k → start ≡ max from (k * w) → k * w + start % w ≡ start
start_is from k start w some low is = ap (λ (j : ℕ). j * w + start % w) (sym (start_in from k start w some low is)) ∙ div-add-mod' start w

pub set_inside : (pointers : List ℕ) (k : ℕ) → get_or pointers k 0 ≢ 0 → k < length pointers
set_inside pointers k set = elim (cases_lt k (length pointers)) [ inl less ↦ less | inr past ↦ absurd (set (get_or_past pointers k 0 past)) ]

-- ---- leaves from one on up to another

pub each_join : (P : ℕ → Type 0) (a b c : ℕ) → EachLeaf a b P → EachLeaf b c P → EachLeaf a c P
each_join P a b c one two leaf on below = elim (cases_lt leaf b) [ inl less ↦ one leaf on less | inr past ↦ two leaf past below ]

some_before : (block : ℕ → ℕ) (count from start : ℕ) → from ≤ start → SomeOf block count start → SomeOf block count from
some_before block count from start on some = record { leaf = some.leaf; on = omega (arith, on, some.on); inside = some.inside; held = some.held }

-- a step from where one that found none sends is one from where that began
pub stepped_on : (block : ℕ → ℕ) (count from n : ℕ) (step : LeafStep) → from ≤ n → NoneOf block from n → IsSteppedOf block count n step → IsSteppedOf block count from step
stepped_on block count from n step later none is = by step.found is.found
  where
    by : (f : Option HeldStep) → IsFoundOf block n f (upto count step.next) → IsSteppedOf block count from (record { found = f; next = step.next })
    by None rest = record { found = each_join (λ leaf. block leaf ≡ 0) from n (upto count step.next) none rest; most = is.most }
    by (Some f) two = record {
      found = (
        record {
          on = omega (arith, later, two.0.on);
          inside = two.0.inside;
          block_is = two.0.block_is;
          is_held = two.0.is_held;
          before = each_join (λ leaf. block leaf ≡ 0) from n f.held.leaf none two.0.before;
        },
        two.1,
      );
      most = is.most;
    }

-- ---- pointers

-- below no block there is none
pub absent_from : (image : Image) (levels : List Level) (p : Pointer) (path : List ℕ) → p.block ≡ 0 → (pointer_from image levels p path).block ≡ 0
absent_from image levels p [] none = none
absent_from image [] p (k ∷ path) none = refl
absent_from image (level ∷ levels) p (k ∷ path) none = absent_from image levels (next_pointer image level p k) path (end_none image level p.block k none)

-- and none leads past the end
none_past : (image : Image) (levels : List Level) (size : ℕ) (p : Pointer) (path : List ℕ) (q : Pointer) → p.block ≡ 0 → ¬ PastFrom image levels size p path q
none_past image levels size p [] q none past = past
none_past image [] size p (k ∷ path) q none past = past
none_past image (level ∷ levels) size p (k ∷ path) q none (inl here) = here.1.0 none
none_past image (level ∷ levels) size p (k ∷ path) q none (inr later) = none_past image levels size (next_pointer image level p k) path q (end_none image level p.block k none) later

-- from the next block on a path there is no dead end either
alive_next : (image : Image) (levels : List Level) (n k : ℕ) → NoDeadEndFrom image (leaf_pointers ∷ levels) n → NoDeadEndFrom image levels (end_of image (leaf_pointers ∷ []) n (k ∷ []))
alive_next image levels n k alive path here short =
    let on = alive (k ∷ path) (λ gone. here (sym (step_end image leaf_pointers levels n k path) ∙ gone)) (omega (arith, short)) in
    (on.0, λ gone. on.1 (step_end image leaf_pointers levels n k (path ++ on.0 ∷ []) ∙ gone))

-- a block from which there is none leads to a leaf
leads_on : (image : Image) (h : ℕ) (p : Pointer) → p.block ≢ 0 → NoDeadEndFrom image (levels_below h) p.block → (m : ℕ) × (m < width (levels_below h)) × ((pointer_from image (levels_below h) p (path_to (levels_below h) m)).block ≢ 0)
unfolding path_to
leads_on image zero p some alive = (0, omega arith, some)
leads_on image (suc h) p some alive =
    let w : ℕ = width (levels_below h) in
    let child = alive [] some (omega arith) in
    let k : ℕ = child.0 in
    let n : ℕ = end_of image (leaf_pointers ∷ []) p.block (k ∷ []) in
    let there : n ≢ 0 = λ gone. child.1 (step_end image leaf_pointers (levels_below h) p.block k [] ∙ gone) in
    let inside : k < leaf_pointers.count = omega (arith, set_inside (leaves_at image p.block) k (λ gone. there (pointed image p.block k ∙ gone)), length-leaves image p.block) in
    let leaf = leads_on image h (next_pointer image leaf_pointers p k) there (alive_next image (levels_below h) p.block k alive) in
    let m : ℕ = leaf.0 in (
      k * w + m,
      omega (arith, mul-add-lt k w m leaf_pointers.count inside leaf.1),
      λ gone. leaf.2 (
          ap (λ (j : ℕ). (pointer_from image (levels_below h) (next_pointer image leaf_pointers p j) (path_to (levels_below h) m)).block) (sym (div-mul-add k w m leaf.1))
          ∙ ap (λ (r : ℕ). (pointer_from image (levels_below h) (next_pointer image leaf_pointers p ((k * w + m) / w)) (path_to (levels_below h) r)).block) (sym (mod-mul-add k w m leaf.1)) ∙ gone
          ),
    )

-- what lies below a node lies below the pointers that it has
child_is : (image : Image) (holder : Option ℕ) (h p m : ℕ) → pointer_from image (levels_below (suc h)) (record { holder = holder; block = p }) (path_to (levels_below (suc h)) m) ≡ pointer_below image (Some p) (leaves_at image p) (levels_below h) m
unfolding path_to
child_is image holder h p m = ap (λ (n : ℕ). pointer_from image (levels_below h) (record { holder = Some p; block = n }) (path_to (levels_below h) (m % width (levels_below h)))) (pointed image p (m / width (levels_below h)))

alive_child : (image : Image) (h p : ℕ) → NoDeadEndFrom image (levels_below (suc h)) p → NoDeadEndBelow image (levels_below h) (leaves_at image p)
alive_child image h p alive j = subst (NoDeadEndFrom image (levels_below h)) (pointed image p j) (alive_next image (levels_below h) p j alive)

-- the blocks of the leaves below a node
abbrev child_block : Image → (h p : ℕ) → ℕ → ℕ
child_block image h p = block_below image (Some p) (leaves_at image p) (levels_below h)

some_child : (image : Image) (h p : ℕ) → p ≢ 0 → NoDeadEndFrom image (levels_below (suc h)) p → SomeOf (child_block image h p) (width (levels_below (suc h))) 0
some_child image h p some alive =
    let leaf = leads_on image (suc h) (record { holder = None; block = p }) some alive in
    record { leaf = leaf.0; on = omega arith; inside = leaf.1; held = λ gone. leaf.2 (ap (λ (q : Pointer). q.block) (child_is image None h p leaf.0) ∙ gone) }

-- ---- leaves from which a step is made

placed_from : (image : Image) (h : ℕ) (pointers : List ℕ) (k m : ℕ) → m < width (levels_below (suc h))
    → (get_or pointers k 0 ≢ 0 → SomeOf (child_block image h (get_or pointers k 0)) (width (levels_below (suc h))) m × IsPlacedBelow image h (leaves_at image (get_or pointers k 0)) m)
    → IsPlacedBelow image (suc h) pointers (k * width (levels_below (suc h)) + m)
placed_from image h pointers k m small below =
    let w : ℕ = width (levels_below (suc h)) in
    subst (λ (j : ℕ). get_or pointers j 0 ≢ 0 → SomeOf (child_block image h (get_or pointers j 0)) w ((k * w + m) % w) × IsPlacedBelow image h (leaves_at image (get_or pointers j 0)) ((k * w + m) % w)) (sym (div-mul-add k w m small))
    (subst (λ (r : ℕ). get_or pointers k 0 ≢ 0 → SomeOf (child_block image h (get_or pointers k 0)) w r × IsPlacedBelow image h (leaves_at image (get_or pointers k 0)) r) (sym (mod-mul-add k w m small)) below)

-- at the first leaf below a pointer
placed_first : (image : Image) (h : ℕ) (pointers : List ℕ) (k : ℕ) → NoDeadEndBelow image (levels_below h) pointers → IsPlacedBelow image h pointers (k * width (levels_below h) + 0)
placed_first image zero pointers k alive = tt
placed_first image (suc h) pointers k alive = placed_from image h pointers k 0 (some_width (suc h)) (λ set.
    let p : ℕ = get_or pointers k 0 in
    let below : NoDeadEndBelow image (levels_below h) (leaves_at image p) = alive_child image h p (alive k) in
    let zero_is : 0 * width (levels_below h) + 0 ≡ 0 = omega arith in
    (some_child image h p set (alive k), subst (IsPlacedBelow image h (leaves_at image p)) zero_is (placed_first image h (leaves_at image p) 0 below)))

pub placed_zero : (image : Image) (h : ℕ) (pointers : List ℕ) → NoDeadEndBelow image (levels_below h) pointers → IsPlacedBelow image h pointers 0
placed_zero image h pointers alive = let zero_is : 0 * width (levels_below h) + 0 ≡ 0 = omega arith in subst (IsPlacedBelow image h pointers) zero_is (placed_first image h pointers 0 alive)

-- ---- below pointers that stand so many levels of nodes above the leaves

module _ (image : Image) (size : ℕ) (holder : Option ℕ) (pointers : List ℕ) (h : ℕ) where
  abbrev w : ℕ
  w = width (levels_below h)

  some : 0 < w
  some = some_width h

  -- the leaves below all of them
  abbrev total : ℕ
  total = length pointers * w

  -- what P tells of a leaf by the place of the pointer above it, and by which of the leaves below that it is
  abbrev Told : (ℕ → ℕ → Type 0) → ℕ → Type 0
  Told P leaf = P (leaf / w) (leaf % w)

  told_at : (P : ℕ → ℕ → Type 0) (k m : ℕ) → m < w → P k m → Told P (k * w + m)
  told_at P k m small is = subst (λ (j : ℕ). P j ((k * w + m) % w)) (sym (div-mul-add k w m small)) (subst (P k) (sym (mod-mul-add k w m small)) is)

  -- ---- each leaf

  module _ (P : ℕ → ℕ → Type 0) (none : (k m : ℕ) → get_or pointers k 0 ≡ 0 → P k m) where
    pub each_from : (from to k : ℕ) → k ≤ from / w → NoneSet pointers k → EachLeaf from to (Told P)
    each_from from to k low zeros leaf on less = none (leaf / w) (leaf % w) (zeros (leaf / w) (omega (arith, low, later_place from leaf w some on)))

    each_before : (from i k : ℕ) → i ≤ from / w → IsFirstSet pointers i (Some k) → EachLeaf from (k * w) (Told P)
    each_before from i k low first leaf on less = none (leaf / w) (leaf % w) (first.3 (leaf / w) (omega (arith, low, later_place from leaf w some on)) (div_below leaf w k some less))

    each_first : (from k start : ℕ) → IsFirstSet pointers (from / w) (Some k) → start ≡ max from (k * w) → EachLeaf from start (Told P)
    each_first from k start first is leaf on less = each_before from (from / w) k (omega arith) first leaf on (omega (arith, on, less, is))

    -- of one place, from a leaf on up to another
    each_at : (k m to : ℕ) → to ≤ w → EachLeaf m to (P k) → EachLeaf (k * w + m) (k * w + to) (Told P)
    each_at k m to within each leaf on less =
        let r : ℕ = leaf - k * w in
        let is : leaf ≡ k * w + r = omega arith in
        subst (Told P) (sym is) (told_at P k r (omega (arith, less, within, is)) (each r (omega (arith, on, is)) (omega (arith, less, is))))

    -- up to where the next is to be sought, below the pointer at a place or below a later one
    each_upto : (k m : ℕ) (later : Option ℕ) → IsLaterBase pointers k w later → (n : Option ℕ) → upto w n ≤ w → EachLeaf m (upto w n) (P k) → EachLeaf (k * w + m) (upto total (sought_at (k * w) later n)) (Told P)
    each_upto k m later is (Some n) most each = each_at k m n most each
    each_upto k m (Some n) is None most each =
        subst (λ (to : ℕ). EachLeaf (k * w + m) to (Told P)) (sym is.2)
        (each_join (Told P) (k * w + m) (k * w + w) (is.0 * w) (each_at k m w (omega arith) each) (each_before (k * w + w) (k + 1) is.0 (le-div (k + 1) (k * w + w) w some (omega arith)) is.1))
    each_upto k m None is None most each =
        each_join (Told P) (k * w + m) (k * w + w) total (each_at k m w (omega arith) each) (each_from (k * w + w) total (k + 1) (le-div (k + 1) (k * w + w) w some (omega arith)) is)

    pub each_all : (from k start : ℕ) → IsFirstSet pointers (from / w) (Some k) → start ≡ max from (k * w) → (later : Option ℕ) → IsLaterBase pointers k w later → (n : Option ℕ) → upto w n ≤ w → EachLeaf (start % w) (upto w n) (P k)
        → EachLeaf from (upto total (sought_at (k * w) later n)) (Told P)
    each_all from k start first is later at n most each =
        each_join (Told P) from start (upto total (sought_at (k * w) later n)) (each_first from k start first is)
        (subst (λ (v : ℕ). EachLeaf v (upto total (sought_at (k * w) later n)) (Told P)) (start_is from k start w some first.0 is) (each_upto k (start % w) later at n most each))

  most_upto : (k : ℕ) → k < length pointers → (later : Option ℕ) → IsLaterBase pointers k w later → (n : Option ℕ) → upto w n ≤ w → upto total (sought_at (k * w) later n) ≤ total
  most_upto k inside later is (Some n) most = let up : (k + 1) * w ≤ total = mul-le-mul_right w (let more : k + 1 ≤ length pointers = omega (arith, inside) in more) in omega (arith, up, most)
  most_upto k inside (Some n) is None most = let up : is.0 * w ≤ total = mul-le-mul_right w (let less : is.0 ≤ length pointers = omega (arith, is.1.1) in less) in omega (arith, up, is.2)
  most_upto k inside None is None most = omega arith

  -- ---- the leaves

  -- the pointer to one
  abbrev at : ℕ → ℕ → Pointer
  at k m = pointer_from image (levels_below h) (record { holder = holder; block = get_or pointers k 0 }) (path_to (levels_below h) m)

  abbrev AbsentAt : ℕ → ℕ → Type 0
  AbsentAt k m = (at k m).block ≡ 0

  abbrev PastAt : ℕ → ℕ → Pointer → Type 0
  PastAt k m q = PastFrom image (levels_below h) size (record { holder = holder; block = get_or pointers k 0 }) (path_to (levels_below h) m) q

  abbrev FollowedAt : ℕ → ℕ → Type 0
  FollowedAt k m = (q : Pointer) → ¬ PastAt k m q

  abbrev QuietAt : ℕ → ℕ → Type 0
  QuietAt k m = AbsentAt k m × FollowedAt k m

  no_leaf : (k m : ℕ) → get_or pointers k 0 ≡ 0 → AbsentAt k m
  no_leaf k m none = absent_from image (levels_below h) (record { holder = holder; block = get_or pointers k 0 }) (path_to (levels_below h) m) none

  no_past : (k m : ℕ) → get_or pointers k 0 ≡ 0 → FollowedAt k m
  no_past k m none q = none_past image (levels_below h) size (record { holder = holder; block = get_or pointers k 0 }) (path_to (levels_below h) m) q none

  pub none_from : (from to k : ℕ) → k ≤ from / w → NoneSet pointers k → EachLeaf from to (IsQuietBelow image size holder pointers (levels_below h))
  none_from = each_from QuietAt (λ k m none. (no_leaf k m none, no_past k m none))

  -- where no pointer is set
  pub step_none : (from : ℕ) → NoneSet pointers (from / w) → IsStepBelow image size holder pointers h total from (record { found = None; next = None })
  step_none from none = record {
    stepped = record { found = λ leaf on less. (none_from from total (from / w) (omega arith) none leaf on less).0; most = omega arith };
    followed = λ leaf on less. (none_from from total (from / w) (omega arith) none leaf on less).1;
    there = tt;
    sure = λ alive placed none. refl;
    sought = λ alive. tt;
  }

  -- ---- a step below the first pointer that is set is one below all

  -- what it tells of the leaves below the pointer at a place
  pub record IsStepAt (k m from : ℕ) (step : LeafStep) : Type 0 where
    pub stepped : IsSteppedOf (λ n. (at k n).block) w m step
    pub followed : EachLeaf m (upto w step.next) (FollowedAt k)
    pub there : IfSome step.found (λ s. record { holder = s.holder; block = s.held.block } ≡ at k s.held.leaf)
    pub sure : NoDeadEndBelow image (levels_below h) pointers → IsPlacedBelow image h pointers from → SomeOf (λ n. (at k n).block) w m × IsSureStep step
    pub sought : NoDeadEndBelow image (levels_below h) pointers → IfSome step.next (λ n. SomeOf (λ j. (at k j).block) w n × IsPlacedBelow image h pointers (k * w + n))

  some_at : (k m : ℕ) → k < length pointers → SomeOf (λ n. (at k n).block) w m → SomeOf (block_below image holder pointers (levels_below h)) total (k * w + m)
  some_at k m inside next = record {
    leaf = k * w + next.leaf;
    on = omega (arith, next.on);
    inside = earlier_place k (length pointers) next.leaf w inside next.inside;
    held = told_at (λ j n. (at j n).block ≢ 0) k next.leaf next.inside next.held;
  }

  leads_to : NoDeadEndBelow image (levels_below h) pointers → (k : ℕ) → get_or pointers k 0 ≢ 0 → SomeOf (λ n. (at k n).block) w 0
  leads_to alive k set =
      let leaf = leads_on image h (record { holder = holder; block = get_or pointers k 0 }) set (alive k) in
      record { leaf = leaf.0; on = omega arith; inside = leaf.1; held = leaf.2 }

  -- below a pointer that is set
  pub some_set : NoDeadEndBelow image (levels_below h) pointers → (from k : ℕ) → from ≤ k * w → SomeSet pointers k → SomeOf (block_below image holder pointers (levels_below h)) total from
  some_set alive from k low next =
      some_before (block_below image holder pointers (levels_below h)) total from (next.place * w + 0) (omega (arith, low, mul-le-mul_right w next.on)) (some_at next.place 0 next.inside (leads_to alive next.place next.set))

  module _ (from k start : ℕ) (first : IsFirstSet pointers (from / w) (Some k)) (is : start ≡ max from (k * w)) (later : Option ℕ) (after : IsLaterBase pointers k w later) where
    whole : k * w + start % w ≡ start
    whole = start_is from k start w some first.0 is

    pub step_above : (step : LeafStep) → IsStepAt k (start % w) from step → IsStepBelow image size holder pointers h total from (step_at (k * w) later step)
    step_above step told = record {
      stepped = record { found = found step.found told.stepped.found; most = most_upto k first.1 later after step.next told.stepped.most };
      followed = each_all FollowedAt no_past from k start first is later after step.next told.stepped.most told.followed;
      there = there step.found told.stepped.found told.there;
      sure = λ alive placed. let two = told.sure alive placed in sure step.found step.next two.0 told.stepped.found two.1;
      sought = λ alive. sought alive later after step.next (told.sought alive);
    }
      where
        to : ℕ
        to = upto total (sought_at (k * w) later step.next)

        found : (f : Option HeldStep) → IsFoundOf (λ n. (at k n).block) (start % w) f (upto w step.next) → IsFoundOf (block_below image holder pointers (levels_below h)) from (found_at (k * w) f) to
        found None none = each_all AbsentAt no_leaf from k start first is later after step.next told.stepped.most none
        found (Some f) two =
            let small : f.held.leaf < w = omega (arith, two.0.inside, told.stepped.most) in
            let rest = each_upto AbsentAt no_leaf k (f.held.leaf + 1) later after step.next told.stepped.most two.1 in (
              record {
                on = omega (arith, whole, two.0.on, is);
                inside = inside later after step.next two.0.inside;
                block_is = told_at (λ j n. (at j n).block ≡ f.held.block) k f.held.leaf small two.0.block_is;
                is_held = two.0.is_held;
                before = each_join (Told AbsentAt) from start (k * w + f.held.leaf) (each_first AbsentAt no_leaf from k start first is)
                    (subst (λ (v : ℕ). EachLeaf v (k * w + f.held.leaf) (Told AbsentAt)) whole (each_at AbsentAt no_leaf k (start % w) f.held.leaf (omega (arith, small)) two.0.before));
              },
              subst (λ (v : ℕ). EachLeaf v to (Told AbsentAt)) (let e : k * w + (f.held.leaf + 1) ≡ k * w + f.held.leaf + 1 = omega arith in e) rest,
            )
          where
            inside : (later : Option ℕ) → IsLaterBase pointers k w later → (n : Option ℕ) → f.held.leaf < upto w n → k * w + f.held.leaf < upto total (sought_at (k * w) later n)
            inside later after (Some n) less = omega (arith, less)
            inside (Some n) after None less = omega (arith, earlier_place k after.0 f.held.leaf w (let e : k < after.0 = omega (arith, after.1.0) in e) less, after.2)
            inside None after None less = earlier_place k (length pointers) f.held.leaf w first.1 less

        there : (f : Option HeldStep) → IsFoundOf (λ n. (at k n).block) (start % w) f (upto w step.next) → IfSome f (λ s. record { holder = s.holder; block = s.held.block } ≡ at k s.held.leaf) → IfSome (found_at (k * w) f) (IsThere image holder pointers (levels_below h))
        there None found t = tt
        there (Some f) two same = told_at (λ j n. record { holder = f.holder; block = f.held.block } ≡ at j n) k f.held.leaf (omega (arith, two.0.inside, told.stepped.most)) same

        sure : (f : Option HeldStep) (n : Option ℕ) → SomeOf (λ n. (at k n).block) w (start % w) → IsFoundOf (λ n. (at k n).block) (start % w) f (upto w n) → (f ≡ None → n ≡ None) → found_at (k * w) f ≡ None → sought_at (k * w) later n ≡ None
        sure (Some f) n held found none same = cc
        sure None None held found none same = absurd (held.held (found held.leaf held.on held.inside))
        sure None (Some n) held found none same = let no : Some n ≡ None = none refl in cc

        sought : NoDeadEndBelow image (levels_below h) pointers → (later : Option ℕ) → IsLaterBase pointers k w later → (n : Option ℕ) → IfSome n (λ m. SomeOf (λ j. (at k j).block) w m × IsPlacedBelow image h pointers (k * w + m))
            → IfSome (sought_at (k * w) later n) (IsPlacedAmong image h holder pointers total)
        sought alive later after (Some n) two = (some_at k n first.1 two.0, two.1)
        sought alive None after None t = tt
        sought alive (Some n) after None t = (
          some_set alive n after.0 (omega (arith, after.2)) (record { place = after.0; on = omega arith; inside = after.1.1; set = after.1.2 }),
          subst (IsPlacedBelow image h pointers) (omega (arith, after.2)) (placed_first image h pointers after.0 alive),
        )

    -- on any disk
    pub within_above : (step : LeafStep) → (step.found ≡ None → (v : ℕ) × (w ≡ leaf_pointers.count * v)) → IsStepWithin w (start % w) step → IsStepWithin total from (step_at (k * w) later step)
    within_above step wide told = record { found = found step.found told.found; next = next later after step.next told.next; turns = turns step.found wide told.turns }
      where
        found : (f : Option HeldStep) → IfSome f (IsHeldAmong w (start % w)) → IfSome (found_at (k * w) f) (IsHeldAmong total from)
        found None t = tt
        found (Some f) held = record { on = omega (arith, whole, held.on, is); inside = earlier_place k (length pointers) f.held.leaf w first.1 held.inside; is_held = held.is_held }

        next : (later : Option ℕ) → IsLaterBase pointers k w later → (n : Option ℕ) → IfSome n (λ m. (start % w < m) × (m < w)) → IfSome (sought_at (k * w) later n) (λ m. (from < m) × (m < total))
        next later after (Some m) two = (omega (arith, whole, two.0, is), earlier_place k (length pointers) m w first.1 two.1)
        next None after None t = tt
        next (Some n) after None t =
            let less : from < after.0 * w = omega (arith, earlier_place (from / w) after.0 (from % w) w (omega (arith, first.0, after.1.0)) (mod-lt from {m = w} some), div-add-mod' from w) in
            let most : after.0 * w + 0 < total = earlier_place after.0 (length pointers) 0 w after.1.1 some in
            (omega (arith, less, after.2), omega (arith, most, after.2))

        turns : (f : Option HeldStep) → (f ≡ None → (v : ℕ) × (w ≡ leaf_pointers.count * v)) → (f ≡ None → IfSome step.next (λ n. n % leaf_pointers.count ≡ 0)) → found_at (k * w) f ≡ None → IfSome (sought_at (k * w) later step.next) (λ n. n % leaf_pointers.count ≡ 0)
        turns (Some f) wide told none = cc
        turns None wide told none = turned later after step.next (told refl)
          where
            v : ℕ
            v = (wide refl).0

            even : (j m : ℕ) → m % leaf_pointers.count ≡ 0 → (j * w + m) % leaf_pointers.count ≡ 0
            even j m ends = ap (λ (n : ℕ). (j * n + m) % leaf_pointers.count) (wide refl).1 ∙ ap (λ (n : ℕ). (n + m) % leaf_pointers.count) (let e : j * (leaf_pointers.count * v) ≡ leaf_pointers.count * (j * v) = omega arith in e) ∙ mul-add-mod_self_left leaf_pointers.count (j * v) m ∙ ends

            turned : (later : Option ℕ) → IsLaterBase pointers k w later → (n : Option ℕ) → IfSome n (λ m. m % leaf_pointers.count ≡ 0) → IfSome (sought_at (k * w) later n) (λ m. m % leaf_pointers.count ≡ 0)
            turned later after (Some m) ends = even k m ends
            turned None after None t = tt
            turned (Some n) after None t = ap (λ (m : ℕ). m % leaf_pointers.count) (let e : n ≡ after.0 * w + 0 = omega (arith, after.2) in e) ∙ even after.0 0 refl

  -- the first pointer past the end
  module _ (from k start : ℕ) (first : IsFirstSet pointers (from / w) (Some k)) (is : start ≡ max from (k * w)) where
    pub past_above : (p : Pointer) (m : ℕ) → start % w ≤ m → m < w → PastAt k m p → EachLeaf (start % w) m (QuietAt k) → IsPastBelow image size holder pointers (levels_below h) from p
    past_above p m on small past quiet = record {
      leaf = k * w + m;
      on = omega (arith, start_is from k start w some first.0 is, is, on);
      inside = earlier_place k (length pointers) m w first.1 small;
      past = told_at (λ j n. PastAt j n p) k m small past;
      before = each_join (Told QuietAt) from start (k * w + m) (each_first QuietAt (λ j n none. (no_leaf j n none, no_past j n none)) from k start first is)
          (subst (λ (v : ℕ). EachLeaf v (k * w + m) (Told QuietAt)) (start_is from k start w some first.0 is) (each_at QuietAt (λ j n none. (no_leaf j n none, no_past j n none)) k (start % w) m (omega (arith, small)) quiet));
    }

-- ---- the leaf or node to which the pointer at a place leads

abbrev pub lone : Option ℕ → ℕ → LeafStep
lone holder block = record { found = Some (record { held = record { leaf = 0; block = block }; holder = holder }); next = None }

pub leaf_at : (image : Image) (size : ℕ) (holder : Option ℕ) (pointers : List ℕ) (k m from : ℕ) → get_or pointers k 0 ≢ 0 → m < 1 → IsStepAt image size holder pointers 0 k m from (lone holder (get_or pointers k 0))
unfolding path_to
leaf_at image size holder pointers k m from set small = record {
  stepped = record {
    found = (
      record { on = omega (arith, small); inside = omega arith; block_is = refl; is_held = set; before = λ leaf on less. absurd (omega (arith, less)) },
      λ leaf on less. absurd (omega (arith, on, less)),
    );
    most = omega arith;
  };
  followed = λ leaf on less q past. past;
  there = refl;
  sure = λ alive placed. (record { leaf = 0; on = omega (arith, small); inside = omega arith; held = set }, λ none. cc);
  sought = λ alive. tt;
}

module _ (image : Image) (size : ℕ) (holder : Option ℕ) (pointers : List ℕ) (g k : ℕ) (set : get_or pointers k 0 ≢ 0) where
  abbrev b : ℕ
  b = get_or pointers k 0

  abbrev leaves : List ℕ
  leaves = leaves_at image b

  abbrev v : ℕ
  v = width (levels_below (suc g))

  pointer_is : (λ (m : ℕ). pointer_below image (Some b) leaves (levels_below g) m) ≡ at image size holder pointers (suc g) k
  pointer_is = fun_ext (λ m. sym (child_is image holder g b m))

  next_is : (m : ℕ) → next_pointer image leaf_pointers (record { holder = holder; block = b }) (m / width (levels_below g)) ≡ first_pointer (Some b) leaves (levels_below g) m
  next_is m = ap (λ (n : ℕ). record { holder = Some b; block = n }) (pointed image b (m / width (levels_below g)))

  abbrev PastBelow : Pointer → ℕ → Pointer → Type 0
  PastBelow p m q = PastFrom image (levels_below g) size p (path_to (levels_below g) (m % width (levels_below g))) q

  followed_at : ¬ IsPast size b → (m : ℕ) → HasNearPathBelow image size (Some b) leaves (levels_below g) m → FollowedAt image size holder pointers (suc g) k m
  unfolding path_to
  followed_at near m none q (inl here) = near here.1
  followed_at near m none q (inr below) = none q (subst (λ (p : Pointer). PastBelow p m q) (next_is m) below)

  -- ---- from a leaf on, where the pointer is the first that is set

  module _ (from start : ℕ) (first : IsFirstSet pointers (from / v) (Some k)) (is : start ≡ max from (k * v)) where
    abbrev Placed : ℕ → Type 0
    Placed m = SomeOf (child_block image g b) v m × IsPlacedBelow image g leaves m

    placed_child : NoDeadEndBelow image (levels_below (suc g)) pointers → IsPlacedBelow image (suc g) pointers from → Placed (start % v)
    placed_child alive placed = elim (cases_lt from (k * v)) [
      | inl less ↦
          let first_is : start % v ≡ 0 = (let e : start ≡ k * v + 0 = omega (arith, is, less) in ap (λ (n : ℕ). n % v) e ∙ mod-mul-add k v 0 (some_width (suc g))) in
          subst Placed (sym first_is) (some_child image g b set (alive k), placed_zero image g leaves (alive_child image g b (alive k)))
      | inr past ↦
          let here : from / v ≡ k = omega (arith, first.0, le-div k from v (some_width (suc g)) past) in
          subst Placed (ap (λ (n : ℕ). n % v) (let e : from ≡ start = omega (arith, is, past) in e))
          (subst (λ (j : ℕ). get_or pointers j 0 ≢ 0 → SomeOf (child_block image g (get_or pointers j 0)) v (from % v) × IsPlacedBelow image g (leaves_at image (get_or pointers j 0)) (from % v)) here placed set)
    ]

    -- what a step tells of its leaves
    pub node_at : ¬ IsPast size b → (step : LeafStep) → IsStepBelow image size (Some b) leaves g v (start % v) step → IsStepAt image size holder pointers (suc g) k (start % v) from step
    node_at near step told = record {
      stepped = subst (λ (F : ℕ → Pointer). IsSteppedOf (λ n. (F n).block) v (start % v) step) pointer_is told.stepped;
      followed = λ leaf on less. followed_at near leaf (told.followed leaf on less);
      there = subst (λ (F : ℕ → Pointer). IfSome step.found (λ s. record { holder = s.holder; block = s.held.block } ≡ F s.held.leaf)) pointer_is told.there;
      sure = λ alive placed. let two = placed_child alive placed in (some_here (start % v) two.0, told.sure (alive_child image g b (alive k)) two.1);
      sought = λ alive. sought step.next (told.sought (alive_child image g b (alive k)));
    }
      where
        some_here : (n : ℕ) → SomeOf (child_block image g b) v n → SomeOf (λ j. (at image size holder pointers (suc g) k j).block) v n
        some_here n = λ is. subst (λ (F : ℕ → Pointer). SomeOf (λ j. (F j).block) v n) pointer_is is

        sought : (n : Option ℕ) → IfSome n (IsPlacedAmong image g (Some b) leaves v) → IfSome n (λ m. SomeOf (λ j. (at image size holder pointers (suc g) k j).block) v m × IsPlacedBelow image (suc g) pointers (k * v + m))
        sought None t = tt
        sought (Some n) two = (some_here n two.0, placed_from image g pointers k n (omega (arith, two.0.on, two.0.inside)) (λ set. two))

    -- its pointer is past the end, or one below it
    pub past_here : (p : Pointer) → p ≡ record { holder = holder; block = b } → IsPast size p.block → IsPastBelow image size holder pointers (levels_below (suc g)) from p
    unfolding path_to
    past_here p same past =
        past_above image size holder pointers (suc g) from k start first is p (start % v) (omega arith) (mod-lt start {m = v} (some_width (suc g)))
        (inl (same, subst (λ (q : Pointer). IsPast size q.block) same past)) (λ leaf on less. absurd (omega (arith, on, less)))

    pub past_below : ¬ IsPast size b → (p : Pointer) → IsPastBelow image size (Some b) leaves (levels_below g) (start % v) p → IsPastBelow image size holder pointers (levels_below (suc g)) from p
    unfolding path_to
    past_below near p past =
        past_above image size holder pointers (suc g) from k start first is p past.leaf past.on
        (subst (λ (n : ℕ). past.leaf < n * width (levels_below g)) (length-leaves image b) past.inside) (inr (subst (λ (q : Pointer). PastBelow q past.leaf p) (sym (next_is past.leaf)) past.past))
        (λ leaf on less. let quiet = past.before leaf on less in (subst (λ (F : ℕ → Pointer). (F leaf).block ≡ 0) pointer_is quiet.0, followed_at near leaf quiet.1))

-- ---- the same, where the height and the width are had as numbers

pub some_wide : (h w : ℕ) → w ≡ width (levels_below h) → 0 < w
some_wide h w wide = subst (λ (v : ℕ). 0 < v) (sym wide) (some_width h)

-- the leaves of a node are as many as lie below the pointer to it
pub as_many : (h w n : ℕ) → h ≢ 0 → w ≡ width (levels_below h) → n ≡ leaf_pointers.count → n * (w / leaf_pointers.count) ≡ w
as_many h w n more wide count =
    let is = wider h (h - 1) w (omega (arith, more)) wide in
    ap (λ (k : ℕ). k * (w / leaf_pointers.count)) count ∙ (let e : leaf_pointers.count * (w / leaf_pointers.count) ≡ w = omega (arith, is) in e)

-- the first pointer that is set from a leaf on, the leaf from which on its leaves are sought, and where the next begins
pub record IsTurn (pointers : List ℕ) (w from k start : ℕ) (later : Option ℕ) : Type 0 where
  pub first : IsFirstSet pointers (from / w) (Some k)
  pub is : start ≡ max from (k * w)
  pub after : IsLaterBase pointers k w later

abbrev pub no_step : LeafStep
no_step = record { found = None; next = None }

module _ (image : Image) (size : ℕ) (holder : Option ℕ) (pointers : List ℕ) (from : ℕ) where
  pub told_none : (h w : ℕ) → w ≡ width (levels_below h) → NoneSet pointers (from / w) → IsStepBelow image size holder pointers h (length pointers * w) from no_step
  told_none h w wide = subst (λ (v : ℕ). NoneSet pointers (from / v) → IsStepBelow image size holder pointers h (length pointers * v) from no_step) (sym wide) (step_none image size holder pointers h from)

  module _ (k start : ℕ) (later : Option ℕ) where
    -- of a leaf
    abbrev LoneTold : (h w : ℕ) → Type 0
    LoneTold h w =
        IsTurn pointers w from k start later
        → IsStepBelow image size holder pointers h (length pointers * w) from (step_at (k * w) later (lone holder (get_or pointers k 0)))
        × IsStepWithin (length pointers * w) from (step_at (k * w) later (lone holder (get_or pointers k 0)))

    pub told_leaf : (h w : ℕ) → h ≡ 0 → w ≡ width (levels_below h) → LoneTold h w
    told_leaf h w low wide =
        subst (λ (v : ℕ). LoneTold h v) (sym wide)
        (subst (λ (g : ℕ). LoneTold g (width (levels_below g))) (sym low) (λ at. (
          step_above image size holder pointers 0 from k start at.first at.is later at.after (lone holder (get_or pointers k 0)) (leaf_at image size holder pointers k (start % 1) from at.first.2 (mod-lt start {m = 1} (omega arith))),
          within_above image size holder pointers 0 from k start at.first at.is later at.after (lone holder (get_or pointers k 0)) (λ none. cc)
              (record { found = record { on = omega (arith, mod-lt start {m = 1} (omega arith)); inside = omega arith; is_held = at.first.2 }; next = tt; turns = λ none. tt }),
        )))

    -- of a node
    module _ (g : ℕ) where
      abbrev child : ℕ
      child = get_or pointers k 0

      abbrev NodeTold : ℕ → Type 0
      NodeTold w =
          IsTurn pointers w from k start later → ¬ IsPast size child → (step : LeafStep) → IsStepBelow image size (Some child) (leaves_at image child) g w (start % w) step
          → IsStepBelow image size holder pointers (suc g) (length pointers * w) from (step_at (k * w) later step)

      pub told_node : (w : ℕ) → w ≡ width (levels_below (suc g)) → NodeTold w
      told_node w wide = subst NodeTold (sym wide) (λ at near step told.
          step_above image size holder pointers (suc g) from k start at.first at.is later at.after step
          (node_at image size holder pointers g k at.first.2 from start at.first at.is near step told))

      -- its pointer is past the end, or the first past the end is below it
      abbrev PastTold : Pointer → ℕ → Type 0
      PastTold p w = IsTurn pointers w from k start later → IsPastBelow image size holder pointers (levels_below (suc g)) from p

      pub told_far : (w : ℕ) → w ≡ width (levels_below (suc g)) → (p : Pointer) → p ≡ record { holder = holder; block = child } → IsPast size p.block → PastTold p w
      told_far w wide p same past = subst (PastTold p) (sym wide) (λ at. past_here image size holder pointers g k at.first.2 from start at.first at.is p same past)

      pub told_past : (w : ℕ) → w ≡ width (levels_below (suc g)) → ¬ IsPast size child → (p : Pointer) → IsPastBelow image size (Some child) (leaves_at image child) (levels_below g) (start % w) p → PastTold p w
      told_past w wide near p past =
          subst (λ (v : ℕ). IsPastBelow image size (Some child) (leaves_at image child) (levels_below g) (start % v) p → PastTold p v) (sym wide)
          (λ past at. past_below image size holder pointers g k at.first.2 from start at.first at.is near p past) past

      -- on any disk
      abbrev WithinTold : ℕ → Type 0
      WithinTold w = IsTurn pointers w from k start later → (step : LeafStep) → IsStepWithin w (start % w) step → IsStepWithin (length pointers * w) from (step_at (k * w) later step)

      pub told_within : (w : ℕ) → w ≡ width (levels_below (suc g)) → WithinTold w
      told_within w wide =
          subst WithinTold (sym wide) (λ at step within. within_above image size holder pointers (suc g) from k start at.first at.is later at.after step (λ none. (width (levels_below g), refl)) within)

-- what is told of a node that was read from the disk as it stood
pub child_told : (i image : Image) (m size b : ℕ) (leaves : List ℕ) (g count w from : ℕ) (step : LeafStep) → i ≡ image → m ≡ size → leaves ≡ leaves_at image b → count ≡ w → IsStepBelow i m (Some b) leaves g count from step
    → IsStepBelow image size (Some b) (leaves_at image b) g w from step
child_told i image m size b leaves g count w from step same sized are few is =
    subst (λ (n : ℕ). IsStepBelow image size (Some b) (leaves_at image b) g n from step) few
    (subst (λ (ls : List ℕ). IsStepBelow image size (Some b) ls g count from step) are
    (subst (λ (n : ℕ). IsStepBelow image n (Some b) leaves g count from step) sized
    (subst (λ (j : Image). IsStepBelow j m (Some b) leaves g count from step) same is)))
