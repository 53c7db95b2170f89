use Rattle.std.proofs.Common.{rules, ◌≡◌, ◌≢◌, ◌+◌, ◌-◌, ◌*◌, ◌/◌, ◌%◌, ◌<◌, ◌≤◌, ℕ, suc, List, length, get_or, max, refl, sym, ◌∙◌, subst, arith, IfSome, Option, Some, None}
use Rattle.block_tree.proofs.Words.{Err, HeldStep, IsPast, LeafStep, err_from_is_err_and, leaf_limit, leaf_pointers, levels_below, tells_on, width}
use Rattle.block_tree.proofs.Descents.{narrower}
use Rattle.block_tree.proofs.Faults.{later_fault, refused_as}
use Rattle.block_tree.proofs.Nodes.{leaves_there}
use Rattle.block_tree.proofs.Steps.{as_many, child_told, few_below, few_places, some_wide, told_far, told_leaf, told_node, told_none, told_past, told_within}
use Rattle.block_tree.specs.Step.{IsHeldAmong, IsPastBelow, IsStepBelow, IsStepWithin, step_at}
use Rattle.std.proofs.Math.Nat.{mul-le-mul_right}
use Rattle.block_tree.proofs.step.+step_below.Goals as goal
use Rattle.block_tree.proofs.step.+step_below.Goals.{After-above-2}

-- the height is one more than that of the nodes
one_more : (h : ℕ) → h ≢ 0 → suc (h - 1) ≡ h
one_more h more = omega (arith, more)

wide_so : (h w : ℕ) → h ≢ 0 → w ≡ width (levels_below h) → w ≡ width (levels_below (suc (h - 1)))
wide_so h w more = subst (λ (n : ℕ). w ≡ width (levels_below n)) (sym (one_more h more))

near_by : (size block : ℕ) → block < size → ¬ IsPast size block
near_by size block less past = absurd (omega (arith, less, past.1))

pub nonzero_div-from : goal.nonzero_div-from
nonzero_div-from g t c = some_wide _ _ c.requires.width

pub returns-in_default-clause-step : goal.returns-in_default-clause-step
returns-in_default-clause-step g t c tells = told_none (g.D.Disk.content c.args.disk.now) (g.D.Disk.blocks c.args.disk.now) c.args.holder c.args.pointers.now c.args.from c.args.height c.args.width c.requires.width c.in_default.ensures

pub overflow_cast-base : goal.overflow_cast-base
overflow_cast-base g t c =
    let few = few_places c.in-Some.place (length c.args.pointers.now) c.args.width c.in-Some.ensures.1 (some_wide _ _ c.requires.width) in
    omega (arith, few, c.requires.few)

pub later-later-requires-clause-some : goal.later-later-requires-clause-some
later-later-requires-clause-some g t c = some_wide _ _ c.requires.width

-- ---- a leaf

pub returns-then-height-eq0-clause-step : goal.returns-then-height-eq0-clause-step
returns-then-height-eq0-clause-step g t c tells =
    let image = g.D.Disk.content c.args.disk.now in
    let size = g.D.Disk.blocks c.args.disk.now in
    let k : ℕ = c.in-Some.place in
    let start : ℕ = max c.args.from (k * c.args.width) in
    subst (IsStepBelow image size c.args.holder c.args.pointers.now c.args.height (length c.args.pointers.now * c.args.width) c.args.from) (sym c.above.ensures)
    (told_leaf image size c.args.holder c.args.pointers.now c.args.from k start c.later-later.result c.args.height c.args.width c.if-height-eq0.true c.requires.width (record { first = c.in-Some.ensures; is = refl; after = c.later-later.ensures })).0

pub returns-then-height-eq0-clause-within : goal.returns-then-height-eq0-clause-within
returns-then-height-eq0-clause-within g t c =
    let image = g.D.Disk.content c.args.disk.now in
    let size = g.D.Disk.blocks c.args.disk.now in
    let k : ℕ = c.in-Some.place in
    let start : ℕ = max c.args.from (k * c.args.width) in
    subst (IsStepWithin (length c.args.pointers.now * c.args.width) c.args.from) (sym c.above.ensures)
    (told_leaf image size c.args.holder c.args.pointers.now c.args.from k start c.later-later.result c.args.height c.args.width c.if-height-eq0.true c.requires.width (record { first = c.in-Some.ensures; is = refl; after = c.later-later.ensures })).1

-- ---- a node

pub returns-in_err-node-clause-refused : goal.returns-in_err-node-clause-refused
returns-in_err-node-clause-refused g t c =
    let image = g.D.Disk.content c.args.disk.now in
    let size = g.D.Disk.blocks c.args.disk.now in
    let h : ℕ = c.args.height in
    let k : ℕ = c.in-Some.place in
    let start : ℕ = max c.args.from (k * c.args.width) in
    let more = c.if-height-eq0.false in
    let is = err_from_is_err_and c.from_residual.result c.from_residual.ensures.1 in
    rw (is.1, is.2) (refused_as {X = LeafStep} g.D.Disk c.args.disk.now c.node_at.new.disk (λ p. p ≡ record { holder = c.args.holder; block = get_or c.args.pointers.now k 0 })
    (IsPastBelow image size c.args.holder c.args.pointers.now (levels_below h) c.args.from) (Err c.in_err-node.field-0.0)
    (λ p past at. subst (λ (n : ℕ). IsPastBelow image size c.args.holder c.args.pointers.now (levels_below n) c.args.from p) (one_more h more)
    (told_far image size c.args.holder c.args.pointers.now c.args.from k start c.later-later.result (h - 1) c.args.width (wide_so h c.args.width more c.requires.width) p at past (record { first = c.in-Some.ensures; is = refl; after = c.later-later.ensures })))
    c.in_err-node.ensures.refused)

pub nonzero_rem-max : goal.nonzero_rem-max
nonzero_rem-max g t c = some_wide _ _ c.requires.width

pub step_below-requires : goal.step_below-requires
step_below-requires g t c κs within =
    let h : ℕ = c.args.height in
    let w : ℕ = c.args.width in
    let count : length c.in_ok-node.node.leaves ≡ leaf_pointers.count = omega arith in
    let narrow = narrower h (h - 1) w (omega (arith, c.if-height-eq0.false)) c.requires.width in
    let few : length c.in_ok-node.node.leaves * (w / leaf_pointers.count) ≤ leaf_limit =
    omega (arith, as_many h w (length c.in_ok-node.node.leaves) c.if-height-eq0.false c.requires.width count, few_below c.in-Some.place (length c.args.pointers.now) w c.in-Some.ensures.1, c.requires.few) in
    let smaller : h - 1 < h = omega (arith, c.if-height-eq0.false) in
    search rules

pub returns-in_err-below-clause-refused : goal.returns-in_err-below-clause-refused
returns-in_err-below-clause-refused g t c =
    let image = g.D.Disk.content c.args.disk.now in
    let size = g.D.Disk.blocks c.args.disk.now in
    let h : ℕ = c.args.height in
    let w : ℕ = c.args.width in
    let k : ℕ = c.in-Some.place in
    let b : ℕ = get_or c.args.pointers.now k 0 in
    let start : ℕ = c.max.result in
    let more = c.if-height-eq0.false in
    let is = err_from_is_err_and c.from_residual-in_err-below.result c.from_residual-in_err-below.ensures.1 in
    rw (is.1, is.2) (later_fault {X = LeafStep} g.D.Disk c.args.disk.now c.node_at.new.disk c.step_below.new.disk 1
    (λ i n. IsPastBelow i n (Some b) c.in_ok-node.node.leaves (levels_below (h - 1)) (start % w))
    (IsPastBelow image size c.args.holder c.args.pointers.now (levels_below h) c.args.from) (Err c.in_err-below.field-0.0) c.in_ok-node.ensures.reads
    (λ p tells far past. subst (λ (n : ℕ). IsPastBelow image size c.args.holder c.args.pointers.now (levels_below n) c.args.from p) (one_more h more)
    (told_past image size c.args.holder c.args.pointers.now c.args.from k start c.later-later.result (h - 1) w (wide_so h w more c.requires.width) (near_by size b c.in_ok-node.ensures.there) p
    (subst (λ (ls : List ℕ). IsPastBelow image size (Some b) ls (levels_below (h - 1)) (start % w) p) (c.in_ok-node.ensures.pointers tells ∙ sym (leaves_there image b c.in-Some.ensures.2)) past)
    (record { first = c.in-Some.ensures; is = omega (arith, c.max.ensures); after = c.later-later.ensures })))
    c.in_err-below.ensures.refused)

-- ---- below it

found_few : (base count from most : ℕ) (f : Option HeldStep) → base + count ≤ most → IfSome f (IsHeldAmong count from) → IfSome f (λ step. base + step.held.leaf < most)
found_few base count from most None few is = tt
found_few base count from most (Some step) few is = omega (arith, few, is.inside)

next_few : (base count from most : ℕ) (n : Option ℕ) → base + count ≤ most → IfSome n (λ m. (from < m) × (m < count)) → IfSome n (λ m. base + m < most)
next_few base count from most None few is = tt
next_few base count from most (Some m) few is = omega (arith, few, is.1)

inside_all : (k n w : ℕ) → k < n → k * w + w ≤ n * w
inside_all k n w less = let up : (k + 1) * w ≤ n * w = mul-le-mul_right w (let more : k + 1 ≤ n = omega (arith, less) in more) in omega (arith, up)

pub above-requires-2-clause-found : goal.above-requires-2-clause-found
above-requires-2-clause-found g t c =
    let w : ℕ = c.args.width in
    let k : ℕ = c.in-Some.place in
    let n : ℕ = length c.in_ok-node.node.leaves in
    let count : n ≡ leaf_pointers.count = omega arith in
    found_few (k * w) (n * (w / leaf_pointers.count)) (c.max.result % w) leaf_limit c.in_ok-below.below.found
    (omega (arith, as_many c.args.height w n c.if-height-eq0.false c.requires.width count, inside_all k (length c.args.pointers.now) w c.in-Some.ensures.1, c.requires.few)) c.in_ok-below.ensures.within.found

pub above-requires-2-clause-next : goal.above-requires-2-clause-next
above-requires-2-clause-next g t c =
    let w : ℕ = c.args.width in
    let k : ℕ = c.in-Some.place in
    let n : ℕ = length c.in_ok-node.node.leaves in
    let count : n ≡ leaf_pointers.count = omega arith in
    next_few (k * w) (n * (w / leaf_pointers.count)) (c.max.result % w) leaf_limit c.in_ok-below.below.next
    (omega (arith, as_many c.args.height w n c.if-height-eq0.false c.requires.width count, inside_all k (length c.args.pointers.now) w c.in-Some.ensures.1, c.requires.few)) c.in_ok-below.ensures.within.next

-- ---- what is answered

pub returns-clause-step : goal.returns-clause-step
returns-clause-step g t c tells =
    let image = g.D.Disk.content c.args.disk.now in
    let size = g.D.Disk.blocks c.args.disk.now in
    let h : ℕ = c.args.height in
    let w : ℕ = c.args.width in
    let k : ℕ = c.in-Some.place in
    let b : ℕ = get_or c.args.pointers.now k 0 in
    let start : ℕ = c.max.result in
    let more = c.if-height-eq0.false in
    let leaves = c.in_ok-node.node.leaves in
    let count : length leaves ≡ leaf_pointers.count = omega arith in
    let reads = c.in_ok-node.ensures.reads in
    let child = child_told (g.D.Disk.content c.node_at.new.disk) image (g.D.Disk.blocks c.node_at.new.disk) size b leaves (h - 1) (length leaves * (w / leaf_pointers.count)) w (start % w) c.in_ok-below.below reads.content reads.same.size
    (c.in_ok-node.ensures.pointers tells ∙ sym (leaves_there image b c.in-Some.ensures.2)) (as_many h w (length leaves) more c.requires.width count) (c.in_ok-below.ensures.step (tells_on g.D.Disk c.args.disk.now c.node_at.new.disk c.node_at.new.disk 1 reads tells)) in
    subst (IsStepBelow image size c.args.holder c.args.pointers.now h (length c.args.pointers.now * w) c.args.from) (sym c.above-2.ensures)
    (subst (λ (n : ℕ). IsStepBelow image size c.args.holder c.args.pointers.now n (length c.args.pointers.now * w) c.args.from (step_at (k * w) c.later-later.result c.in_ok-below.below)) (one_more h more)
    (told_node image size c.args.holder c.args.pointers.now c.args.from k start c.later-later.result (h - 1) w (wide_so h w more c.requires.width) (record { first = c.in-Some.ensures; is = omega (arith, c.max.ensures); after = c.later-later.ensures })
    (near_by size b c.in_ok-node.ensures.there) c.in_ok-below.below child))

pub returns-clause-within : goal.returns-clause-within
returns-clause-within g t c =
    let h : ℕ = c.args.height in
    let w : ℕ = c.args.width in
    let k : ℕ = c.in-Some.place in
    let start : ℕ = c.max.result in
    let more = c.if-height-eq0.false in
    let leaves = c.in_ok-node.node.leaves in
    let count : length leaves ≡ leaf_pointers.count = omega arith in
    subst (IsStepWithin (length c.args.pointers.now * w) c.args.from) (sym c.above-2.ensures)
    (told_within (g.D.Disk.content c.args.disk.now) (g.D.Disk.blocks c.args.disk.now) c.args.holder c.args.pointers.now c.args.from k start c.later-later.result (h - 1) w (wide_so h w more c.requires.width)
    (record { first = c.in-Some.ensures; is = omega (arith, c.max.ensures); after = c.later-later.ensures }) c.in_ok-below.below
    (subst (λ (n : ℕ). IsStepWithin n (start % w) c.in_ok-below.below) (as_many h w (length leaves) more c.requires.width count) c.in_ok-below.ensures.within))
