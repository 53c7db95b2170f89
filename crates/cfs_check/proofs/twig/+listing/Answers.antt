use Rattle.std.proofs.Common.{rules, ◌≡◌, ◌≢◌, ◌+◌, ◌-◌, ◌*◌, ◌<◌, ◌≤◌, ◌∷◌, [], ◌++◌, ℕ, List, length, take, get_or, sym, ◌∙◌, ap, subst, arith, append_assoc, append-nil}
use Rattle.block_tree.specs.Pointers.{leaf_limit, leaf_pointers, levels_below, pointers_of, width}
use Rattle.cfs_base.specs.Disk.{block_at}
use Rattle.cfs_check.specs.Twigs.{Twig, rows, twig}
use Rattle.cfs_recover.specs.declared.spot.Spot.{Spot}
use Rattle.cfs_check.proofs.Rows.{row_leaf, row_node, row_none, row_past, rows_more}
use Rattle.cfs_recover.proofs.Trees.{fit_by, its_number, one_fits, width_of}
use Rattle.cfs_check.proofs.twig.+listing.Goals as goal
use Rattle.cfs_check.proofs.twig.+listing.Goals.{list_twig-In_ok-push}

-- ---- what one pointer leads to

pub list_twig-spot_of-requires : goal.list_twig-spot_of-requires
list_twig-spot_of-requires t c = its_number c.args.at.number c.args.at.height c.requires.fits

-- the block itself is listed first
first : (t : ℕ) (c : list_twig-In_ok-push t) → c.push.new.self.items ≡ c.args.twigs.now.items ++ twig c.args.stem (levels_below c.args.at.height) c.args.at.holder c.args.at.number c.args.at.block ∷ []
first t c = c.in_ok-push.ensures.items ∙ ap (λ (s : Spot). c.args.twigs.now.items ++ record { spot = s; extent = c.args.stem.extent } ∷ []) c.spot_of.ensures

some : (n : ℕ) → 0 < n → n ≢ 0
some n positive none = omega arith

pub list_twig-returns-then-at-eq0 : goal.list_twig-returns-then-at-eq0
list_twig-returns-then-at-eq0 t c =
    let at = c.args.at in
    first t (goal.at-list_twig-returns-then-at-eq0 t c).In_ok-push
    ∙ ap (λ (ts : List Twig). c.args.twigs.now.items ++ ts) (sym (row_leaf c.args.image.now c.args.stem at.height at.holder at.number at.block c.if-at-eq0.true (some at.block c.requires.some)))

pub list_twig-returns-then-at-blocks : goal.list_twig-returns-then-at-blocks
list_twig-returns-then-at-blocks t c =
    let at = c.args.at in
    first t (goal.at-list_twig-returns-then-at-blocks t c).In_ok-push
    ∙ ap (λ (ts : List Twig). c.args.twigs.now.items ++ ts)
    (sym (row_past c.args.image.now c.args.stem at.height at.holder at.number at.block c.if-at-eq0.false (some at.block c.requires.some) (omega (arith, c.if-at-blocks.true))))

pub list_twig-list_below-requires : goal.list_twig-list_below-requires
list_twig-list_below-requires t c =
    let at = c.args.at in
    let count : length c.decode-node.result.leaves ≡ leaf_pointers.count = omega arith in
    let fits : (at.number + 1) * (length c.decode-node.result.leaves * width (levels_below (at.height - 1))) ≤ leaf_limit =
    subst (λ (n : ℕ). (at.number + 1) * (n * width (levels_below (at.height - 1))) ≤ leaf_limit) (sym count)
    (subst (λ (w : ℕ). (at.number + 1) * w ≤ leaf_limit) (width_of at.height c.if-at-eq0.false) c.requires.fits) in
    let few = fit_by at.number (length c.decode-node.result.leaves) (at.height - 1) fits in
    let smaller : 2 * (at.height - 1) + 1 < 2 * at.height = omega (arith, c.if-at-eq0.false) in
    search rules

pub list_twig-returns : goal.list_twig-returns
list_twig-returns t c =
    let at = c.args.at in
    let stem = c.args.stem in
    let content = block_at c.args.image.now at.block in
    let leaves : c.decode-node.result.leaves ≡ pointers_of leaf_pointers content = c.decode-node.ensures.pointers ∙ ap (pointers_of leaf_pointers) c.block.ensures in
    let count : length c.decode-node.result.leaves ≡ leaf_pointers.count = omega arith in
    c.in_ok-list_below.ensures
    ∙ (λ i. first t (goal.at-list_twig-returns t c).In_ok-push i ++ rows c.args.image.now stem (levels_below (at.height - 1)) at.block (at.number * count i) (leaves i))
    ∙ append_assoc c.args.twigs.now.items (twig stem (levels_below at.height) at.holder at.number at.block ∷ []) (rows c.args.image.now stem (levels_below (at.height - 1)) at.block (at.number * leaf_pointers.count) (pointers_of leaf_pointers content))
    ∙ ap (λ (ts : List Twig). c.args.twigs.now.items ++ ts) (sym (row_node c.args.image.now stem at.height at.holder at.number at.block c.if-at-eq0.false (some at.block c.requires.some)))

-- ---- all to which pointers lead

pub list_below-list_twig-requires : goal.list_below-list_twig-requires
list_below-list_twig-requires t c =
    let h = c.args.at.height in
    let fits : (c.args.at.number * length c.args.pointers.now + c.loop-place.place + 1) * width (levels_below h) ≤ leaf_limit =
    one_fits c.args.at.number (length c.args.pointers.now) c.loop-place.place h (omega (arith, c.loop-place-test.true)) c.requires.fits in
    let smaller : 2 * h < 2 * h + 1 = omega arith in
    search rules

pub list_below-loop-place-preserved-then-block-eq0 : goal.list_below-loop-place-preserved-then-block-eq0
list_below-loop-place-preserved-then-block-eq0 t c =
    let image = c.args.image.now in
    let at = c.args.at in
    let ps = c.args.pointers.now in
    let k = c.loop-place.place in
    let stem = c.args.stem in
    let from = at.number * length ps in
    c.loop-place.invariant
    ∙ sym (ap (λ (ts : List Twig). c.args.twigs.now.items ++ ts) (rows_more image stem (levels_below at.height) at.block from ps k (omega (arith, c.loop-place-test.true))
    ∙ ap (λ (ts : List Twig). rows image stem (levels_below at.height) at.block from (take k ps) ++ ts)
    (ap (λ (n : ℕ). rows image stem (levels_below at.height) at.block (from + k) (n ∷ [])) c.if-block-eq0.true ∙ row_none image stem (levels_below at.height) at.block (from + k))
    ∙ append-nil (rows image stem (levels_below at.height) at.block from (take k ps))))

pub list_below-loop-place-preserved : goal.list_below-loop-place-preserved
list_below-loop-place-preserved t c =
    let image = c.args.image.now in
    let at = c.args.at in
    let ps = c.args.pointers.now in
    let k = c.loop-place.place in
    let stem = c.args.stem in
    let from = at.number * length ps in
    let one = rows image stem (levels_below at.height) at.block (from + k) (get_or ps k 0 ∷ []) in
    c.in_ok-list_twig.ensures
    ∙ ap (λ (ts : List Twig). ts ++ one) c.loop-place.invariant
    ∙ append_assoc c.args.twigs.now.items (rows image stem (levels_below at.height) at.block from (take k ps)) one
    ∙ sym (ap (λ (ts : List Twig). c.args.twigs.now.items ++ ts) (rows_more image stem (levels_below at.height) at.block from ps k (omega (arith, c.loop-place-test.true))))
