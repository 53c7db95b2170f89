use Rattle.std.proofs.Common.{rules, ◌≡◌, ◌≢◌, ◌+◌, ◌-◌, ◌*◌, ◌<◌, ◌≤◌, ℕ, length, refl, sym, ap, subst, arith, below_more}
use Rattle.cfs_recover.proofs.Words.{Ghosts, IsGoodAt, IsInPlace, OnlyReads, Spot, SpotFault, add-mul, levels_below, reads_by_height, reads_then, reads_within, sum_run, width, leaf_limit, leaf_pointers}
use Rattle.cfs_recover.specs.Reads.{reads_below, reads_of_leaf, reads_through}
use Rattle.cfs_recover.proofs.Counting.{below_leaf, below_some, node_then, one_pointer, run_last, run_within, with_one, with_one_of}
use Rattle.cfs_recover.proofs.Good.{all_on, good_leaf, good_with}
use Rattle.cfs_recover.proofs.Noting.{grows_then}
use Rattle.cfs_recover.proofs.Objects.{node_pointers_of, spot_fault}
use Rattle.cfs_recover.proofs.Refused.{stored_on, told_err, told_on, walks_on}
use Rattle.cfs_recover.proofs.Trees.{fit_by, its_number, one_fits, reads_more, reads_some, width_of}
use Rattle.cfs_recover.proofs.walk_below.+levels.Goals as goal

-- ---- a block and all below it

pub walk_twig-spot_of-requires : goal.walk_twig-spot_of-requires
walk_twig-spot_of-requires g t c = its_number c.args.twig.number c.args.twig.height c.requires.fits

pub walk_twig-returns-in_err-check_spot-clause-told : goal.walk_twig-returns-in_err-check_spot-clause-told
walk_twig-returns-in_err-check_spot-clause-told g t c image done walks has =
    told_err _ _ _ _ c.from_residual.ensures.1
    (spot_fault image c.args.owner c.args.root.now c.args.twig has _ (subst (λ (s : Spot). SpotFault image s c.in_err-check_spot.field-0.0) c.spot_of.ensures (c.in_err-check_spot.ensures.told image walks.maps_are)))

pub walk_twig-walk_leaf-requires-clause-there : goal.walk_twig-walk_leaf-requires-clause-there
walk_twig-walk_leaf-requires-clause-there g t c = omega (arith, c.in_ok-check_spot.ensures.on_disk, ap (λ (s : Spot). s.block) c.spot_of.ensures, c.requires.maps)

pub walk_twig-returns-in_err-walk_leaf-clause-told : goal.walk_twig-returns-in_err-walk_leaf-clause-told
walk_twig-returns-in_err-walk_leaf-clause-told g t c image done walks has =
    told_on _ _ _ _ _ c.from_residual-in_err-walk_leaf.ensures.1 (c.in_err-walk_leaf.ensures.told image c.args.owner done walks.stored walks.walk has c.if-twig-eq0.true) (λ d wrong. wrong)

pub walk_twig-returns-then-twig-eq0-clause-told : goal.walk_twig-returns-then-twig-eq0-clause-told
walk_twig-returns-then-twig-eq0-clause-told g t c image done walks has =
    let place = subst (IsInPlace image) c.spot_of.ensures (c.in_ok-check_spot.ensures.told image walks.maps_are) in
    let last = c.if-twig-eq0.true in
    let leaf = c.in_ok-walk_leaf.ensures.told image c.args.owner done walks.stored walks.walk has last in (
      walks_on g.D.Disk c.args.disk.now c.walk_leaf.new.disk 1 image c.args.maps.now c.args.walk.now _ done c.in_ok-walk_leaf.ensures.reads walks leaf.0,
      good_leaf image c.args.owner c.args.root.now _ c.args.twig.height c.args.twig.number c.args.twig.block last (record {
        on_disk = place.on_disk;
        owned = place.owned;
        held = c.in_ok-walk_leaf.ensures.held;
        leads_on = λ more. absurd (more last);
        leaf = λ is. leaf.1;
      }),
    )

pub walk_twig-returns-in_err-node-clause-told : goal.walk_twig-returns-in_err-node-clause-told
walk_twig-returns-in_err-node-clause-told g t c image done walks has =
    told_on _ _ _ _ _ c.from_residual-in_err-node.ensures.1
    (c.in_err-node.ensures.told image c.args.owner done c.args.root.now walks.stored walks.walk has c.if-twig-eq0.false) (λ d wrong. wrong)

pub walk_twig-returns-in_err-node-clause-reads : goal.walk_twig-returns-in_err-node-clause-reads
walk_twig-returns-in_err-node-clause-reads g t c = reads_within g.D.Disk _ _ 1 (reads_by_height c.args.twig.height) (reads_some c.args.twig.height) c.in_err-node.ensures.reads

pub walk_twig-walk_below-requires : goal.walk_twig-walk_below-requires
walk_twig-walk_below-requires g t c =
    let count : length c.in_ok-node.node.leaves ≡ leaf_pointers.count = omega arith in
    let room : g.D.Disk.blocks c.walk_node.new.disk ≡ c.walk_node.new.walk.directory.room = omega (arith, c.requires.room, c.in_ok-node.ensures.grows.room, c.in_ok-node.ensures.reads.same.size) in
    let maps : g.D.Disk.blocks c.walk_node.new.disk ≡ 64 * length c.args.maps.now = omega (arith, c.requires.maps, c.in_ok-node.ensures.reads.same.size) in
    let fits : (c.args.twig.number + 1) * (length c.in_ok-node.node.leaves * width (levels_below (c.args.twig.height - 1))) ≤ leaf_limit =
    subst (λ (n : ℕ). (c.args.twig.number + 1) * (n * width (levels_below (c.args.twig.height - 1))) ≤ leaf_limit) (sym count)
    (subst (λ (w : ℕ). (c.args.twig.number + 1) * w ≤ leaf_limit) (width_of c.args.twig.height c.if-twig-eq0.false) c.requires.fits) in
    let few = fit_by c.args.twig.number (length c.in_ok-node.node.leaves) (c.args.twig.height - 1) fits in
    let smaller : 2 * (c.args.twig.height - 1) + 1 < 2 * c.args.twig.height = omega (arith, c.if-twig-eq0.false) in
    search rules

node_reads : {D : Type 0} (g : Ghosts D) (old mid new : D) (h count : ℕ) → h ≢ 0 → count ≡ leaf_pointers.count → OnlyReads g 1 old mid → OnlyReads g (count * reads_by_height (h - 1)) mid new → OnlyReads g (reads_by_height h) old new
node_reads g old mid new h count more is one two =
    reads_then g old mid new 1 (leaf_pointers.count * reads_by_height (h - 1)) (reads_by_height h) one (subst (λ (n : ℕ). OnlyReads g (n * reads_by_height (h - 1)) mid new) is two) (omega (arith, reads_more h more))

pub walk_twig-returns-in_err-walk_below-clause-reads : goal.walk_twig-returns-in_err-walk_below-clause-reads
walk_twig-returns-in_err-walk_below-clause-reads g t c =
    node_reads g.D.Disk _ _ _ _ (length c.in_ok-node.node.leaves) c.if-twig-eq0.false (omega arith) c.in_ok-node.ensures.reads c.in_err-walk_below.ensures.reads

pub walk_twig-returns-clause-reads : goal.walk_twig-returns-clause-reads
walk_twig-returns-clause-reads g t c =
    node_reads g.D.Disk _ _ _ _ (length c.in_ok-node.node.leaves) c.if-twig-eq0.false (omega arith) c.in_ok-node.ensures.reads c.in_ok-walk_below.ensures.reads

pub walk_twig-returns-in_err-walk_leaf-clause-few : goal.walk_twig-returns-in_err-walk_leaf-clause-few
walk_twig-returns-in_err-walk_leaf-clause-few g t c image stored =
    let twig = c.args.twig in
    reads_within g.D.Disk _ _ (reads_of_leaf c.args.root.now twig.number) _ (below_leaf image c.args.root.now twig.height twig.number twig.block c.if-twig-eq0.true) c.in_err-walk_leaf.ensures.few

pub walk_twig-returns-then-twig-eq0-clause-few : goal.walk_twig-returns-then-twig-eq0-clause-few
walk_twig-returns-then-twig-eq0-clause-few g t c image stored =
    let twig = c.args.twig in
    reads_within g.D.Disk _ _ (reads_of_leaf c.args.root.now twig.number) _ (below_leaf image c.args.root.now twig.height twig.number twig.block c.if-twig-eq0.true) c.in_ok-walk_leaf.ensures.few

pub walk_twig-returns-in_err-node-clause-few : goal.walk_twig-returns-in_err-node-clause-few
walk_twig-returns-in_err-node-clause-few g t c image stored =
    let twig = c.args.twig in
    reads_within g.D.Disk _ _ 1 _ (below_some image c.args.root.now twig.height twig.number twig.block c.if-twig-eq0.false) c.in_err-node.ensures.reads

pub walk_twig-returns-in_err-walk_below-clause-few : goal.walk_twig-returns-in_err-walk_below-clause-few
walk_twig-returns-in_err-walk_below-clause-few g t c image stored =
    let twig = c.args.twig in
    node_then g.D.Disk c.args.disk.now c.walk_node.new.disk c.walk_below.new.disk image c.args.root.now twig.height twig.number twig.block c.in_ok-node.node.leaves c.if-twig-eq0.false (c.in_ok-node.ensures.leaves image stored) c.in_ok-node.ensures.reads
    (c.in_err-walk_below.ensures.few image (stored_on g.D.Disk c.args.disk.now c.walk_node.new.disk 1 image c.in_ok-node.ensures.reads stored))

pub walk_twig-returns-clause-few : goal.walk_twig-returns-clause-few
walk_twig-returns-clause-few g t c image stored =
    let twig = c.args.twig in
    node_then g.D.Disk c.args.disk.now c.walk_node.new.disk c.walk_below.new.disk image c.args.root.now twig.height twig.number twig.block c.in_ok-node.node.leaves c.if-twig-eq0.false (c.in_ok-node.ensures.leaves image stored) c.in_ok-node.ensures.reads
    (c.in_ok-walk_below.ensures.few image (stored_on g.D.Disk c.args.disk.now c.walk_node.new.disk 1 image c.in_ok-node.ensures.reads stored))

pub walk_twig-returns-clause-grows : goal.walk_twig-returns-clause-grows
walk_twig-returns-clause-grows g t c = grows_then _ _ _ c.in_ok-node.ensures.grows c.in_ok-walk_below.ensures.grows

pub walk_twig-returns-in_err-walk_below-clause-told : goal.walk_twig-returns-in_err-walk_below-clause-told
walk_twig-returns-in_err-walk_below-clause-told g t c image done walks has =
    let more = c.if-twig-eq0.false in
    let node = c.in_ok-node.ensures.told image c.args.owner done c.args.root.now walks.stored walks.walk has more in
    told_on _ _ _ _ _ c.from_residual-in_err-walk_below.ensures.1 (c.in_err-walk_below.ensures.told image done (walks_on g.D.Disk c.args.disk.now c.walk_node.new.disk 1 image c.args.maps.now c.args.walk.now _ done c.in_ok-node.ensures.reads walks node.0) (node_pointers_of image c.args.owner c.args.root.now c.args.twig has more c.in_ok-node.node.leaves node.1.leaves)) (λ d wrong. wrong)

pub walk_twig-returns-clause-told : goal.walk_twig-returns-clause-told
walk_twig-returns-clause-told g t c image done walks has =
    let more = c.if-twig-eq0.false in
    let place = subst (IsInPlace image) c.spot_of.ensures (c.in_ok-check_spot.ensures.told image walks.maps_are) in
    let node = c.in_ok-node.ensures.told image c.args.owner done c.args.root.now walks.stored walks.walk has more in
    let all = c.in_ok-walk_below.ensures.told image done (walks_on g.D.Disk c.args.disk.now c.walk_node.new.disk 1 image c.args.maps.now c.args.walk.now _ done c.in_ok-node.ensures.reads walks node.0) (node_pointers_of image c.args.owner c.args.root.now c.args.twig has more c.in_ok-node.node.leaves node.1.leaves) in (
      all.0,
      good_with image c.args.owner c.args.root.now c.walk_below.new.walk c.args.twig.height c.args.twig.number c.args.twig.block c.in_ok-node.node.leaves more (record {
        on_disk = place.on_disk;
        owned = place.owned;
        held = c.in_ok-walk_below.ensures.grows.held c.args.twig.block c.in_ok-node.ensures.held;
        leads_on = λ high. node.1.leads_on;
        leaf = λ last. absurd (more last);
      }) node.1.leaves all.1,
    )

-- ---- all to which pointers lead

pub walk_below-walk_twig-requires : goal.walk_below-walk_twig-requires
walk_below-walk_twig-requires g t c =
    let h = c.args.at.height in
    let room : g.D.Disk.blocks c.loop-place.disk ≡ c.loop-place.walk.directory.room = omega (arith, c.requires.room, c.loop-place.invariant.grows.room, c.loop-place.invariant.reads.same.size) in
    let maps : g.D.Disk.blocks c.loop-place.disk ≡ 64 * length c.args.maps.now = omega (arith, c.requires.maps, c.loop-place.invariant.reads.same.size) in
    let fits : (c.args.at.number * length c.args.pointers.now + c.loop-place.place + 1) * width (levels_below h) ≤ leaf_limit =
    one_fits c.args.at.number (length c.args.pointers.now) c.loop-place.place h (omega (arith, c.loop-place-test.true)) c.requires.fits in
    let smaller : 2 * h < 2 * h + 1 = omega arith in
    search rules

pub walk_below-returns-in_err-walk_twig-clause-told : goal.walk_below-returns-in_err-walk_twig-clause-told
walk_below-returns-in_err-walk_twig-clause-told g t c image done walks has =
    told_on _ _ _ _ _ c.from_residual.ensures.1 (c.in_err-walk_twig.ensures.told image done (c.loop-place.invariant.told image done walks has).0
    (record { at = c.args.at; pointers = c.args.pointers.now; k = c.loop-place.place; from = has; is = refl; some = c.if-block-eq0.false })) (λ d wrong. wrong)

pub walk_below-loop-place-preserved-then-block-eq0 : goal.walk_below-loop-place-preserved-then-block-eq0
walk_below-loop-place-preserved-then-block-eq0 g t c =
    let j = c.loop-place.place in
    let r = reads_by_height c.args.at.height in
    let before = c.loop-place.invariant in
    record {
      reads = reads_within g.D.Disk c.args.disk.now c.loop-place.disk (j * r) ((j + 1) * r) (omega (arith, add-mul j 1 r)) before.reads;
      few = λ image stored.
          let f = one_pointer (reads_below image c.args.root.now c.args.at.height) (c.args.at.number * length c.args.pointers.now) c.args.pointers.now in
          reads_within g.D.Disk c.args.disk.now c.loop-place.disk (sum_run f 0 j) (sum_run f 0 (j + 1)) (omega (arith, run_last f j)) (before.few image stored);
      grows = before.grows;
      told = λ image done walks has.
          let were = before.told image done walks has in
          (were.0, below_more (IsGoodAt image c.args.owner c.args.root.now c.loop-place.walk c.args.at c.args.pointers.now) j were.1 (λ some. absurd (some c.if-block-eq0.true)));
    }

pub walk_below-loop-place-preserved : goal.walk_below-loop-place-preserved
walk_below-loop-place-preserved g t c =
    let j = c.loop-place.place in
    let r = reads_by_height c.args.at.height in
    let before = c.loop-place.invariant in
    let grows = c.in_ok-walk_twig.ensures.grows in
    record {
      reads = reads_then g.D.Disk c.args.disk.now c.loop-place.disk c.walk_twig.new.disk (j * r) r ((j + 1) * r) before.reads c.in_ok-walk_twig.ensures.reads (omega (arith, add-mul j 1 r));
      few = λ image stored.
          let reads = reads_below image c.args.root.now c.args.at.height in
          let first = c.args.at.number * length c.args.pointers.now in
          reads_then g.D.Disk c.args.disk.now c.loop-place.disk c.walk_twig.new.disk _ _ (sum_run (one_pointer reads first c.args.pointers.now) 0 (j + 1)) (before.few image stored)
          (c.in_ok-walk_twig.ensures.few image (stored_on g.D.Disk c.args.disk.now c.loop-place.disk _ image before.reads stored))
          (with_one reads first c.args.pointers.now j c.if-block-eq0.false);
      grows = grows_then c.args.walk.now c.loop-place.walk c.walk_twig.new.walk before.grows grows;
      told = λ image done walks has.
          let were = before.told image done walks has in
          let now = c.in_ok-walk_twig.ensures.told image done were.0 (record { at = c.args.at; pointers = c.args.pointers.now; k = j; from = has; is = refl; some = c.if-block-eq0.false }) in (
            now.0,
            below_more (IsGoodAt image c.args.owner c.args.root.now c.walk_twig.new.walk c.args.at c.args.pointers.now) j
                (λ i less some. all_on image c.args.owner c.args.root.now c.loop-place.walk c.walk_twig.new.walk grows _ _ _ (were.1 i less some)) (λ some. now.1),
          );
    }

pub walk_below-returns-in_err-walk_twig-clause-few : goal.walk_below-returns-in_err-walk_twig-clause-few
walk_below-returns-in_err-walk_twig-clause-few g t c image stored =
    let j = c.loop-place.place in
    let before = c.loop-place.invariant in
    let reads = reads_below image c.args.root.now c.args.at.height in
    let first = c.args.at.number * length c.args.pointers.now in
    reads_then g.D.Disk c.args.disk.now c.loop-place.disk c.walk_twig.new.disk _ _ (reads_through reads first c.args.pointers.now) (before.few image stored)
    (c.in_err-walk_twig.ensures.few image (stored_on g.D.Disk c.args.disk.now c.loop-place.disk _ image before.reads stored))
    (with_one_of reads first c.args.pointers.now j (omega (arith, c.loop-place-test.true)) c.if-block-eq0.false)

pub walk_below-returns-clause-few : goal.walk_below-returns-clause-few
walk_below-returns-clause-few g t c image stored =
    let f = one_pointer (reads_below image c.args.root.now c.args.at.height) (c.args.at.number * length c.args.pointers.now) c.args.pointers.now in
    reads_within g.D.Disk c.args.disk.now c.loop-place.disk (sum_run f 0 c.loop-place.place) (sum_run f 0 (length c.args.pointers.now))
    (run_within f c.loop-place.place (length c.args.pointers.now) (omega arith)) (c.loop-place.invariant.few image stored)

pub walk_below-returns-clause-told : goal.walk_below-returns-clause-told
walk_below-returns-clause-told g t c image done walks has =
    let were = c.loop-place.invariant.told image done walks has in
    (were.0, λ j small some. were.1 j (omega (arith, small, c.loop-place-test.false)) some)
