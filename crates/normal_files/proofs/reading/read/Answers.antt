use Rattle.normal_files.proofs.Words.{◌≡◌, ℕ, ◌+◌, ◌-◌, ◌*◌, ◌/◌, ◌≤◌, List, length, sym, ◌∙◌, ap, subst, arith, slice_range, Image, block_at, reads_then, reads_within, IsReadTo, leaf_block, leaf_in, tree_in, leaves_in, length-overlaid, node_levels, read_more, root_spelling, with_leaf_copied}
use Rattle.block_tree.specs.Along.{IsNearTree, IsTo, IsWay, IsWayWithin}
use Rattle.normal_files.proofs.LeafReads.{leaf_is_read, part_is, read_before, read_on, reads_leaf, reads_touched}
use Rattle.normal_files.proofs.Refusals.{stopped_is, stopped_undamaged, tells_after, trouble_after_reads, way_refused}
use Rattle.normal_files.proofs.Trees.{near_tree}
use Rattle.ufs_model.specs.declared.object.Object.TheVariants as objects
use Rattle.cfs_base.proofs.Passed.{is_passed}
use Rattle.normal_files.proofs.reading.read.Goals as goal
use Rattle.leaf_changes.specs.Tops.{root_top}

pub get-requires : goal.get-requires
get-requires g c = record {
  some = omega (arith, c.requires.on_disk, c.loop-leaf.invariant.reads.same.size);
  below = omega (arith, c.loop-leaf-test.true, c.touched-leaves.ensures.to, c.requires.inside, c.loop-leaf.invariant.long);
  within = subst (λ (n : ℕ). IsWayWithin n c.loop-leaf.way) (sym c.loop-leaf.invariant.reads.same.size) c.loop-leaf.invariant.within;
}

pub returns-in_err-block-clause-refused : goal.returns-in_err-block-clause-refused
returns-in_err-block-clause-refused g c =
    let t = c.in_err-block.field-0.0 in
    rw (is_passed c.from_residual.result t c.from_residual.ensures.1)
    (trouble_after_reads g.D.Disk (root_top c.args.at.0 c.args.root.now) c.args.disk.now c.loop-leaf.disk c.get.new.disk _ t c.loop-leaf.invariant.reads (way_refused g.D.Disk c.args.at.0 c.args.root.now c.loop-leaf.disk c.get.new.disk t c.in_err-block.ensures.refused))

pub returns-in_err-block-clause-sound : goal.returns-in_err-block-clause-sound
returns-in_err-block-clause-sound g c = λ f tells file rooted.
    let d = c.args.disk.now in
    let mid = c.loop-leaf.disk in
    let image = g.D.Disk.content d in
    let size = g.met.D.Disk.sized d tells.honest in
    let reads = c.loop-leaf.invariant.reads in
    let is = near_tree image (block_at image c.args.at.0) c.args.root.now rooted (length image) file.owner file.root (objects.File f) file.tree (omega (arith, c.requires.on_disk, size)) in
    rw (is_passed c.from_residual.result c.in_err-block.field-0.0 c.from_residual.ensures.1)
    (c.in_err-block.ensures.sound (tells_after g.D.Disk d mid reads tells) (subst (λ (i : Image). IsWay i c.args.root.now c.loop-leaf.way) (sym reads.content) (c.loop-leaf.invariant.way tells))
    (subst (λ (s : ℕ). IsNearTree s (g.D.Disk.content mid) (root_spelling c.args.root.now)) (size ∙ sym reads.same.size)
    (subst (λ (i : Image). IsNearTree (length image) i (root_spelling c.args.root.now)) (sym reads.content) is)))

pub returns-in_err-content-clause-refused : goal.returns-in_err-content-clause-refused
returns-in_err-content-clause-refused g c =
    let t = c.in_err-content.field-0.0 in
    let one = c.in_ok-block.ensures.reads 0 (omega arith) (λ d none. absurd (omega (arith, none))) in
    let before = read_before (c.args.offset / 512) c.loop-leaf.leaf in
    let both = reads_then g.D.Disk c.args.disk.now c.loop-leaf.disk c.get.new.disk before node_levels (before + node_levels) c.loop-leaf.invariant.reads one (omega arith) in
    rw (is_passed c.from_residual-in_err-content.result t c.from_residual-in_err-content.ensures.1)
    (trouble_after_reads g.D.Disk (root_top c.args.at.0 c.args.root.now) c.args.disk.now c.get.new.disk c.read_block.new.disk _ t both (stopped_is g.D.Disk (root_top c.args.at.0 c.args.root.now) c.get.new.disk c.read_block.new.disk t c.in_err-content.ensures.refused))

pub returns-in_err-content-clause-sound : goal.returns-in_err-content-clause-sound
returns-in_err-content-clause-sound g c = λ f tells file rooted.
    rw (is_passed c.from_residual-in_err-content.result c.in_err-content.field-0.0 c.from_residual-in_err-content.ensures.1)
    (stopped_undamaged g.D.Disk c.get.new.disk c.read_block.new.disk c.in_err-content.field-0.0 c.in_err-content.ensures.refused)

pub returns-clause-read : goal.returns-clause-read
returns-clause-read g c = λ f tells file rooted inside.
    let image = g.D.Disk.content c.args.disk.now in
    let part = c.loop-leaf.into in
    let long : length part ≡ length c.args.into.now = c.loop-leaf.invariant.long in
    let all = read_on c.args.root.now.fill (leaf_in (tree_in image (block_at image c.args.at.0))) c.args.offset part c.loop-leaf.leaf (leaves_in (c.args.offset + length part))
    (omega (arith, c.loop-leaf-test.false, c.touched-leaves.ensures.to, long)) (c.loop-leaf.invariant.read tells rooted) in
    part_is image c.args.at.0 c.args.root.now f c.args.offset part file rooted (omega (arith, inside, long)) all
    ∙ ap (λ (n : ℕ). slice_range f.bytes c.args.offset (c.args.offset + n)) long

pub loop-leaf-preserved : goal.loop-leaf-preserved
loop-leaf-preserved g c =
    let d = c.args.disk.now in
    let mid = c.loop-leaf.disk in
    let l = c.loop-leaf.leaf in
    let from = c.args.offset / 512 in
    let before = c.loop-leaf.invariant in
    let reads = before.reads in
    let got = c.in_ok-block.ensures in
    let start : from ≤ l = omega (arith, c.loop-leaf.auto.leaf, c.touched-leaves.ensures.from) in
    let one = got.reads 0 (omega arith) (λ i none. absurd (omega (arith, none))) in
    let both = reads_then g.D.Disk d mid c.get.new.disk (read_before from l) node_levels (read_before from l + node_levels) reads one (omega arith) in
    record {
      long = ap (length {A = ℕ}) c.read_part.ensures ∙ length-overlaid c.args.offset c.loop-leaf.into (512 * l) c.in_ok-content.content ∙ before.long;
      within = subst (λ (n : ℕ). IsWayWithin n c.get.new.self) reads.same.size got.within;
      way = λ tells. subst (λ (i : Image). IsWay i c.args.root.now c.get.new.self) reads.content
          (got.way (tells_after g.D.Disk d mid reads tells) (subst (λ (i : Image). IsWay i c.args.root.now c.loop-leaf.way) (sym reads.content) (before.way tells)));
      last = λ more. subst (λ (k : ℕ). IsTo k c.get.new.self) (let e : l ≡ l + 1 - 1 = omega arith in e) got.to;
      reads = reads_leaf g.D.Disk from l d mid c.get.new.disk c.read_block.new.disk c.loop-leaf.way start before.last reads got.reads c.in_ok-content.ensures.reads;
      read = λ tells rooted.
          let image = g.D.Disk.content d in
          let size = g.met.D.Disk.sized d tells.honest in
          let was = before.way tells in
          let here = got.block (tells_after g.D.Disk d mid reads tells) (subst (λ (i : Image). IsWay i c.args.root.now c.loop-leaf.way) (sym reads.content) was) in
          let block : c.in_ok-block.block ≡ leaf_block image (root_spelling c.args.root.now) l = here ∙ ap (λ (i : Image). leaf_block i (root_spelling c.args.root.now) l) reads.content in
          let is = leaf_is_read image (g.D.Disk.content c.get.new.disk) c.args.at.0 c.args.root.now l c.in_ok-block.block c.in_ok-content.content rooted block both.content (g.met.D.Disk.of_blocks d tells.honest)
          (omega (arith, got.there, reads.same.size, size)) (c.in_ok-content.ensures.content (tells_after g.D.Disk d c.get.new.disk both tells)) in
          let leaf = leaf_in (tree_in image (block_at image c.args.at.0)) in
          subst (λ (part : List ℕ). IsReadTo (l + 1) c.args.root.now.fill leaf c.args.offset part)
          (ap (λ (content : List ℕ). with_leaf_copied l content c.args.offset c.loop-leaf.into) (sym is) ∙ sym c.read_part.ensures)
          (read_more c.args.root.now.fill leaf c.args.offset c.loop-leaf.into l (before.read tells rooted));
    }

pub read_block-requires : goal.read_block-requires
read_block-requires g c = omega (arith, c.in_ok-block.ensures.there, (c.in_ok-block.ensures.reads 0 (omega arith) (λ d none. absurd (omega (arith, none)))).same.size)

pub returns-in_err-block-clause-reads : goal.returns-in_err-block-clause-reads
returns-in_err-block-clause-reads g c =
    let from = c.args.offset / 512 in
    let l = c.loop-leaf.leaf in
    let start : from ≤ l = omega (arith, c.loop-leaf.auto.leaf, c.touched-leaves.ensures.from) in
    reads_then g.D.Disk c.args.disk.now c.loop-leaf.disk c.get.new.disk (read_before from l) node_levels _ c.loop-leaf.invariant.reads (c.in_err-block.ensures.reads 0 (omega arith) (λ d none. absurd (omega (arith, none))))
    (omega (arith, start, c.loop-leaf-test.true, c.touched-leaves.ensures.to, c.loop-leaf.invariant.long))

pub returns-in_err-content-clause-reads : goal.returns-in_err-content-clause-reads
returns-in_err-content-clause-reads g c =
    let from = c.args.offset / 512 in
    let l = c.loop-leaf.leaf in
    let start : from ≤ l = omega (arith, c.loop-leaf.auto.leaf, c.touched-leaves.ensures.from) in
    reads_within g.D.Disk c.args.disk.now c.read_block.new.disk (read_before from (l + 1)) _
    (omega (arith, reads_touched from l c.touched-leaves.result.to start c.loop-leaf-test.true, c.touched-leaves.ensures.to, c.loop-leaf.invariant.long))
    (reads_leaf g.D.Disk from l c.args.disk.now c.loop-leaf.disk c.get.new.disk c.read_block.new.disk c.loop-leaf.way start c.loop-leaf.invariant.last c.loop-leaf.invariant.reads c.in_ok-block.ensures.reads c.in_err-content.ensures.reads)
