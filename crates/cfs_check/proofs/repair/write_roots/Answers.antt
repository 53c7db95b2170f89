use Rattle.std.proofs.Common.{◌≡◌, ◌+◌, ◌<◌, ℕ, length, refl, sym, ◌∙◌, ap, subst, arith}
use Rattle.cfs_base.proofs.Calls.{makes_then}
use Rattle.cfs_base.proofs.Went.{makes_none, makes_within}
use Rattle.cfs_base.specs.Disk.{Image, block_at}
use Rattle.vol_image.specs.Fault.{shown_root}
use Rattle.cfs_recover.proofs.Keepings.{keeps_begin, keeps_lead}
use Rattle.cfs_check.specs.Repair.{Mends, WroteRoots}
use Rattle.cfs_check.proofs.Written.{none_wrote, own_wrote, root_in, root_wrote}
use Rattle.cfs_check.proofs.repair.write_roots.Goals as goal

pub loop-place-init : goal.loop-place-init
loop-place-init g c = record {
  calls = makes_none g.D.Disk c.args.disk.now 0 0;
  keeps = λ graph b settled is plan. (
    keeps_begin g.D.Disk (Mends graph b) c.args.disk.now settled (subst (Mends graph b) (sym is) plan.mends),
    none_wrote c.args.image.now _ _ graph b plan (g.D.Disk.content c.args.disk.now) is,
  );
}

pub loop-place-preserved-then-from-block : goal.loop-place-preserved-then-from-block
loop-place-preserved-then-from-block g c =
    let k = c.loop-place.place in
    let before = c.loop-place.invariant in
    record {
      calls = makes_within g.D.Disk c.args.disk.now c.loop-place.disk k k (k + 1) (k + 1) (omega arith) (omega arith) before.calls;
      keeps = λ graph b settled is plan.
          let were = before.keeps graph b settled is plan in
          (were.0, own_wrote c.args.image.now _ _ graph b plan k c.at-block.result c.at-block.ensures.at (g.D.Disk.content c.loop-place.disk) (sym c.reader_of-from.ensures.is ∙ c.if-from-block.true) were.1);
    }

pub loop-place-preserved : goal.loop-place-preserved
loop-place-preserved g c =
    let k = c.loop-place.place in
    let image = c.args.image.now in
    let r = c.at-block.result in
    let before = c.loop-place.invariant in
    let shown : block_at image c.reader_of-from.result ≡ shown_root image r = ap (block_at image) c.reader_of-from.ensures.is in
    record {
      calls = makes_then g.D.Disk c.args.disk.now c.loop-place.disk c.write_root.new.disk k 1 (k + 1) k 1 (k + 1) before.calls c.in_ok-write_root.ensures.calls (omega arith) (omega arith);
      keeps = λ graph b settled is plan.
          let were = before.keeps graph b settled is plan in
          let size = g.met.D.Disk.sized c.loop-place.disk were.0.tells.honest in
          let inside : r < length (g.D.Disk.content c.loop-place.disk) = omega (arith, size, before.calls.same.size, c.requires.size, c.at-block.ensures.within, c.requires.mendable.surveyed.whole.found.room) in (
            c.in_ok-write_root.ensures.keeps graph b c.args.disk.now were.0 (root_in image _ _ graph b plan k r c.at-block.ensures.at (block_at image c.reader_of-from.result) shown),
            root_wrote image _ _ graph b plan k r c.at-block.ensures.at (g.D.Disk.content c.loop-place.disk) (g.D.Disk.content c.write_root.new.disk) (block_at image c.reader_of-from.result) inside shown
                c.in_ok-write_root.ensures.written were.1,
          );
    }

pub returns-in_err-write_root-clause-leads : goal.returns-in_err-write_root-clause-leads
returns-in_err-write_root-clause-leads g c graph b settled is plan =
    let image = c.args.image.now in
    let were = c.loop-place.invariant.keeps graph b settled is plan in
    c.in_err-write_root.ensures.leads graph b c.args.disk.now were.0
    (root_in image _ _ graph b plan c.loop-place.place c.at-block.result c.at-block.ensures.at (block_at image c.reader_of-from.result) (ap (block_at image) c.reader_of-from.ensures.is))

pub returns-clause-keeps : goal.returns-clause-keeps
returns-clause-keeps g c graph b settled is plan =
    let were = c.loop-place.invariant.keeps graph b settled is plan in
    let s = c.args.surveyed.now.survey in
    let end : c.loop-place.place ≡ length s.roots.blocks = omega arith in
    (were.0, subst (WroteRoots c.args.image.now s.roots.blocks b (g.D.Disk.content c.loop-place.disk)) end were.1)

pub returns-clause-leads : goal.returns-clause-leads
returns-clause-leads g c graph b settled is plan =
    keeps_lead g.D.Disk (Mends graph b) c.args.disk.now c.loop-place.disk (c.loop-place.invariant.keeps graph b settled is plan).0
