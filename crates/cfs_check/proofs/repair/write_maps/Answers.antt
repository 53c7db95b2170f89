use Rattle.std.proofs.Common.{◌≡◌, ◌+◌, ◌*◌, ◌/◌, ◌<◌, ◌≤◌, ℕ, length, sym, ◌∙◌, ap, subst, arith}
use Rattle.cfs_base.proofs.Calls.{makes_then}
use Rattle.cfs_base.proofs.Went.{makes_none, makes_within}
use Rattle.cfs_base.specs.Disk.{Image}
use Rattle.cfs_recover.proofs.Keepings.{keeps_begin, keeps_lead}
use Rattle.cfs_check.specs.Repair.{MendsMaps, WroteMaps}
use Rattle.cfs_check.proofs.Written.{map_wrote}
use Rattle.cfs_check.proofs.repair.write_maps.Goals as goal

pub loop-cylinder-init : goal.loop-cylinder-init
loop-cylinder-init g c = record {
  calls = makes_none g.D.Disk c.args.disk.now 0 0;
  keeps = λ found graph b settled mends wrote plan. (keeps_begin g.D.Disk (MendsMaps graph b) c.args.disk.now settled mends, wrote);
}

pub loop-cylinder-preserved : goal.loop-cylinder-preserved
loop-cylinder-preserved g c =
    let j = c.loop-cylinder.cylinder in
    let image = c.args.image.now in
    let before = c.loop-cylinder.invariant in
    record {
      calls = makes_then g.D.Disk c.args.disk.now c.loop-cylinder.disk c.write_map.new.disk j 1 (j + 1) j 1 (j + 1) before.calls c.in_ok-write_map.ensures.calls (omega arith) (omega arith);
      keeps = λ found graph b settled mends wrote plan.
          let were = before.keeps found graph b settled mends wrote plan in
          let below : 64 * j < length image = omega arith in
          let size : length (g.D.Disk.content c.loop-cylinder.disk) ≡ length image = sym were.0.content.0.size ∙ plan.mends.size in (
            c.in_ok-write_map.ensures.keeps graph b c.args.disk.now were.0 (plan.maps j below),
            map_wrote image found c.args.uses.now graph b plan (g.D.Disk.content c.loop-cylinder.disk) (g.D.Disk.content c.write_map.new.disk) j (omega (arith, below, size)) size c.in_ok-write_map.ensures.written were.1,
          );
    }

pub returns-in_err-write_map-clause-leads : goal.returns-in_err-write_map-clause-leads
returns-in_err-write_map-clause-leads g c found graph b settled mends wrote plan =
    let were = c.loop-cylinder.invariant.keeps found graph b settled mends wrote plan in
    c.in_err-write_map.ensures.leads graph b c.args.disk.now were.0 (plan.maps c.loop-cylinder.cylinder (omega arith))

pub returns-clause-keeps : goal.returns-clause-keeps
returns-clause-keeps g c found graph b settled mends wrote plan =
    let were = c.loop-cylinder.invariant.keeps found graph b settled mends wrote plan in
    let end : c.loop-cylinder.cylinder ≡ length c.args.image.now / 64 = omega arith in
    (were.0, subst (WroteMaps c.args.image.now b (g.D.Disk.content c.loop-cylinder.disk)) end were.1)

pub returns-clause-leads : goal.returns-clause-leads
returns-clause-leads g c found graph b settled mends wrote plan =
    keeps_lead g.D.Disk (MendsMaps graph b) c.args.disk.now c.loop-cylinder.disk (c.loop-cylinder.invariant.keeps found graph b settled mends wrote plan).0
