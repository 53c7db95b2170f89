use Rattle.std.proofs.Common.{◌<◌, inr, length, arith}
use Rattle.cfs_recover.proofs.Words.{CopiesRoots}
use Rattle.cfs_recover.proofs.Keepings.{keeps_wrote, leads_tried, root_step}
use Rattle.cfs_recover.proofs.writes.write_root.Goals as goal

pub returns-in_err-write-clause-leads : goal.returns-in_err-write-clause-leads
returns-in_err-write-clause-leads g c a graph start run copy =
    let below : c.args.copied.now.block < length a = omega (arith, c.requires, g.met.D.Disk.sized c.args.disk.now run.tells.honest, run.content.size) in
    leads_tried g.D.Disk (CopiesRoots a graph) start c.args.disk.now c.write.new.self c.args.copied.now.block c.encode.result run (root_step a graph c.args.copied.now c.encode.result copy below c.encode.ensures.spelled)
    c.in_err-write.ensures.either c.write.ensures.images

pub returns-clause-leads : goal.returns-clause-leads
returns-clause-leads g c a graph start run copy =
    let below : c.args.copied.now.block < length a = omega (arith, c.requires, g.met.D.Disk.sized c.args.disk.now run.tells.honest, run.content.size) in
    leads_tried g.D.Disk (CopiesRoots a graph) start c.args.disk.now c.write.new.self c.args.copied.now.block c.encode.result run (root_step a graph c.args.copied.now c.encode.result copy below c.encode.ensures.spelled)
    (inr c.in_ok-write.ensures.written) c.write.ensures.images

pub returns-clause-keeps : goal.returns-clause-keeps
returns-clause-keeps g c a graph start run copy =
    let below : c.args.copied.now.block < length a = omega (arith, c.requires, g.met.D.Disk.sized c.args.disk.now run.tells.honest, run.content.size) in
    keeps_wrote g.D.Disk (CopiesRoots a graph) start c.args.disk.now c.write.new.self c.args.copied.now.block c.encode.result run (root_step a graph c.args.copied.now c.encode.result copy below c.encode.ensures.spelled)
    c.write.ensures.images c.write.ensures.same c.in_ok-write.ensures.written c.in_ok-write.ensures.told
