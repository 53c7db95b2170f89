use Rattle.std.proofs.Common.{arith}
use Rattle.collector_steps.proofs.Words.{both_ok, carries_write, write_leaves}
use Rattle.collector_steps.proofs.sweep.write_block.Goals as goal

pub returns-clause-carries : goal.returns-clause-carries
returns-clause-carries g c = λ graph run within.
    let size = g.met.D.Disk.sized c.args.disk.now run.tells.honest in
    both_ok c.write.result c.write.ensures.written c.write.ensures.told
    (carries_write g.D.Disk graph c.args.disk.now c.write.new.self c.args.at.0 c.args.block.now run (omega (arith, size, c.requires.on_disk)) within c.write.ensures.images c.write.ensures.same)

pub returns-clause-leaves : goal.returns-clause-leaves
returns-clause-leaves g c = λ graph run within.
    let size = g.met.D.Disk.sized c.args.disk.now run.tells.honest in
    write_leaves g.D.Disk graph c.args.disk.now c.write.new.self c.args.at.0 c.args.block.now run (omega (arith, size, c.requires.on_disk)) within c.write.ensures.images
