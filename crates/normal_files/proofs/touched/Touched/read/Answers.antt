use Rattle.normal_files.proofs.Refusals.{tells_after}
use Rattle.cfs_base.proofs.Went.{reads_none}
use Rattle.normal_files.proofs.FileCalls.{near_after}
use Rattle.normal_files.proofs.touched.Touched.read.Goals as goal
use Rattle.leaf_changes.specs.Tops.{root_top}
use Rattle.normal_files.proofs.Refusals.{trouble_after_reads}

pub returns-in-Err-clause-sound : goal.returns-in-Err-clause-sound
returns-in-Err-clause-sound g c = λ f tells file rooted.
    c.in-Err.ensures.sound tells
    (near_after g.D.Disk c.args.disk.now c.args.disk.now c.args.at.0 c.args.root.now f (g.met.D.Disk.sized c.args.disk.now tells.honest) c.requires.on_disk (reads_none g.D.Disk 0 c.args.disk.now) rooted file)

pub returns-in-Err-read-clause-sound : goal.returns-in-Err-read-clause-sound
returns-in-Err-read-clause-sound g c = λ f tells file rooted.
    c.in-Err-read.ensures.sound (tells_after g.D.Disk c.args.disk.now c.read.new.disk c.in-Ok.ensures.reads tells)
    (near_after g.D.Disk c.args.disk.now c.read.new.disk c.args.at.0 c.args.root.now f (g.met.D.Disk.sized c.args.disk.now tells.honest) c.requires.on_disk c.in-Ok.ensures.reads rooted file)

pub returns-in-Err-read-clause-refused : goal.returns-in-Err-read-clause-refused
returns-in-Err-read-clause-refused g c =
    trouble_after_reads g.D.Disk (root_top c.args.at.0 c.args.root.now) c.args.disk.now c.read.new.disk c.read-2.new.disk 1 c.in-Err-read.trouble c.in-Ok.ensures.reads c.in-Err-read.ensures.refused
