use Rattle.cfs_base.proofs.Went.{reads_none}
use Rattle.ufs_model.specs.declared.object.Object.TheVariants as objects
use Rattle.cfs_core.proofs.Calm.{calm_sort, read_rooted}
use Rattle.cfs_core.proofs.writing.root_since.Goals as goal

pub returns-then-tried-clause-anew : goal.returns-then-tried-clause-anew
returns-then-tried-clause-anew g c = λ some tells. read_rooted g.D.Disk 1 c.args.file.0 c.args.disk.now c.root_in.new.disk c.root_in.result c.root_in.ensures.read tells

pub returns-then-tried-clause-calm : goal.returns-then-tried-clause-calm
returns-then-tried-clause-calm g c = calm_sort g.D.Disk objects.File 1 c.args.file.0 c.args.disk.now c.root_in.new.disk c.root_in.result c.root_in.ensures.calm

pub returns-else-tried-clause-calm : goal.returns-else-tried-clause-calm
returns-else-tried-clause-calm g c = record { reads = reads_none g.D.Disk 1 c.args.disk.now; sound = λ a knows. tt; cause = tt }
