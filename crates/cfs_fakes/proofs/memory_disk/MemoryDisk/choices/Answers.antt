use Rattle.cfs_fakes.specs.Memory.{disk_state_at}
use Rattle.cfs_fakes.specs.Replay.{waiting}
use Rattle.cfs_fakes.proofs.Images.{choices_stand}
use Rattle.cfs_fakes.proofs.memory_disk.MemoryDisk.choices.Goals as goal

pub returns-clause-each : goal.returns-clause-each
returns-clause-each c = choices_stand (waiting (disk_state_at c.args.self.now c.args.at) c.args.block)
