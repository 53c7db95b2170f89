use Rattle.std.proofs.Common.{◌∙◌, ap, length}
use Rattle.cfs_base.specs.Disk.{Image}
use Rattle.cfs_fakes.specs.Sizes.{base_size}
use Rattle.cfs_fakes.proofs.memory_disk.MemoryDisk.image.Goals as goal

pub returns-clause-size : goal.returns-clause-size
returns-clause-size c = let r = c.args.self.now.recorder in ap (λ (i : Image). length i) c.made.ensures.content ∙ c.in_ok-store.ensures.size ∙ base_size r.blocks c.args.at r.kept.items ∙ c.args.self.now.size
