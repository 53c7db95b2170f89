use Rattle.std.proofs.Common.{not}
use Rattle.cfs_fakes.specs.declared.memory_disk.MemoryDisk.{MemoryDisk}
use Rattle.cfs_fakes.proofs.Lifts.{passes, writes}
use Rattle.cfs_fakes.proofs.memory_disk.MemoryDiskDisk.write.Goals as goal

pub returns-then-is_over-clause-images : goal.returns-then-is_over-clause-images
returns-then-is_over-clause-images c = passes (λ (d : MemoryDisk). d.recorder) c.pass.ensures.images

pub returns-in_default-clause-images : goal.returns-in_default-clause-images
returns-in_default-clause-images c = writes (λ (d : MemoryDisk). d.recorder) c.args.at.0 c.args.from.now (not c.contains-done.result) c.keep.ensures.images

pub returns-then-not-done-clause-images : goal.returns-then-not-done-clause-images
returns-then-not-done-clause-images c = writes (λ (d : MemoryDisk). d.recorder) c.args.at.0 c.args.from.now (not c.contains-done.result) c.keep.ensures.images

pub returns-clause-images : goal.returns-clause-images
returns-clause-images c = writes (λ (d : MemoryDisk). d.recorder) c.args.at.0 c.args.from.now (not c.contains-done.result) c.keep.ensures.images
