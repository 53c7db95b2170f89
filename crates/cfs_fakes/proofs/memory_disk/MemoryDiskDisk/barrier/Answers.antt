use Rattle.cfs_fakes.specs.declared.memory_disk.MemoryDisk.{MemoryDisk}
use Rattle.std.proofs.Common.{sym, ◌∙◌}
use Rattle.cfs_fakes.specs.Recorder.{state_now}
use Rattle.cfs_fakes.proofs.Images.{flushed}
use Rattle.cfs_fakes.proofs.Lifts.{flushes}
use Rattle.cfs_fakes.proofs.memory_disk.MemoryDiskDisk.barrier.Goals as goal

pub returns-in_default-clause-images : goal.returns-in_default-clause-images
returns-in_default-clause-images c = flushes (λ (d : MemoryDisk). d.recorder) c.keep.ensures.images

pub returns-clause-durable : goal.returns-clause-durable
returns-clause-durable c = λ i h. flushed (state_now c.args.self.now.recorder) i (c.in-Ok.ensures.here i h) ∙ c.args.self.now.mirrored (sym c.keep.ensures.same.keeps ∙ h.0)

pub returns-clause-images : goal.returns-clause-images
returns-clause-images c = flushes (λ (d : MemoryDisk). d.recorder) c.keep.ensures.images
