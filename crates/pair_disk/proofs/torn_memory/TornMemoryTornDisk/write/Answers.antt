use Rattle.std.proofs.Common.{[], sym, arith}
use Rattle.pair_disk.proofs.Words.{TornMemory, block_at, set-get_or}
use Rattle.pair_disk.proofs.Images.{writes}
use Rattle.pair_disk.proofs.torn_memory.TornMemoryTornDisk.write.Goals as goal

-- a write that failed changes nothing
pub returns-in_default-clause-torn : goal.returns-in_default-clause-torn
returns-in_default-clause-torn c = λ honest. let d = c.args.self.now in (block_at d.content.items c.args.at.0, d.blocks c.args.at.0 (omega (arith, c.requires, d.counted)), sym (set-get_or d.content.items c.args.at.0 []))

pub returns-then-listed-clause-torn : goal.returns-then-listed-clause-torn
returns-then-listed-clause-torn c = λ honest. let d = c.args.self.now in (block_at d.content.items c.args.at.0, d.blocks c.args.at.0 (omega (arith, c.requires, d.counted)), sym (set-get_or d.content.items c.args.at.0 []))

pub returns-in_default-clause-images : goal.returns-in_default-clause-images
returns-in_default-clause-images c = let d = c.args.self.now in writes (λ (m : TornMemory). m.history) c.args.at.0 (omega (arith, c.requires, d.counted, d.size)) c.keep.ensures.images

pub returns-then-listed-clause-images : goal.returns-then-listed-clause-images
returns-then-listed-clause-images c = let d = c.args.self.now in writes (λ (m : TornMemory). m.history) c.args.at.0 (omega (arith, c.requires, d.counted, d.size)) c.keep.ensures.images

pub returns-clause-images : goal.returns-clause-images
returns-clause-images c = let d = c.args.self.now in writes (λ (m : TornMemory). m.history) c.args.at.0 (omega (arith, c.requires, d.counted, d.size)) c.keep.ensures.images
