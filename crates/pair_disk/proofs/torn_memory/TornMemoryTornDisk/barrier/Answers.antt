use Rattle.std.proofs.Common.{sym, ◌∙◌, subst}
use Rattle.pair_disk.proofs.Words.{TornMemory, history_left, torn_now, stays_image}
use Rattle.pair_disk.proofs.Images.{flushed, flushes}
use Rattle.pair_disk.proofs.torn_memory.TornMemoryTornDisk.barrier.Goals as goal

pub returns-in_default-keep-clause-images : goal.returns-in_default-keep-clause-images
returns-in_default-keep-clause-images c =
    let d = c.args.self.now in
    flushes (λ (m : TornMemory). m.history) c.in-Ok.content (λ t le. subst (history_left d.history t) (sym c.in-Ok.ensures) (stays_image d.history d.content.items t le d.size d.blocks d.held)) c.keep.ensures.images

pub returns-clause-durable : goal.returns-clause-durable
returns-clause-durable c = λ i h. flushed (torn_now c.args.self.now.history) c.in-Ok.content i (c.in-Ok-keep.ensures.here i h) ∙ c.in-Ok.ensures

pub returns-clause-images : goal.returns-clause-images
returns-clause-images c =
    let d = c.args.self.now in
    flushes (λ (m : TornMemory). m.history) c.in-Ok.content (λ t le. subst (history_left d.history t) (sym c.in-Ok.ensures) (stays_image d.history d.content.items t le d.size d.blocks d.held)) c.keep.ensures.images
