use Rattle.std.proofs.Common.{sym, subst}
use Rattle.intentions.proofs.Words.{Image, IsMapOf, entries_of, on}
use Rattle.intentions.proofs.Changes.{put_settled}
use Rattle.intentions.proofs.bit.put_between.Goals as goal

pub returns-in_err-put_entry-clause-images : goal.returns-in_err-put_entry-clause-images
returns-in_err-put_entry-clause-images g c = λ tells is.
    put_settled g.D.Disk c.args.disk.now c.barrier.new.disk c.put_entry.new.disk c.args.block.0 c.args.entry c.barrier.ensures.images c.barrier.ensures.content (c.in_ok-barrier.ensures.settled tells)
    (c.put_entry.ensures.images (subst (λ (i : Image). IsMapOf i c.args.block.0 (entries_of c.args.map.now)) (sym c.barrier.ensures.content) is))

pub returns-clause-images : goal.returns-clause-images
returns-clause-images g c = λ tells is.
    on g.D.Disk c.args.disk.now c.put_entry.new.disk c.barrier-2.new.disk _
    (put_settled g.D.Disk c.args.disk.now c.barrier.new.disk c.put_entry.new.disk c.args.block.0 c.args.entry c.barrier.ensures.images c.barrier.ensures.content (c.in_ok-barrier.ensures.settled tells)
    (c.put_entry.ensures.images (subst (λ (i : Image). IsMapOf i c.args.block.0 (entries_of c.args.map.now)) (sym c.barrier.ensures.content) is)))
    c.barrier-2.ensures.images
