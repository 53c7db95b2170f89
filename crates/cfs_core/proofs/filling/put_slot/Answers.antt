use Rattle.std.proofs.Common.{arith}
use Rattle.cfs_core.proofs.Words.{Fill}
use Rattle.cfs_core.proofs.Rewritten.{changes_so, stays_of}
use Rattle.cfs_core.proofs.Slotted.{put_alters, put_spared}
use Rattle.cfs_core.proofs.filling.put_slot.Goals as goal

pub returns : goal.returns
returns g c =
    let puts = c.put_in.ensures in
    changes_so g.D.Disk (Fill c.args.slot c.args.what) c.args.disk.now c.put_in.new.disk c.args.space.now c.put_in.new.space c.args.draft.now c.put_in.new.draft c.put_in.result (omega arith) (omega arith)
    (put_alters g.D.Disk c.args.slot c.args.what c.args.disk.now c.put_in.new.disk c.args.space.now c.put_in.new.space c.args.draft.now c.put_in.new.draft c.put_in.result c.requires.within puts)
    puts.call.ends puts.call.kept (put_spared g.D.Disk c.args.slot c.args.disk.now c.put_in.new.disk c.args.space.now c.put_in.new.space c.args.draft.now c.put_in.new.draft c.put_in.result puts.call) (stays_of puts.call.stays)
