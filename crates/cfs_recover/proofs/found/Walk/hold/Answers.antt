use Rattle.std.proofs.Common.{refl, arith}
use Rattle.cfs_recover.proofs.Noting.{hold_walk}
use Rattle.cfs_recover.proofs.found.Walk.hold.Goals as goal

pub returns-clause-told : goal.returns-clause-told
returns-clause-told c image done walk kept =
    hold_walk image c.args.self.now _ c.args.block refl refl refl refl (omega (arith, c.args.self.now.sized.marks, c.requires)) done walk kept
