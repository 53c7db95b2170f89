use Rattle.std.proofs.Common.{sym, ap}
use Rattle.vol_image.specs.Fault.{one_or, standing}
use Rattle.cfs_check.proofs.Shadowed.{many_stand, standing_off, stands_as}
use Rattle.cfs_check.proofs.object.reader_of.Goals as goal

pub returns-then-not-has_own_bit-clause-is : goal.returns-then-not-has_own_bit-clause-is
returns-then-not-has_own_bit-clause-is c = sym (ap (one_or c.args.block) (standing_off c.args.image.now c.args.block (sym c.if-not-has_own_bit.ensures)))

pub returns-in-None-clause-is : goal.returns-in-None-clause-is
returns-in-None-clause-is c =
    sym (ap (one_or c.args.block) (stands_as c.args.image.now c.args.standing.now c.args.block _ c.requires.table c.requires.below c.in-None.ensures.of (sym c.if-not-has_own_bit.ensures)))

pub returns-in-One-clause-is : goal.returns-in-One-clause-is
returns-in-One-clause-is c =
    sym (ap (one_or c.args.block) (stands_as c.args.image.now c.args.standing.now c.args.block _ c.requires.table c.requires.below c.in-One.ensures.of (sym c.if-not-has_own_bit.ensures)))

pub returns-in-Several-clause-is : goal.returns-in-Several-clause-is
returns-in-Several-clause-is c =
    sym (many_stand c.args.block (standing c.args.image.now c.args.block) (stands_as c.args.image.now c.args.standing.now c.args.block _ c.requires.table c.requires.below c.in-Several.ensures.of (sym c.if-not-has_own_bit.ensures)))
