use Rattle.std.proofs.Common.{sym}
use Rattle.cfs_check.proofs.Shadowed.{none_stands, one_stands, standing_off, stands_as}
use Rattle.cfs_check.proofs.object.has_two_shadows.Goals as goal

pub returns-then-not-has_own_bit : goal.returns-then-not-has_own_bit
returns-then-not-has_own_bit c =
    none_stands c.args.image.now c.args.block (standing_off c.args.image.now c.args.block (sym c.if-not-has_own_bit.ensures))

pub returns-in-None : goal.returns-in-None
returns-in-None c =
    none_stands c.args.image.now c.args.block (stands_as c.args.image.now c.args.standing.now c.args.block _ c.requires.table c.requires.below c.in-None.ensures.of (sym c.if-not-has_own_bit.ensures))

pub returns-in-One : goal.returns-in-One
returns-in-One c =
    one_stands c.args.image.now c.args.block c.in-One.field-0 (stands_as c.args.image.now c.args.standing.now c.args.block _ c.requires.table c.requires.below c.in-One.ensures.of (sym c.if-not-has_own_bit.ensures))

pub returns-in-Several : goal.returns-in-Several
returns-in-Several c = stands_as c.args.image.now c.args.standing.now c.args.block _ c.requires.table c.requires.below c.in-Several.ensures.of (sym c.if-not-has_own_bit.ensures)
