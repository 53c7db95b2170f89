use Rattle.std.proofs.Common.{◌≤◌, length, arith}
use Rattle.cfs_check.proofs.Ground.{label_told}
use Rattle.cfs_check.proofs.surveying.label_of.Goals as goal

pub returns-clause-told : goal.returns-clause-told
returns-clause-told c =
    let long : 3 ≤ length c.args.image.now = omega (arith, c.if-blocks-lt3.false, c.blocks-2.ensures.is) in
    label_told c.args.image.now _ _ c.block.ensures long c.decode.ensures.read c.decode.ensures.version c.decode.ensures.not_volume
