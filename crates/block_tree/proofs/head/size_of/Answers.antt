use Rattle.std.proofs.Common.{arith}
use Rattle.block_tree.proofs.Bytes.{size_above, size_uneven}
use Rattle.block_tree.proofs.head.size_of.Goals as goal

pub returns-then-size-gt-SIZE_LIMIT : goal.returns-then-size-gt-SIZE_LIMIT
returns-then-size-gt-SIZE_LIMIT c =
    let bad = c.bytes_after.ensures in
    (omega arith, size_above c.args.kind c.args.size c.bytes_after.result (omega arith) bad.within bad.above bad.not_yet)

pub returns-then-not-is_size : goal.returns-then-not-is_size
returns-then-not-is_size c = (omega arith, size_uneven c.args.kind c.args.size (omega arith) (λ good. let t = c.is_size.ensures.1 good in cc))
