use Rattle.std.proofs.Common.{◌≡◌, ◌↔◌, true, below_more, arith}
use Rattle.cyl_map.proofs.Words.{IsSome, entry_at, entry_of}
use Rattle.cyl_map.proofs.Maps.{at_eight}
use Rattle.cyl_map.proofs.Rows.{and_true, and_left, and_right}
use Rattle.cyl_map.proofs.map.is_spelled.Goals as goal

pub loop-bytes-preserved : goal.loop-bytes-preserved
loop-bytes-preserved c =
    let block = c.args.block.now in
    let i = c.loop-bytes.bytes-index in
    let before = c.loop-bytes.invariant in
    let one = c.is_spelled-good.result in
    let here = at_eight (λ b. (one ≡ true) ↔ IsSome (entry_of b)) block c.eights-bytes-items.result.now i _ c.eights-bytes-items.ensures.each (omega arith) c.is_spelled-good.ensures in (
      λ both. below_more (λ k. IsSome (entry_at block k)) i (before.0 (and_left c.loop-bytes.good one both)) (here.0 (and_right c.loop-bytes.good one both)),
      λ all. and_true c.loop-bytes.good one (before.1 (λ k lt. all k (omega arith))) (here.1 (all i (omega arith))),
    )

pub returns : goal.returns
returns c = (λ is k lt. c.loop-bytes.invariant.0 is k (omega arith), λ all. c.loop-bytes.invariant.1 (λ k lt. all k (omega arith)))
