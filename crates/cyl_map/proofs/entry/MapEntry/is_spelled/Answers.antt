use Rattle.std.proofs.Common.{arith}
use Rattle.cyl_map.proofs.Entries.{spelled_more, spelled_all}
use Rattle.cyl_map.proofs.entry.MapEntry.is_spelled.Goals as goal

pub loop-row-preserved : goal.loop-row-preserved
loop-row-preserved c =
    spelled_more c.loop-row.row-index _ c.args.bytes.now c.loop-row.any c.spells-any.result (omega arith) c.loop-row.invariant c.spells-any.ensures

pub returns : goal.returns
returns c = spelled_all c.loop-row.row-index c.args.bytes.now c.loop-row.any (omega arith) c.loop-row.invariant
