use Rattle.std.proofs.Common.{refl, sym, subst, below_more, arith}
use Rattle.cyl_map.proofs.Words.{IsFirstBad, IsSome, entry_at, entry_of}
use Rattle.cyl_map.proofs.Maps.{at_eight}
use Rattle.cyl_map.proofs.map.first_bad.Goals as goal

pub loop-entry-preserved : goal.loop-entry-preserved
loop-entry-preserved c =
    let block = c.args.block.now in
    let i = c.loop-entry.entry in
    below_more (λ k. IsSome (entry_at block k)) i c.loop-entry.invariant
    (at_eight (λ b. IsSome (entry_of b)) block c.eights-bytes-items.result.now i _ c.eights-bytes-items.ensures.each (omega arith) (subst IsSome (sym c.in_default.ensures.value) refl))

pub returns-in-Err : goal.returns-in-Err
returns-in-Err c = record {
  within = omega arith;
  before = c.loop-entry.invariant;
  bad = at_eight (λ b. IsFirstBad b c.in-Err.bad.byte) c.args.block.now c.eights-bytes-items.result.now c.loop-entry.entry _ c.eights-bytes-items.ensures.each (omega arith) ((c.in-Err.ensures.refused c.in-Err.bad.byte).0 refl);
}

pub unreachable-requires : goal.unreachable-requires
unreachable-requires c = c.requires (λ k lt. c.loop-entry.invariant k (omega arith))
