use Rattle.std.proofs.Common.{ℕ, arith, length-drop}
use Rattle.std.proofs.lemmas.List.{take_rest}
use Rattle.cfs_streams.proofs.WriteLaws.{goes_on}
use Rattle.cfs_streams.proofs.writing.write_whole.Goals as goal

pub loop-written-preserved : goal.loop-written-preserved
loop-written-preserved g c =
    let wrote = rw take_rest at c.in_ok-count.ensures in
    record {
      within = omega (arith, wrote.within, length-drop {A = ℕ});
      so_far = goes_on _ _ _ c.args.bytes.now c.loop-written.written c.in_ok-count.count c.loop-written.invariant.so_far wrote;
    }
