use Rattle.std.proofs.Common.{ℕ, ◌+◌, arith, length-take}
use Rattle.cfs_streams.proofs.ReadLaws.{up_to}
use Rattle.cfs_streams.proofs.reading.read_whole.Goals as goal

pub returns-in_err-count-clause-taken : goal.returns-in_err-count-clause-taken
returns-in_err-count-clause-taken g c =
    up_to _ (c.args.limit + 1) c.loop-buffer.invariant.so_far c.in_err-count.ensures.taken (omega (arith, length-take {A = ℕ}))
