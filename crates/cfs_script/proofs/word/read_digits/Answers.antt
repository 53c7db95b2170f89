use Rattle.std.proofs.Common.{arith}
use Rattle.cfs_script.proofs.Digits.{read_all, read_step}
use Rattle.cfs_script.proofs.word.read_digits.Goals as goal

pub bytes-preserved : goal.bytes-preserved
bytes-preserved c =
    rw (c.max-most.ensures, c.max.ensures) (read_step c.bytes.most c.digit_value-high.result c.digit_value-low.result _ c.args.digits.now c.bytes.into c.bytes.at
    (omega (arith, c.requires, c.bytes.auto.into, c.bytes-test.true)) (omega (arith, c.bytes.auto.into, c.bytes-test.true)) c.digit_value-high.ensures c.digit_value-low.ensures (λ high low. omega (arith, high, low)) c.bytes.invariant)

pub returns : goal.returns
returns c = read_all c.bytes.most c.args.digits.now c.bytes.into c.bytes.at (omega (arith, c.requires, c.bytes.auto.into)) (omega (arith, c.bytes.auto.into, c.bytes-test.false)) c.bytes.invariant
