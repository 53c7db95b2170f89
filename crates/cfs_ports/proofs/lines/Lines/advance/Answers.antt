use Rattle.std.proofs.Common.{length, sym, ap, rules, arith}
use Rattle.cfs_ports.proofs.Gathering.{begins, caught_up, failed, goes_on}
use Rattle.cfs_ports.specs.Lines.{RefusesLine}
use Rattle.cfs_ports.specs.declared.lines.LineFault.TheVariants as faults
use Rattle.cfs_ports.proofs.lines.Lines.advance.Goals as goal

pub loop-self-init : goal.loop-self-init
loop-self-init g c = rw c.begin_line.ensures.line (begins c.args.self.now c.begin_line.ensures.nothing)

pub refill-requires-clause-caught_up : goal.refill-requires-clause-caught_up
refill-requires-clause-caught_up g c =
    let going = sym c.loop-self-test.ensures.ended in
    caught_up g.J.Exchange.session g.J.Exchange.source g.J.Exchange.sink (g.K.Sink.intake c.args.sink.now)
    c.loop-self.invariant c.if-whole.ensures (c.requires.answered (c.loop-self.invariant.began going))

pub loop-self-preserved : goal.loop-self-preserved
loop-self-preserved g c =
    goes_on c.loop-self.invariant (sym c.loop-self-test.ensures.ended) c.if-whole.ensures
    (omega (arith, ap length c.line.ensures)) c.in_ok-refill.ensures.more

pub returns-in_err-refill-clause-refused : goal.returns-in_err-refill-clause-refused
returns-in_err-refill-clause-refused g c =
    let refused : RefusesLine c.args.self.now c.refill.new.self faults.Failed =
    failed c.loop-self.invariant c.if-whole.ensures c.in_err-refill.ensures.nothing in
    search (rules, refused)
