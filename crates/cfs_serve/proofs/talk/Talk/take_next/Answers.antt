use Rattle.std.proofs.Common.{◌≡◌, ◌++◌, arith, refl}
use Rattle.cfs_ports.specs.Lines.{joined_lines}
use Rattle.ufs_model.specs.Script.{request_lines}
use Rattle.cfs_serve.proofs.Hearing.{answered_all, ends_ended, ends_failed, ends_long, ends_total, heard_next}
use Rattle.cfs_serve.proofs.talk.Talk.take_next.Goals as goal

pub advance-requires : goal.advance-requires
advance-requires g c =
    let laws = c.lines_are_asked.ensures in
    record {
      answered = λ unended.
          rw (c.requires.session, c.sink.ensures)
          (answered_all g.A.Server g.J.Charter.charter.root g.X.Exchange.source g.X.Exchange.sink c.args.lines.now c.args.self.now c.requires.heard laws.all laws.one c.requires.goes unended);
    }

pub returns-in-Err-Failed-clause-ends : goal.returns-in-Err-Failed-clause-ends
returns-in-Err-Failed-clause-ends g c =
    let did = rw c.in-Err-Failed.field-0-is at c.in-Err-Failed.ensures in
    ends_failed g.A.Server g.J.Charter.charter.root g.X.Exchange.source g.X.Exchange.sink c.args.lines.now c.args.self.now c.requires.heard c.advance.new.self did.before c.requires.goes did.refused

pub returns-in-Err-Long-clause-ends : goal.returns-in-Err-Long-clause-ends
returns-in-Err-Long-clause-ends g c =
    let did = rw c.in-Err-Long.field-0-is at c.in-Err-Long.ensures in
    ends_long g.A.Server g.J.Charter.charter.root g.X.Exchange.source g.X.Exchange.sink c.args.lines.now c.args.self.now c.requires.heard c.advance.new.self did.before c.requires.goes did.refused

pub returns-in-Ok-false-clause-ends : goal.returns-in-Ok-false-clause-ends
returns-in-Ok-false-clause-ends g c =
    let over = c.in-Ok-false.ensures.over (rw c.in-Ok-false.field-0-test refl) in
    ends_ended g.A.Server g.J.Charter.charter.root g.X.Exchange.source g.X.Exchange.sink c.args.lines.now c.args.self.now c.requires.heard c.advance.new.self c.requires.goes over.0 over.1

pub returns-then-lines_left-eq0-clause-ends : goal.returns-then-lines_left-eq0-clause-ends
returns-then-lines_left-eq0-clause-ends g c =
    let did = c.in-Ok-true.ensures in
    let spent : c.args.self.now.lines ≡ 0 = omega (arith, c.lines_left.ensures, c.if-lines_left-eq0.true) in
    ends_total g.A.Server g.J.Charter.charter.root g.X.Exchange.source g.X.Exchange.sink c.args.lines.now c.args.self.now c.requires.heard c.advance.new.self (did.once (rw c.in-Ok-true.field-0-test refl)) c.requires.goes spent (did.came (rw c.in-Ok-true.field-0-test refl)) (did.some (rw c.in-Ok-true.field-0-test refl))

pub returns-clause-on : goal.returns-clause-on
returns-clause-on g c =
    let laws = c.lines_are_asked.ensures in
    let did = c.in-Ok-true.ensures in
    let root = g.J.Charter.charter.root in
    let source = g.X.Exchange.source in
    let sink = g.X.Exchange.sink in
    let was = c.requires.heard in
    let goes = rw c.line.ensures at (c.take_line.ensures.on root sink (request_lines (joined_lines was.whole ++ was.last)) was.goes_on) in
    heard_next g.A.Server root source sink c.args.lines.now c.args.self.now was laws.one laws.all c.advance.new.self c.take_line.new.self (did.once (rw c.in-Ok-true.field-0-test refl)) c.take_line.ensures.lines goes (did.came (rw c.in-Ok-true.field-0-test refl))
