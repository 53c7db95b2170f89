use Rattle.std.proofs.Common.{◌++◌}
use Rattle.ufs_model.specs.Script.{request_lines}
use Rattle.cfs_serve.proofs.Hearing.{goes_answered, goes_beside}
use Rattle.cfs_serve.proofs.talk.Talk.take_line.Goals as goal

pub returns-then-answer-clause-on : goal.returns-then-answer-clause-on
returns-then-answer-clause-on g c = λ root sink heard was.
    let v = g.A.Server in
    let line = c.args.line.now in
    let answered = c.answer.new.self in
    goes_beside v root sink (heard ++ request_lines line) answered c.go_on.new.self (goes_answered v root sink heard c.args.self.now answered was line (c.answer.ensures.answers c.if-answer.true)) c.go_on.ensures
