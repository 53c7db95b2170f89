use Rattle.std.proofs.Common.{subst, sym}
use Rattle.cfs_serve.proofs.Cited.{request_lines}
use Rattle.cfs_serve.specs.Lines.{AnswersLines}
use Rattle.cfs_serve.specs.Watched.{by_core}
use Rattle.cfs_serve.proofs.dirs.answer_by.Goals as goal

pub returns-clause-answers : goal.returns-clause-answers
returns-clause-answers g c =
    let all = request_lines c.args.script.now in
    let sink = g.K.Sink.intake c.args.sink.now in
    let answered = c.answer_lines-told in
    let after = g.K.Sink.intake answered.new.sink in
    let answers : AnswersLines (by_core g.D.Disk) all sink after c.new-asker.result answered.new.asker answered.result = answered.ensures in
    subst (λ k. AnswersLines (by_core g.D.Disk) all sink after k c.into_core.result answered.result) c.new-asker.ensures
    (subst (λ k. AnswersLines (by_core g.D.Disk) all sink after c.new-asker.result k answered.result) (sym c.into_core.ensures.core) answers)
