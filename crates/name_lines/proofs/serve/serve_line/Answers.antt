use Rattle.std.proofs.Common.{subst, sym}
use Rattle.ufs_model.specs.State.{State}
use Rattle.name_lines.specs.declared.answer.Answer.{Answer}
use Rattle.name_lines.specs.Runs.{ServesFrom}
use Rattle.name_lines.specs.Spoken.{line_in}
use Rattle.name_lines.proofs.Written.{serves_written}
use Rattle.name_lines.proofs.serve.serve_line.Goals as goal
use Rattle.name_lines.proofs.serve.serve_line.Goals.{in-Err, in-Ok}

pub returns-clause-went : goal.returns-clause-went
returns-clause-went g c = λ s stands none.
    serves_written g.A.Asker c.args.who c.args.asker.now c.answer_line.new.asker (line_in c.args.text.now) c.match-answer_line.answer c.write_answer.result s c.write_answer.ensures.kept
    (elim c.match-answer_line.branch [
      | in-Ok w ↦ subst (λ (answer : Answer). (t : State) × ServesFrom g.A.Asker c.args.who (line_in c.args.text.now) answer c.args.asker.now c.answer_line.new.asker s t) (sym w.answer-is) (w.in-Ok.ensures.went s stands none)
      | in-Err w ↦ subst (λ (answer : Answer). (t : State) × ServesFrom g.A.Asker c.args.who (line_in c.args.text.now) answer c.args.asker.now c.answer_line.new.asker s t) (sym w.answer-is) (w.in-Err.ensures.went s stands none)
    ])
