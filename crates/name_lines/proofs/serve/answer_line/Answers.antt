use Rattle.std.proofs.Common.{Option, refl, subst, sym, ◌∙◌}
use Rattle.std.proofs.lemmas.Result.{err_from_is_err_and}
use Rattle.ufs_model.specs.State.{State}
use Rattle.name_lines.specs.declared.answer.Answer.TheVariants as answers
use Rattle.name_lines.specs.declared.line.Line.{Line}
use Rattle.name_lines.specs.Runs.{ServesFrom}
use Rattle.name_lines.specs.Spoken.{line_in}
use Rattle.name_lines.proofs.Written.{serves_none, serves_starved}
use Rattle.name_lines.proofs.serve.answer_line.Goals as goal

pub returns-in_err-line-clause-went : goal.returns-in_err-line-clause-went
returns-in_err-line-clause-went g c = λ s stands none.
    let p = err_from_is_err_and c.from_residual.result c.from_residual.ensures.1 in
    rw (p.1, p.2) (serves_starved g.A.Asker c.args.who c.args.asker.now s (line_in c.args.text.now) stands)

pub returns-in_default-clause-went : goal.returns-in_default-clause-went
returns-in_default-clause-went g c = λ s stands none.
    subst (λ (line : Option Line). (t : State) × ServesFrom g.A.Asker c.args.who line answers.Syntax c.args.asker.now c.args.asker.now s t) (sym c.in_default.is ∙ c.in_ok-line.ensures)
    (serves_none g.A.Asker c.args.who c.args.asker.now s answers.Syntax stands refl)
