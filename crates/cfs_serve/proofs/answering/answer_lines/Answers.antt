use Rattle.std.proofs.Common.{rules, ◌≡◌, ◌∙◌, ◌∷◌, not, drop, length, ap, refl, sym, subst, arith}
use Rattle.std.proofs.lemmas.Bool.{false≢true}
use Rattle.std.proofs.lemmas.List.{take_rest}
use Rattle.ufs_model.specs.Script.{request_lines}
use Rattle.cfs_serve.specs.Lines.{HasAnswered}
use Rattle.cfs_serve.specs.declared.answering.Told.{Told}
use Rattle.cfs_serve.proofs.Lines.{none_yet, one_more}
use Rattle.cfs_serve.proofs.answering.answer_lines.Goals as goal

pub lines-init : goal.lines-init
lines-init g c =
    let all = request_lines c.args.script.now in
    rw c.nothing-told.ensures (record {
      has = none_yet g.A.Asker all (g.K.Sink.intake c.args.sink.now) c.args.asker.now;
      took = refl;
      words = c.requires.words;
      few = omega (arith, c.requires.words);
      room = c.requires.room;
    })

pub returns-then-not-told : goal.returns-then-not-told
returns-then-not-told g c =
    let all = request_lines c.args.script.now in
    let intake = g.K.Sink.intake in
    let line = c.in-Some.next.line.now in
    let left = request_lines (drop c.in-Some.next.taken c.lines.rest.now) in
    let before = subst (λ ls. HasAnswered g.A.Asker all ls (intake c.args.sink.now) (intake c.lines.sink) c.args.asker.now c.lines.asker c.lines.told) c.in-Some.ensures.line c.lines.invariant.has in
    record {
      left = left;
      has = one_more g.A.Asker all left line (intake c.args.sink.now) (intake c.lines.sink) (intake c.answer_one-told.new.sink) c.args.asker.now c.lines.asker c.answer_one-told.new.asker c.lines.told c.answer_one-told.result
          before c.lines.invariant.took c.answer_one-told.ensures.answered;
      whole = λ took. absurd (false≢true (sym (ap not took) ∙ c.if-not-told.true));
    }

pub lines-preserved : goal.lines-preserved
lines-preserved g c =
    let all = request_lines c.args.script.now in
    let intake = g.K.Sink.intake in
    let line = c.in-Some.next.line.now in
    let left = request_lines (drop c.in-Some.next.taken c.lines.rest.now) in
    let one = c.answer_one-told.ensures.answered in
    let fewer : length (request_lines c.lines.rest.now) ≡ length (line ∷ left) = ap length c.in-Some.ensures.line in
    let before = subst (λ ls. HasAnswered g.A.Asker all ls (intake c.args.sink.now) (intake c.lines.sink) c.args.asker.now c.lines.asker c.lines.told) c.in-Some.ensures.line c.lines.invariant.has in
    rw take_rest (record {
      has = one_more g.A.Asker all left line (intake c.args.sink.now) (intake c.lines.sink) (intake c.answer_one-told.new.sink) c.args.asker.now c.lines.asker c.answer_one-told.new.asker c.lines.told c.answer_one-told.result
          before c.lines.invariant.took one;
      took = search rules;
      words = omega (arith, fewer, c.lines.invariant.words, one.spends.later.drawn);
      few = omega (arith, fewer, c.lines.invariant.few, ap (λ (t : Told). t.answers) one.told);
      room = c.answer_one-told.ensures.room;
    })
