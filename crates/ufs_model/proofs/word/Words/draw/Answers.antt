use Rattle.std.proofs.Common.{◌+◌, arith, ◌∙◌, ap}
use Rattle.ufs_model.proofs.Words.{Drawing, next_word}
use Rattle.ufs_model.proofs.Drawn.{drawn_word, drawn_rest}
use Rattle.ufs_model.proofs.word.Words.draw.Goals as goal

pub invariant_of-self : goal.invariant_of-self
invariant_of-self c =
    let w = c.self.inside in
    let call = c.next_word-self-inside in
    let is = call.ensures ∙ ap (next_word 10) c.self.invariant.1 in
    let same = ap (λ (x : Drawing). x.drawn) c.self.view_is in (
      drawn_word w.seed (w.drawn + 2) call.result call.new.self is (w.drawn + 1 + 1) (omega arith),
      drawn_rest w.seed (w.drawn + 2) call.result call.new.self is (w.drawn + 1 + 2) (omega arith) (omega arith),
    )
