use Rattle.std.proofs.Common.{arith, ◌∙◌, ap, refl}
use Rattle.ufs_model.proofs.Words.{next_word}
use Rattle.ufs_model.proofs.Drawn.{drawn_word, drawn_rest}
use Rattle.ufs_model.proofs.word.Words.new.Goals as goal

pub invariant_of-result : goal.invariant_of-result
invariant_of-result c =
    let seed = c.args.seed in
    let one = drawn_rest seed 0 c.next_word-root.result c.next_word-root.new.self (c.next_word-root.ensures ∙ ap (next_word 10) c.stream_of-stream.ensures) 1 refl (omega arith) in
    let two = c.next_word.ensures ∙ ap (next_word 10) one in
    (drawn_word seed 1 c.next_word.result c.next_word.new.self two 1 refl, drawn_rest seed 1 c.next_word.result c.next_word.new.self two 2 refl (omega arith))
