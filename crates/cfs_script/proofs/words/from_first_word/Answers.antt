use Rattle.std.proofs.Common.{◌-◌, length, drop, sym, ◌∙◌, arith}
use Rattle.std.proofs.lemmas.List.{take_all, length-drop}
use Rattle.cfs_script.proofs.LineLemmas.{words_of-blank, words_of-start, BeginsWord-start}
use Rattle.cfs_script.proofs.words.from_first_word.Goals as goal

pub returns-in_err-start : goal.returns-in_err-start
returns-in_err-start c =
    rw c.from_residual.ensures (words_of-blank c.args.text.now (sym c.word_start.ensures.value ∙ c.in_err-start.was))

pub returns : goal.returns
returns c =
    let text = c.args.text.now in
    let start = c.in_ok-start.start in
    let found = sym c.word_start.ensures.value ∙ c.in_ok-start.was in
    rw (take_all (length text - start) (drop start text) (omega (arith, length-drop start text)))
    (words_of-start text start found, BeginsWord-start text start found)
