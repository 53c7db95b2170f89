use Rattle.std.proofs.Common.{◌-◌, length, drop, sym, ◌∙◌, arith}
use Rattle.std.proofs.lemmas.List.{take_all, length-drop}
use Rattle.cfs_script.proofs.LineLemmas.{words_of-word, words_of-last}
use Rattle.cfs_script.proofs.words.cut_word.Goals as goal

pub returns-in-Some : goal.returns-in-Some
returns-in-Some c =
    let text = c.args.text.now in
    let end = c.in-Some.end in
    rw (take_all (length text - end) (drop end text) (omega (arith, length-drop end text)))
    (words_of-word text end c.requires (sym c.word_end.ensures.value ∙ c.in-Some.is))

pub returns-in-None : goal.returns-in-None
returns-in-None c = words_of-last c.args.text.now c.requires (sym c.word_end.ensures.value ∙ c.in-None.is)
