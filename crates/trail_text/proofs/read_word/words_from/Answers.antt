use Rattle.trail_text.proofs.Lines.{texts_left}
use Rattle.trail_text.proofs.read_word.words_from.Goals as goal

pub returns : goal.returns
returns c = texts_left c.args.words.now c.args.at c.min.result c.min.ensures
