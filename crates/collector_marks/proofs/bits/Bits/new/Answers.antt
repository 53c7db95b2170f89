use Rattle.std.proofs.Common.{◌∙◌, ap}
use Rattle.collector_marks.specs.Bits.{bits_of}
use Rattle.collector_marks.proofs.Words.{zeros}
use Rattle.collector_marks.proofs.bits.Bits.new.Goals as goal

pub returns : goal.returns
returns c = ap (bits_of c.args.count) (c.in_ok-words.ensures.items_if_clones_equal (λ y is. is)) ∙ zeros c.args.count _
