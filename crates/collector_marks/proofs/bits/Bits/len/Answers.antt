use Rattle.std.proofs.Common.{sym, ◌∙◌, ap, length}
use Rattle.collector_marks.proofs.Words.{length-bits}
use Rattle.collector_marks.proofs.bits.Bits.len.Goals as goal

pub returns : goal.returns
returns c = sym (length-bits c.self.inside.count c.self.inside.words.items) ∙ ap length c.self.view_is
