use Rattle.std.proofs.Common.{◌∙◌, ℕ, ap, false, length, sym}
use Rattle.std.specs.Prelude.{replicate}
use Rattle.collector_marks.specs.Bits.{bits_of}
use Rattle.collector_marks.proofs.Words.{length-bits, zeros}
use Rattle.collector_marks.proofs.bits.Bits.clear.Goals as goal

pub returns : goal.returns
returns c = ap (bits_of c.self.inside.count) (c.fill.ensures.items (λ y is. is)) ∙ zeros c.self.inside.count _
    ∙ ap (λ (n : ℕ). replicate n false) (sym (length-bits c.self.inside.count c.self.inside.words.items) ∙ ap length c.self.view_is)
