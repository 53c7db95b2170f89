use Rattle.std.proofs.Common.{Bor, List, ℕ}
use Rattle.name_lines.proofs.Lists.{no_texts}
use Rattle.name_lines.proofs.read.names_of.Goals as goal

pub returns-in_default : goal.returns-in_default
returns-in_default c =
    let off = rw c.in_default.is at c.in_ok-name.ensures in
    no_texts (λ (part : Bor (List ℕ)). part.now) c.args.parts.now c.parts.part-index _ c.parts-test.true off
