use Rattle.std.proofs.Common.{ℕ, List, [], get_or, ◌∙◌, ap}
use Rattle.cyl_map.proofs.Words.{said_by}
use Rattle.cyl_map.specs.Map as spec
use Rattle.cyl_map.proofs.Maps.{get_or-eights}
use Rattle.cyl_map.proofs.map.Map.entry_in.Goals as goal

pub returns : goal.returns
returns c =
    let k = c.args.entry in
    c.said_by.ensures
    ∙ ap said_by (ap (λ (xs : List (List ℕ)). get_or xs k []) c.eights-entries.ensures.each
    ∙ get_or-eights c.bytes.result.now k [] c.requires.below
    ∙ ap (λ (b : List ℕ). spec.bytes_at b k) c.bytes.ensures.bytes)
