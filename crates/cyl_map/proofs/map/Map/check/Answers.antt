use Rattle.std.proofs.Common.{length, ◌∙◌, ap, subst}
use Rattle.cyl_map.specs.Map as spec
use Rattle.cyl_map.proofs.Maps.{spells_read}
use Rattle.cyl_map.proofs.map.Map.check.Goals as goal

pub returns-then-not-is_spelled-clause-refused : goal.returns-then-not-is_spelled-clause-refused
returns-then-not-is_spelled-clause-refused c =
    subst (λ bs. spec.IsFirstBadEntry bs c.first_bad.result.entry c.first_bad.result.byte) c.bytes-bytes.ensures.bytes c.first_bad.ensures

pub returns-clause-map : goal.returns-clause-map
returns-clause-map c =
    subst spec.SpellsMap c.bytes-bytes.ensures.bytes
    (spells_read c.bytes-bytes.result.now (ap length c.bytes-bytes.ensures.bytes ∙ c.bytes-bytes.ensures.long) (c.is_spelled.ensures.0 c.if-not-is_spelled.false))
