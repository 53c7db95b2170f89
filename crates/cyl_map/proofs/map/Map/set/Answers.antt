use Rattle.std.proofs.Common.{◌≡◌, ◌∙◌, ap, sym, set, arith}
use Rattle.cyl_map.proofs.Words.{spelling, with_bytes}
use Rattle.cyl_map.specs.Map as spec
use Rattle.cyl_map.proofs.Maps.{IsMap-set, spells_these, length-entries_of}
use Rattle.cyl_map.proofs.Volumes.{map_spelling-set}
use Rattle.cyl_map.proofs.map.Map.set.Goals as goal

-- what was written spells the map with the entry
these : (c : goal.After-put_at) → (spec.entries_of c.put_at.new.block ≡ set (spec.entries_of c.self.inside.bytes) c.args.entry c.args.value) × spec.SpellsMap c.put_at.new.block
these c =
    let es = spec.entries_of c.self.inside.bytes in
    spells_these c.put_at.new.block (set es c.args.entry c.args.value) (IsMap-set es c.args.entry c.args.value c.self.invariant.entries c.requires.entry)
    (c.put_at.ensures ∙ ap (with_bytes c.self.inside.bytes c.args.entry) c.encode.ensures.spelled ∙ ap (λ b. with_bytes b c.args.entry (spelling c.args.value)) c.self.invariant.spelled
    ∙ sym (map_spelling-set es c.args.entry c.args.value (omega (arith, length-entries_of c.self.inside.bytes))))

pub invariant_of-self : goal.invariant_of-self
invariant_of-self c = (these c).1

pub returns-clause-set : goal.returns-clause-set
returns-clause-set c = rw (← c.self.view_is) (these c).0

pub returns-clause-map : goal.returns-clause-map
returns-clause-map c = (these c).1.entries
