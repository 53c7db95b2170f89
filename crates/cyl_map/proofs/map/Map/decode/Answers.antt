use Rattle.std.proofs.Common.{◌∙◌, Ok, length, sym, ap, subst}
use Rattle.cyl_map.specs.Map as spec
use Rattle.cyl_map.proofs.Maps.{entries_read, spells_read, spells_these, none_bad_entry, AreEntries-map_spelling, refused_exactly}
use Rattle.cyl_map.proofs.map.Map.decode.Goals as goal
use Rattle.cyl_map.proofs.map.Map.decode.Goals.{Else-not-is_spelled}

pub returns-then-not-is_spelled-clause-only : goal.returns-then-not-is_spelled-clause-only
returns-then-not-is_spelled-clause-only c map is spelled =
    absurd (none_bad_entry _ _ _ (AreEntries-map_spelling c.bytes-bytes.result.now map is (c.bytes-bytes.ensures.bytes ∙ spelled)) c.first_bad.ensures)

pub returns-then-not-is_spelled-clause-refused : goal.returns-then-not-is_spelled-clause-refused
returns-then-not-is_spelled-clause-refused c =
    refused_exactly c.args.block.now c.first_bad.result
    (subst (λ bs. spec.IsFirstBadEntry bs c.first_bad.result.entry c.first_bad.result.byte) c.bytes-bytes.ensures.bytes c.first_bad.ensures)

-- the bytes that are kept
spells : (c : Else-not-is_spelled) → spec.SpellsMap c.bytes-bytes.result.now
spells c = spells_read c.bytes-bytes.result.now (ap length c.bytes-bytes.ensures.bytes ∙ c.bytes-bytes.ensures.long) (c.is_spelled.ensures.0 c.if-not-is_spelled.false)

pub invariant_of-result : goal.invariant_of-result
invariant_of-result c = spells (goal.at-invariant_of-result c).Else-not-is_spelled

pub returns-clause-read : goal.returns-clause-read
returns-clause-read c =
    let is = spells (goal.at-returns-clause-read c).Else-not-is_spelled in (is.entries, sym c.bytes-bytes.ensures.bytes ∙ is.spelled)

pub returns-clause-only : goal.returns-clause-only
returns-clause-only c map is spelled =
    ap (λ es. Ok es) (spells_these c.bytes-bytes.result.now map is (c.bytes-bytes.ensures.bytes ∙ spelled)).0

pub returns-clause-refused : goal.returns-clause-refused
returns-clause-refused c entry byte = (
  λ e. cc,
  λ bad. absurd (none_bad_entry c.args.block.now entry byte (subst spec.AreEntries c.bytes-bytes.ensures.bytes (c.is_spelled.ensures.0 c.if-not-is_spelled.false)) bad),
)

pub returns-clause-entries : goal.returns-clause-entries
returns-clause-entries c =
    let is = spells (goal.at-returns-clause-entries c).Else-not-is_spelled in
    entries_read c.args.block.now _ is.entries (sym c.bytes-bytes.ensures.bytes ∙ is.spelled)
