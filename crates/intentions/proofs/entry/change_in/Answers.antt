use Rattle.std.proofs.Common.{◌%◌, ◌∙◌, ap, sym, subst, arith}
use Rattle.cyl_alloc.proofs.Entries.{spells_with}
use Rattle.cyl_map.specs.Entry.{spelling}
use Rattle.cyl_map.specs.Map.{SpellsMap}
use Rattle.cyl_map.specs.Volume.{with_bytes}
use Rattle.cyl_map.specs.declared.entry.MapEntry.{MapEntry}
use Rattle.intentions.proofs.Loaded.{loaded_entry, loaded_valid}
use Rattle.intentions.proofs.entry.change_in.Goals as goal

pub of-requires-clause-entry : goal.of-requires-clause-entry
of-requires-clause-entry c = loaded_valid c.args.map.now c.args.block.0 c.entry_in-entry.result c.requires.spells c.entry_in-entry.ensures

pub returns-clause-valid : goal.returns-clause-valid
returns-clause-valid c = loaded_valid c.args.map.now c.args.block.0 c.entry_in-entry.result c.requires.spells c.entry_in-entry.ensures

pub returns-clause-spells : goal.returns-clause-spells
returns-clause-spells c = subst SpellsMap (sym c.put_in.ensures) (spells_with c.args.map.now (c.args.block.0 % 64) c.of.result c.requires.spells (omega arith) c.of.ensures.entry)

pub returns-clause-was : goal.returns-clause-was
returns-clause-was c = loaded_entry c.args.map.now c.args.block.0 c.entry_in-entry.result c.requires.spells c.entry_in-entry.ensures

pub returns-clause-now : goal.returns-clause-now
returns-clause-now c = c.put_in.ensures ∙ ap (λ (e : MapEntry). with_bytes c.args.map.now (c.args.block.0 % 64) (spelling e)) c.of.ensures.value
