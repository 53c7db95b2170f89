use Rattle.cyl_alloc.proofs.Words.{All-replicate, SpellsMap}
use Rattle.cyl_alloc.proofs.Entries.{zeros_spell}
use Rattle.cyl_alloc.proofs.known.KnownMaps.new.Goals as goal

pub invariant_of-result : goal.invariant_of-result
invariant_of-result c = All-replicate SpellsMap 8 c.zero.result (zeros_spell c.zero.result c.zero.ensures)
