use Rattle.cyl_alloc.proofs.Words.{All-set, SpellsMap}
use Rattle.cyl_alloc.proofs.known.KnownMaps.store_map.Goals as goal

pub invariant_of-self : goal.invariant_of-self
invariant_of-self g c = All-set SpellsMap _ _ _ c.requires.spells c.self.invariant
