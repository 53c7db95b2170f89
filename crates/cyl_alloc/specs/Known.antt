-- The known maps of a space, lent to a call that changes entries.
use Rattle.std.specs.Borrow.{Lends, MutBor, Fml}
use Rattle.cyl_alloc.specs.Space.{Kept}
use Rattle.cyl_alloc.specs.contracts.known.KnownMaps as known
use Rattle.cyl_alloc.specs.contracts.space.Space as space

-- the space ends as it was, whichever maps are known then
abbrev pub LendsKnown : MutBor Kept → MutBor (Unit {0}) → Fml
LendsKnown s r = Lends space.the_row known.the_row s r (λ _. s.now)
