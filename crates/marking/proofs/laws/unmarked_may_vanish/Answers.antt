use Rattle.marking.proofs.Wells.{well}
use Rattle.marking.proofs.Condemned.{condemned_may_vanish}
use Rattle.marking.proofs.laws.unmarked_may_vanish.Goals as goal

pub returns : goal.returns
returns c s colours state none is = condemned_may_vanish s (well s state) colours none is
