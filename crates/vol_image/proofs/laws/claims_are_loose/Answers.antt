use Rattle.vol_image.proofs.AtRest.{rest_loose, loose_stays, rest_stays}
use Rattle.vol_image.proofs.laws.claims_are_loose.Goals as goal

pub returns-clause-loose : goal.returns-clause-loose
returns-clause-loose c = rest_loose

pub returns-clause-stays : goal.returns-clause-stays
returns-clause-stays c = loose_stays

pub returns-clause-rest : goal.returns-clause-rest
returns-clause-rest c = rest_stays
