use Rattle.ufs_model.proofs.Vanishing.{may_vanish_meant, may_vanish_test, vanish_gone, vanish_kept}
use Rattle.ufs_model.proofs.laws.may_vanish_is.Goals as goal

pub returns-clause-exact : goal.returns-clause-exact
returns-clause-exact c = λ s ids h. (may_vanish_meant s ids h, may_vanish_test s ids h)

pub returns-clause-gone : goal.returns-clause-gone
returns-clause-gone c = vanish_gone

pub returns-clause-kept : goal.returns-clause-kept
returns-clause-kept c = vanish_kept
