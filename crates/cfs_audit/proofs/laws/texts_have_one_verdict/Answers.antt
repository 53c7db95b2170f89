use Rattle.cfs_audit.proofs.Verdicts.{one_verdict}
use Rattle.cfs_audit.proofs.laws.texts_have_one_verdict.Goals as goal

pub returns : goal.returns
returns c = one_verdict
