use Rattle.cfs_script.proofs.Digits.{AreRead}
use Rattle.cfs_script.proofs.word.read_digits.Given as goal

abbrev pub invariant-bytes : goal.invariant-bytes
invariant-bytes l = AreRead l.most l.digits l.into l.at
