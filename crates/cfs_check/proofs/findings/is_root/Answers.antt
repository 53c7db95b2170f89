use Rattle.cfs_check.proofs.RootWords.{told_root}
use Rattle.cfs_check.proofs.findings.is_root.Goals as goal

pub returns : goal.returns
returns c = rw c.is_ok.ensures.value (told_root c.args.content.now c.decode.result c.decode.ensures.accepted c.decode.ensures.each_accepted)
