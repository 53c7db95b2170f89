use Rattle.cfs_serve.proofs.SureDisks.{made_sure}
use Rattle.cfs_serve.proofs.sure_disk.SureDisk.new.Goals as goal

pub invariant_of-result : goal.invariant_of-result
invariant_of-result c = record { sure = made_sure _ _ c.in_ok-disk.ensures }
