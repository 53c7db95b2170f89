use Rattle.cfs_recover.proofs.Refused.{fault_last, no_label_first, version_next}
use Rattle.cfs_recover.proofs.laws.faults_come_in_order.Goals as goal

pub returns : goal.returns
returns c = record {
  no_label = no_label_first;
  version = λ image found e. version_next image found e;
  label = fault_last;
}
