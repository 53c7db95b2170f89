use Rattle.vol_image.proofs.AtRoot.{bare_reads, bare_index, bare_normal, bare_special}
use Rattle.vol_image.proofs.Changes.{object_made, hold_fewer}
use Rattle.vol_image.proofs.laws.objects_are_made.Goals as goal

pub returns-clause-reads : goal.returns-clause-reads
returns-clause-reads c = bare_reads

pub returns-clause-holds : goal.returns-clause-holds
returns-clause-holds c = object_made

pub returns-clause-fewer : goal.returns-clause-fewer
returns-clause-fewer c = hold_fewer

pub returns-clause-index : goal.returns-clause-index
returns-clause-index c = bare_index

pub returns-clause-normal : goal.returns-clause-normal
returns-clause-normal c = bare_normal

pub returns-clause-special : goal.returns-clause-special
returns-clause-special c = bare_special
