use Rattle.cfs_serve.proofs.Volumes.{refusal_of}
use Rattle.cfs_serve.proofs.volume.open_volume.Goals as goal

pub returns-in-Err-clause-refused : goal.returns-in-Err-clause-refused
returns-in-Err-clause-refused g c = rw c.told_by.ensures (refusal_of g.D.Disk c.args.disk c.in-Err.field-0.disk c.in-Err.field-0.why c.in-Err.ensures.free c.in-Err.ensures.refused c.in-Err.ensures.cause)
