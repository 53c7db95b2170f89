use Rattle.cfs_serve.proofs.Checking.{first_of}
use Rattle.cfs_serve.proofs.inspecting.tell_faults.Goals as goal

pub returns-clause-told : goal.returns-clause-told
returns-clause-told c = λ image is. (first_of c.args.faults c.as_slice.result.now _ c.as_slice.ensures c.requires, is)
