use Rattle.cfs_serve.proofs.Workers.{all_done}
use Rattle.cfs_serve.proofs.serving.serve_by.Goals as goal

pub returns-in-Ok-clause-left : goal.returns-in-Ok-clause-left
returns-in-Ok-clause-left g c =
    let machine = c.in-Ok.machine in
    rw c.into_served.ensures.ports (all_done machine.ports machine.turns c.in-Ok.ensures.done)
