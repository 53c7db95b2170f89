use Rattle.cfs_serve.proofs.Playing.{calls_one}
use Rattle.cfs_serve.proofs.server.CoreServer.call.Goals as goal

pub returns-clause-called : goal.returns-clause-called
returns-clause-called g c = rw c.call_for.ensures (calls_one g.D.Disk c.args.self.now)

pub returns-clause-lasts : goal.returns-clause-lasts
returns-clause-lasts g c = λ graph trail marks s at stands run. rw c.call_for.ensures run
