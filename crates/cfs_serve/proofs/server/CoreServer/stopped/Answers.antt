use Rattle.std.proofs.Common.{◌∙◌, sym}
use Rattle.cfs_serve.proofs.Stopping.{stop_again, stop_none}
use Rattle.cfs_serve.proofs.server.CoreServer.stopped.Goals as goal

pub returns-in-Some : goal.returns-in-Some
returns-in-Some g c =
    let status = c.status-status.ensures in
    rw status.damage (stop_again c.args.self.now.stop c.in-Some.moment (sym status.stopped ∙ c.in-Some.is))

pub returns-in-None : goal.returns-in-None
returns-in-None g c = sym (stop_none c.args.self.now.stop (sym c.status-status.ensures.stopped ∙ c.in-None.is))
