use Rattle.cfs_serve.proofs.Hearing.{leaves_service}
use Rattle.cfs_serve.proofs.talk.Talk.end.Goals as goal

pub returns : goal.returns
returns g c =
    leaves_service g.A.Server g.J.Charter.charter c.args.self c.tidy.new.self c.leave.new.self c.collect_last.new.self c.into_served.result c.requires.stays c.requires.unread c.tidy.ensures.made c.leave.ensures
    c.collect_last.ensures c.into_served.ensures
