use Rattle.std.proofs.Common.{◌≡◌, rules}
use Rattle.ufs_model.specs.declared.asked.Request.TheVariants as asks
use Rattle.ufs_model.proofs.server.Server.need.Goals as goal

pub returns-in-Resize : goal.returns-in-Resize
returns-in-Resize c =
    let whole : c.args.request.now ≡ asks.Resize c.in-Resize.file c.in-Resize.size = search rules in
    rw whole c.change_need-in-Resize.ensures.need
