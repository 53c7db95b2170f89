use Rattle.std.proofs.Common.{◌≡◌, ap, sym, rules}
use Rattle.ufs_model.proofs.Words.{Server}
use Rattle.ufs_model.specs.declared.asked.Reply.TheVariants as replies
use Rattle.ufs_model.specs.declared.asked.Request.TheVariants as asks
use Rattle.ufs_model.proofs.server.Server.outcome.Goals as goal

pub returns-in_ok-change-in-Resize-clause-ok : goal.returns-in_ok-change-in-Resize-clause-ok
returns-in_ok-change-in-Resize-clause-ok c =
    let whole : c.args.request.now ≡ asks.Resize c.in-Resize.file c.in-Resize.size = search rules in
    rw whole (ap (λ (v : Server). (replies.Done, v.state)) (sym c.in_ok-change-in-Resize.ensures.ok))
