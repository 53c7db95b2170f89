use Rattle.std.proofs.Common.{◌≡◌, ap}
use Rattle.ufs_model.proofs.Words.{OnErr, Server, on_err_weaker}
use Rattle.ufs_model.proofs.Legal.{told_legal}
use Rattle.ufs_model.proofs.plain.Plain.ask.Goals as goal

pub returns-clause-step : goal.returns-clause-step
returns-clause-step c =
    let same : OnErr c.answer.result (c.answer.new.self.state ≡ c.args.self.now.state) = on_err_weaker c.answer.result (λ e. ap (λ (server : Server). server.state) e) c.answer.ensures.memory in
    rw c.unwrap_or.ensures (told_legal _ _ _ _ _ c.answer.result c.answer.ensures.running c.answer.ensures.answer same)
