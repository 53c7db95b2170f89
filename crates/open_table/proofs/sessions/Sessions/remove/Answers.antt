use Rattle.std.proofs.Common.{◌≡◌, not, arith, rules}
use Rattle.open_table.proofs.Words.{common_steps, filter, filter_same, same_tuid}
use Rattle.open_table.proofs.sessions.Sessions.remove.Goals as goal

pub returns-in-Some-clause-own : goal.returns-in-Some-clause-own
returns-in-Some-clause-own c = λ q.
    let kept : c.retain.new.self.items ≡ filter (λ g. not (same_tuid g.tuid c.args.tuid)) c.in-Some.own.now.items = filter_same _ _ _ (λ x b f' k. search rules) _ _ c.retain.ensures.filtered in
    grind (arith, common_steps)
