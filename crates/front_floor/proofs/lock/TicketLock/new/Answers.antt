use Rattle.std.proofs.Common.{◌∙◌}
use Rattle.front_floor.proofs.Deals.{are_fresh, keeps_all}
use Rattle.front_floor.proofs.lock.TicketLock.new.Goals as goal

pub invariant_of-result-in-Ok-lay : goal.invariant_of-result-in-Ok-lay
invariant_of-result-in-Ok-lay g c =
    let dealt = c.deal_all.ensures in
    keeps_all c.in-Ok-lay.keeper.table_id c.args.budgets.now c.deal_all.new.handles.items c.deal_all.new.keeper.me dealt.handles dealt.keeper

pub returns-in-Ok-lay-clause-of : goal.returns-in-Ok-lay-clause-of
returns-in-Ok-lay-clause-of g c =
    let dealt = c.deal_all.ensures in
    let at = c.in-Ok-lay.keeper.table_id in
    record {
      together = dealt.table ∙ c.in-Ok-lay.ensures.table.same;
      all = are_fresh c.in-Ok-lay.rows.shared.table_id at c.args.budgets.now c.deal_all.new.handles.items c.in-Ok-lay.ensures.table.same dealt.handles;
    }
