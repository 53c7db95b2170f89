use Rattle.std.proofs.Common.{◌≡◌, ◌+◌, ◌++◌, ◌^◌, ◌≤◌, vec_capacity, length, drop, []}
use Rattle.front_floor.specs.Knows.{fresh_from}
use Rattle.front_floor.specs.Seats.{IsIdle}
use Rattle.front_floor.proofs.lock.deal_all.Given as goal

abbrev pub invariant-loop-left : goal.invariant-loop-left
invariant-loop-left g l = record {
  table : l.keeper.table_id ≡ l.fn.keeper.table_id;
  idle : IsIdle l.keeper.me;
  parts : l.keeper.me.0.parts + l.number ≡ 2 ^ 32;
  told : l.keeper.me.0.told ≡ [];
  number : l.number ≡ l.left-index;
  plan : l.keeper.me.0.plan ≡ drop l.left-index l.budgets;
  room : length l.budgets ≤ vec_capacity l.handles;
  count : length l.handles.items ≡ l.number;
  handles : l.handles.items ++ fresh_from l.fn.keeper.table_id l.number (drop l.left-index l.budgets) ≡ fresh_from l.fn.keeper.table_id 0 l.budgets;
}
