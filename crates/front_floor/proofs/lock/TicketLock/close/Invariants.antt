use Rattle.std.proofs.Common.{◌≡◌, ◌+◌, ◌++◌, ◌^◌, length, map, All}
use Rattle.front_floor.specs.Knows.{HandleKnows}
use Rattle.front_floor.specs.Seats.{IsIdle, SitsAt}
use Rattle.front_floor.proofs.lock.TicketLock.close.Given as goal

abbrev pub invariant-loop-handle : goal.invariant-loop-handle
invariant-loop-handle g l = record {
  table : SitsAt l.rows.shared.table_id l.keeper.table_id;
  idle : IsIdle l.keeper.me;
  parts : l.keeper.me.0.parts + length l.out.items ≡ 2 ^ 32;
  told : map (λ (p : HandleKnows g.row.M-Entry.Denot). p.heard) l.out.items ++ l.keeper.me.0.told ≡ map (λ (p : HandleKnows g.row.M-Entry.Denot). p.heard) l.fn.handles.handles;
  of : All (λ (p : HandleKnows g.row.M-Entry.Denot). p.table ≡ l.rows.shared.table_id) l.out.items;
}

abbrev pub decreases-loop-handle : goal.decreases-loop-handle
decreases-loop-handle g l = length l.out.items
