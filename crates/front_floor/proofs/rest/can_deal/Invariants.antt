use Rattle.std.proofs.Common.{◌≡◌, ◌+◌, ◌-◌, ◌^◌, sum, drop}
use Rattle.front_floor.proofs.rest.can_deal.Given as goal

abbrev pub invariant-loop-left : goal.invariant-loop-left
invariant-loop-left l = l.room + sum l.budgets ≡ 2 ^ 64 - 2 + sum (drop l.left-index l.budgets)
