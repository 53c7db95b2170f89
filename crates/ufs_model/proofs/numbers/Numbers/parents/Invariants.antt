use Rattle.std.proofs.Common.{◌≡◌, ◌/◌, map, take}
use Rattle.ufs_model.proofs.numbers.Numbers.parents.Given as goal

abbrev pub invariant-loop-number : goal.invariant-loop-number
invariant-loop-number l = l.each.items ≡ map (λ n. n / 128) (take l.number-index l.self)
