use Rattle.std.proofs.Common.{◌≡◌, ◌+◌, ◌*◌, ◌-◌, ◌≤◌, ◌++◌, ◌∷◌, take, length, vec_len, vec_capacity}
use Rattle.std.specs.List.{flat_map}
use Rattle.std.specs.Fmt.{decimal}
use Rattle.cfs_script.proofs.reply.put_line.Given as goal

abbrev pub invariant-loop-number : goal.invariant-loop-number
invariant-loop-number l = record {
  written : l.into.items ≡ (l.fn.into.items ++ l.words) ++ flat_map (λ n. 32 ∷ decimal n) (take l.number-index l.numbers);
  room : vec_len l.into + 21 * (length l.numbers - l.number-index) + 1 ≤ vec_capacity l.into;
  capacity : vec_capacity l.fn.into ≤ vec_capacity l.into;
}
