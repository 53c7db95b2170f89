use Rattle.std.proofs.Common.{◌≡◌, ◌<◌, ◌≤◌, ◌-◌, ◌/◌, ◌^◌}
use Rattle.block_tree.proofs.head.bytes_after.Given as goal

abbrev pub invariant-loop-most : goal.invariant-loop-most
invariant-loop-most l = record {
  fits : l.front < 256 ^ (8 - l.after);
  within : l.after ≤ 7;
  front_is : l.front ≡ l.size / 256 ^ l.after;
  most_is : l.most ≡ l.limit / 256 ^ l.after;
  above : l.most < l.front;
}

abbrev pub decreases-loop-most : goal.decreases-loop-most
decreases-loop-most l = l.front
