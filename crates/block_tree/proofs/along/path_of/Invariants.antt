use Rattle.std.proofs.Common.{◌≡◌, ◌+◌, ◌-◌, ◌<◌, ◌≤◌, ℕ, length, get_or}
use Rattle.block_tree.proofs.Descents.{IsRest, levels_from}
use Rattle.block_tree.proofs.Words.{levels_below, node_levels, width}
use Rattle.block_tree.specs.Path.{path_of}
use Rattle.block_tree.proofs.along.path_of.Given as goal

abbrev pub invariant-loop-depth : goal.invariant-loop-depth
invariant-loop-depth l = record {
  long : length l.path ≡ node_levels + 1;
  done : (i : ℕ) → i < l.depth → get_or l.path i 0 ≡ get_or (path_of l.leaf) i 0;
  rest : IsRest l.leaf l.depth l.rest;
  small : l.rest < width (levels_from l.depth);
  wide : l.depth ≤ node_levels → l.width ≡ width (levels_below (node_levels - l.depth));
}
