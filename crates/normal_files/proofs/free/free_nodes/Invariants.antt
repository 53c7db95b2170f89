use Rattle.normal_files.proofs.Words.{◌*◌, ◌-◌, Ok, leaf_pointers}
use Rattle.normal_files.specs.Frees.{FollowsStart, FreesTo, GivesNodes}
use Rattle.normal_files.specs.Limits.{free_node_calls, free_node_tries}
use Rattle.normal_files.proofs.free.free_nodes.Given as goal
use Rattle.leaf_changes.specs.Tops.{root_top}

abbrev pub invariant-loop-number : goal.invariant-loop-number
invariant-loop-number g l = record {
  frees : FreesTo g.D.Disk l.root (GivesNodes l.from) (leaf_pointers.count * l.from) l.from (leaf_pointers.count * l.number) l.number l.initial.disk l.disk l.initial.space l.space (Ok tt);
  follows : FollowsStart g.D.Disk (root_top l.at.0 l.root) ((l.number - l.from) * free_node_calls) ((l.number - l.from) * free_node_tries) l.initial.disk l.disk l.initial.space l.space (Ok tt);
}
