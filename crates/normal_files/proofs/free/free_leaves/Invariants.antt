use Rattle.normal_files.proofs.Words.{◌≡◌, ℕ, length, ◌+◌, ◌*◌, ◌-◌, Ok, leaf_pointers}
use Rattle.normal_files.specs.Frees.{FollowsStart, FreesTo, GivesLeaves}
use Rattle.normal_files.specs.Limits.{free_calls, free_tries}
use Rattle.block_tree.specs.declared.root.Root as roots
use Rattle.normal_files.proofs.free.free_leaves.Given as goal
use Rattle.leaf_changes.specs.Tops.{root_top}

abbrev pub invariant-loop-place : goal.invariant-loop-place
invariant-loop-place g l = record {
  frees : (root : roots.Root) (n : ℕ) → FreesTo g.D.Disk root (GivesLeaves root l.node.leaves n l.from) (leaf_pointers.count * n + l.from) n (leaf_pointers.count * n + l.place) n l.initial.disk l.disk l.initial.space l.space (Ok tt);
  follows : (at : ℕ) (root : roots.Root) → FollowsStart g.D.Disk (root_top at root) ((l.place - l.from) * free_calls) ((l.place - l.from) * free_tries) l.initial.disk l.disk l.initial.space l.space (Ok tt);
  size : (g.D.Disk.blocks l.disk ≡ g.D.Disk.blocks l.initial.disk) × (length l.space.free ≡ length l.initial.space.free);
}
