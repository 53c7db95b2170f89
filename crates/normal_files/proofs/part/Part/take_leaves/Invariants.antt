use Rattle.normal_files.proofs.Words.{◌≡◌, ◌<◌, true, length, Ok}
use Rattle.normal_files.specs.Laid.{node_of}
use Rattle.normal_files.specs.Links.{linked_root}
use Rattle.normal_files.specs.Plans.{plan_of}
use Rattle.normal_files.specs.Ways.{IsToNode}
use Rattle.normal_files.specs.Takes.{HasTaken, TakesBlocks}
use Rattle.normal_files.proofs.TakeOne.{Passed}
use Rattle.normal_files.proofs.part.Part.take_leaves.Given as goal

abbrev pub invariant-loop-leaf : goal.invariant-loop-leaf
invariant-loop-leaf g l = record {
  size : g.D.Disk.blocks l.disk ≡ g.D.Disk.blocks l.initial.disk;
  cylinders : length l.space.free ≡ length l.initial.space.free;
  left : l.space.left ≡ l.initial.space.left;
  near : l.self.leaves.from < l.self.leaves.to → node_of l.next.root l.self.number < g.D.Disk.blocks l.initial.disk;
  grown : l.next.grown ≡ true → l.self.leaves.from < l.leaf;
  takes : TakesBlocks g.D.Disk l.patch.at.0 l.patch.offset l.patch.bytes.now l.initial.disk l.disk l.initial.space l.space (Ok l.next) (λ a c next. HasTaken a c l.patch.at.0 l.patch.root.now.fill l.patch.offset l.patch.bytes.now l.self (node_of l.patch.root.now l.self.number) l.leaf (plan_of l.self.number next));
  way : l.self.leaves.from < l.self.leaves.to → IsToNode l.self.leaves.from l.next.way;
  root : l.next.root ≡ linked_root l.fn.lead l.self.number (plan_of l.self.number l.next);
  run : Passed g.D.Disk l.patch.root.now l.self l.leaf l.next l.initial.disk l.disk l.initial.space l.space;
}
