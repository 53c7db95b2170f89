use Rattle.std.proofs.Common.{◌≡◌, ◌-◌}
use Rattle.block_tree.proofs.Words.{OnlyReads, Tells}
use Rattle.block_tree.specs.Along.{IsTopWithin, IsWay, IsWayWithin}
use Rattle.block_tree.specs.Path.{path_of}
use Rattle.block_tree.proofs.along.Way.get.Given as goal

abbrev pub invariant-loop-depth : goal.invariant-loop-depth
invariant-loop-depth g l = record {
  read : l.self.read ≡ l.depth;
  path : l.self.path ≡ path_of l.leaf;
  within : IsWayWithin (g.D.Disk.blocks l.initial.disk) l.self;
  way : Tells g.D.Disk l.initial.disk → IsWay (g.D.Disk.content l.initial.disk) l.root l.initial.self → IsWay (g.D.Disk.content l.initial.disk) l.root l.self;
  top : IsTopWithin (g.D.Disk.blocks l.initial.disk) l.root l.initial.self → IsTopWithin (g.D.Disk.blocks l.initial.disk) l.root l.self;
  reads : OnlyReads g.D.Disk (l.depth - l.initial.self.read) l.initial.disk l.disk;
}
