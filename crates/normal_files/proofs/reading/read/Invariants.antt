use Rattle.normal_files.proofs.Words.{◌≡◌, ◌-◌, ◌/◌, ◌<◌, length, OnlyReads, block_at, Tells, IsReadTo, leaf_in, tree_in}
use Rattle.block_tree.specs.Along.{IsTo, IsWay, IsWayWithin}
use Rattle.normal_files.specs.Standing.{IsRootAt}
use Rattle.normal_files.proofs.LeafReads.{read_before}
use Rattle.normal_files.proofs.reading.read.Given as goal

abbrev pub invariant-loop-leaf : goal.invariant-loop-leaf
invariant-loop-leaf g l = record {
  long : length l.into ≡ length l.initial.into;
  within : IsWayWithin (g.D.Disk.blocks l.fn.disk) l.way;
  way : Tells g.D.Disk l.fn.disk → IsWay (g.D.Disk.content l.fn.disk) l.root l.way;
  last : l.offset / 512 < l.leaf → IsTo (l.leaf - 1) l.way;
  reads : OnlyReads g.D.Disk (read_before (l.offset / 512) l.leaf) l.fn.disk l.disk;
  read : Tells g.D.Disk l.fn.disk → IsRootAt (g.D.Disk.content l.fn.disk) l.at.0 l.root → let image = g.D.Disk.content l.fn.disk in IsReadTo l.leaf l.root.fill (leaf_in (tree_in image (block_at image l.at.0))) l.offset l.into;
}
