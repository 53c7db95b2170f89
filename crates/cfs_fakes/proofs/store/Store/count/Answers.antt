use Rattle.std.proofs.Common.{subst}
use Rattle.cfs_base.specs.Disk.{AreBlocks, Image}
use Rattle.cfs_fakes.proofs.Chunks.{chunks_are_blocks}
use Rattle.cfs_fakes.proofs.store.Store.count.Goals as goal

pub returns-clause-blocks : goal.returns-clause-blocks
returns-clause-blocks c =
    let P : Image → Type 0 = AreBlocks in
    subst P c.self.view_is (chunks_are_blocks c.self.inside.count c.self.inside.bytes.items c.self.invariant)
