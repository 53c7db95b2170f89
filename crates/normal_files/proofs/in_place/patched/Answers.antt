use Rattle.normal_files.proofs.Words.{◌*◌, ◌∙◌, sym, arith, block_at}
use Rattle.normal_files.proofs.LeafReads.{covered}
use Rattle.normal_files.proofs.in_place.patched.Goals as goal

pub returns-then-from-offset-clause-content : goal.returns-then-from-offset-clause-content
returns-then-from-offset-clause-content g c = λ tells long.
    c.patch_leaf.ensures.patched ∙ covered (512 * c.args.leaf) c.zero-content.result (block_at (g.D.Disk.content c.args.disk.now) c.args.block) c.args.offset c.args.bytes.now
    c.if-offset-from.true (long ∙ sym c.patch_leaf.ensures.long) (omega (arith, c.if-from-offset.true, c.patch_leaf.ensures.long))
