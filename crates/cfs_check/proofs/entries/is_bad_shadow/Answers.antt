use Rattle.std.proofs.Common.{◌∙◌, sym, arith}
use Rattle.cfs_check.proofs.Entered.{bad_owner}
use Rattle.cfs_check.proofs.entries.is_bad_shadow.Goals as goal

pub returns-then-root-blocks : goal.returns-then-root-blocks
returns-then-root-blocks c bad =
    let owner = bad_owner c.args.image.now c.args.roots.now.blocks c.args.block _ (sym c.in-Some.ensures) bad in
    omega (arith, owner, bad.on_disk, c.if-root-blocks.true, c.blocks-2.ensures.is)
