use Rattle.std.proofs.Common.{List, ℕ, ◌∙◌, ap, subst}
use Rattle.cfs_base.specs.Disk.{block_at}
use Rattle.cfs_recover.specs.Checks.{HasNoneLike}
use Rattle.cfs_check.proofs.Shadowed.{read_by_none}
use Rattle.cfs_check.proofs.object.shown_root.Goals as goal

pub returns-in-Err : goal.returns-in-Err
returns-in-Err c =
    let image = c.args.image.now in
    read_by_none image c.args.block c.args.own.now c.requires.own
    (subst (HasNoneLike c.args.own.now) (c.block.ensures ∙ ap (block_at image) c.reader_of-from.ensures.is) c.in-Err.ensures.1)
