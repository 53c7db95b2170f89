use Rattle.std.proofs.Common.{◌∙◌, ap, sym}
use Rattle.cfs_recover.proofs.Words.{source}
use Rattle.cfs_recover.proofs.Copyings.{kept_more, kept_same}
use Rattle.cfs_recover.proofs.copies.note_copy.Goals as goal

pub returns-then-head-block : goal.returns-then-head-block
returns-then-head-block c image found done (copies, kept) x at same copy first =
    (copies, kept_same image found done c.args.kept.now.items copies kept x at (ap (source image) same ∙ sym copy.from ∙ c.if-head-block.true ∙ sym same))

pub returns : goal.returns
returns c image found done (copies, kept) x at same copy first =
    (_, kept_more image found done c.args.kept.now.items copies kept x at c.args.block same c.args.head.now copy c.if-head-block.false first c.keep_root.new.kept.items c.in_ok-keep_root.ensures)
