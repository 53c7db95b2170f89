use Rattle.std.proofs.Common.{◌/◌, ℕ, List, get_or, ap, arith}
use Rattle.cyl_alloc.proofs.Words.{Kept}
use Rattle.cyl_alloc.proofs.Counted.{counts_put}
use Rattle.cyl_alloc.proofs.space.Space.took.Goals as goal

pub returns-clause-counts : goal.returns-clause-counts
returns-clause-counts c image other counts elsewhere free =
    let at = c.args.block.0 / 64 in
    let same = ap (λ (kept : Kept). kept.free) c.self.view_is in
    let before = ap (λ (l : List ℕ). get_or l at 0) same in
    counts_put image other c.args.self.now c.self.inside.counts c.put.new.self c.args.block.0 c.saturating_sub.result counts elsewhere c.requires.on_disk
    (omega (arith, before, free, c.at-count.ensures.count, c.saturating_sub.ensures, counts.each at (omega (arith, c.requires.on_disk)))) same c.put.ensures.put c.self.inside.unfinished
