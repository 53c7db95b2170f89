use Rattle.std.proofs.Common.{◌/◌, ℕ, List, get_or, ap, arith}
use Rattle.cyl_alloc.proofs.Words.{Kept}
use Rattle.cyl_alloc.proofs.Counted.{counts_put, cylinder-most}
use Rattle.cyl_alloc.proofs.space.Space.gave.Goals as goal

pub returns-clause-counts : goal.returns-clause-counts
returns-clause-counts c image other counts elsewhere free =
    let at = c.args.block.0 / 64 in
    let same = ap (λ (kept : Kept). kept.free) c.self.view_is in
    let before = ap (λ (l : List ℕ). get_or l at 0) same in
    counts_put image other c.args.self.now c.self.inside.counts c.put.new.self c.args.block.0 c.min-after.result counts elsewhere c.requires.on_disk
    (omega (arith, before, free, c.at-before.ensures.count, c.saturating_add.ensures, c.min-after.ensures, cylinder-most other at, counts.each at (omega (arith, c.requires.on_disk)))) same c.put.ensures.put c.self.inside.unfinished
