use Rattle.std.proofs.Common.{◌<◌, length, List, ℕ, ap, arith}
use Rattle.cfs_check.proofs.Listed.{has_at, read_at}
use Rattle.cfs_check.specs.Roots.{Found}
use Rattle.cfs_check.proofs.roots.Roots.at.Goals as goal

pub returns-clause-within : goal.returns-clause-within
returns-clause-within c =
    let found = c.self.inside.found.items in
    let inside : c.args.place < length found = omega (arith, c.requires, ap (λ (f : Found). length f.blocks) c.self.view_is) in
    let below = c.self.invariant.within c.index.result.now (has_at found c.args.place c.index.result.now (read_at found c.args.place c.index.result.now inside c.index.ensures)) in
    omega (arith, below, ap (λ (f : Found). f.room) c.self.view_is)
