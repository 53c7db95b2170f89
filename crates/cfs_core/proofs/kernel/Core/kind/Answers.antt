use Rattle.std.proofs.Common.{◌≡◌, sym, ◌∙◌, ap, arith, refl, Option, Some, None, IsSome}
use Rattle.cfs_core.proofs.Words.{Kind, kind_below}
use Rattle.cfs_core.proofs.Serving.{named_some}
use Rattle.cfs_core.proofs.kernel.Core.kind.Goals as goal

found : (o : Option Kind) → IsSome o → (kind : Kind) × (o ≡ Some kind)
found None h = cc
found (Some kind) h = (kind, refl)

pub returns-clause-on_disk : goal.returns-clause-on_disk
returns-clause-on_disk g c = λ some.
    let kind = found c.kind.result some in
    let below = kind_below c.self.inside.directory c.args.id kind.0 c.directories_are_listings.ensures (sym c.kind.ensures ∙ kind.1) in
    omega (arith, below, c.self.invariant.room, ap (λ k. g.D.Disk.blocks k.disk) c.self.view_is)

pub returns-clause-some : goal.returns-clause-some
returns-clause-some g c = λ some. let kind = found c.kind.result some in named_some c.self.inside.directory.named c.args.id kind.0 c.self.invariant.some (sym c.kind.ensures ∙ kind.1)
