use Rattle.std.proofs.Common.{◌∙◌, ap}
use Rattle.cfs_core.proofs.Words.{directory_kind, directory_kind-kinds_in}
use Rattle.cfs_core.specs.StandsFor.{front_of}
use Rattle.cfs_core.proofs.kernel.CoreAsker.kind.Goals as goal

pub returns : goal.returns
returns g c = λ s stands.
    c.kind.ensures.kind ∙ ap (λ directory. directory_kind directory c.args.id) (front_of g.D.Disk c.args.self.now s stands).directory
    ∙ directory_kind-kinds_in s.graph.objects c.args.id
