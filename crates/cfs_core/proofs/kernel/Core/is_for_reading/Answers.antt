use Rattle.std.proofs.Common.{sym, ◌∙◌, ap}
use Rattle.cfs_core.proofs.Words.{goes_through_reading, session_grant, grant_of}
use Rattle.cfs_core.specs.Kernel.{grants_in}
use Rattle.cfs_core.proofs.Ways.{reads_of}
use Rattle.cfs_core.proofs.kernel.Core.is_for_reading.Goals as goal

pub returns-in-Direct : goal.returns-in-Direct
returns-in-Direct g c = λ s serves. ap (goes_through_reading s c.args.who) (sym c.in-Direct.is)

pub returns-in-Through : goal.returns-in-Through
returns-in-Through g c = λ s serves.
    let found = c.find.ensures ∙ ap (λ gs. session_grant gs c.args.who c.in-Through.grant) (ap (λ k. grants_in k.handles) c.self.view_is ∙ serves.front.grants) ∙ c.table_follows_the_model.ensures.found s c.args.who c.in-Through.grant in
    c.reads.ensures ∙ reads_of c.find.result (grant_of s c.args.who c.in-Through.grant) found ∙ ap (goes_through_reading s c.args.who) (sym c.in-Through.is)
