use Rattle.std.proofs.Common.{◌∙◌, ap, sum, refl}
use Rattle.cfs_core.proofs.Serving.{counted, room_is}
use Rattle.cfs_core.proofs.Waiting.{together}
use Rattle.cfs_core.specs.StandsFor.{free_to_come}
use Rattle.cfs_core.proofs.kernel.Core.status.Goals as goal

pub returns-clause-counted : goal.returns-clause-counted
returns-clause-counted g c = λ s serves. c.free.ensures.sum ∙ ap (λ k. sum k.space.free) c.self.view_is ∙ counted g.D.Disk c.args.self.now s serves

pub returns-clause-room : goal.returns-clause-room
returns-clause-room g c = λ s serves none. room_is g.D.Disk c.args.self.now s serves (free_to_come g.D.Disk c.args.self.now) none refl

pub returns-clause-together : goal.returns-clause-together
returns-clause-together g c = λ s serves. together g.D.Disk c.args.self.now s serves c.free.result (c.free.ensures.sum ∙ ap (λ k. sum k.space.free) c.self.view_is)

pub returns-clause-four : goal.returns-clause-four
returns-clause-four g c = λ s serves. serves.four
