use Rattle.std.proofs.Common.{arith, refl}
use Rattle.cfs_serve.specs.Talking.{called_in}
use Rattle.cfs_serve.proofs.Pacing.{called_at_pace, one_call}
use Rattle.cfs_serve.proofs.talk.Talk.call_at_pace.Goals as goal

pub call-requires-clause-few : goal.call-requires-clause-few
call-requires-clause-few g c =
    let self = c.args.self.now in
    one_call self.pace.every (called_in g.A.Server self) (c.if-is_up.ensures refl).1 (omega (arith, c.requires))

pub returns-then-is_up-clause-paced : goal.returns-then-is_up-clause-paced
returns-then-is_up-clause-paced g c =
    let up = c.if-is_up.ensures refl in
    called_at_pace g.A.Server c.args.self.now c.call.new.self up.1 up.2 c.call.ensures.calls
