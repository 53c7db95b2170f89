use Rattle.std.proofs.Common.{arith, refl}
use Rattle.cfs_serve.specs.Talking.{called_in}
use Rattle.cfs_serve.proofs.Pacing.{collects_last, one_call, same_product}
use Rattle.cfs_serve.proofs.talk.Talk.collect_last.Goals as goal

pub call-requires-clause-few : goal.call-requires-clause-few
call-requires-clause-few g c =
    let v = g.A.Server in
    let old = c.args.self.now in
    let now = c.finish.new.self in
    let made = c.finish.ensures.made in
    one_call now.pace.every (called_in v now) (c.if-collects_last.ensures.some refl).1
    (omega (arith, same_product (called_in v now) (called_in v old) now.pace.every old.pace.every made.called made.beside.every, c.requires))

pub returns-then-collects_last : goal.returns-then-collects_last
returns-then-collects_last g c =
    let last = c.finish-then-collects_last in
    collects_last g.A.Server c.args.self.now c.finish.new.self c.call.new.self last.new.self c.finish.ensures.made c.call.ensures.calls last.ensures.made (c.if-collects_last.ensures.some refl).1 last.ensures.done last.ensures.begun
