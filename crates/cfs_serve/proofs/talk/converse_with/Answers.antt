use Rattle.std.proofs.Common.{◌∷◌, [], refl}
use Rattle.cfs_serve.proofs.Begun.{begun_so}
use Rattle.cfs_serve.proofs.Hearing.{talked}
use Rattle.cfs_serve.proofs.talk.converse_with.Goals as goal

pub converse_by-requires-clause-begun : goal.converse_by-requires-clause-begun
converse_by-requires-clause-begun g c =
    let ready = c.requires.ready in
    begun_so g.A.Server c.args.server (c.args.port ∷ []) 0 ready.runs ready.words ready.called ready.idle ready.swept

pub converse_by-requires-clause-root : goal.converse_by-requires-clause-root
converse_by-requires-clause-root g c = refl

pub converse_by-requires-clause-exchange : goal.converse_by-requires-clause-exchange
converse_by-requires-clause-exchange g c = (refl, refl, refl)

pub returns : goal.returns
returns g c =
    let a = c.args in
    talked g.A.Server a.server a.trail a.port a.lines a.every _ c.converse_by.result.end c.converse_by.result.served c.requires.ready c.converse_by.ensures
