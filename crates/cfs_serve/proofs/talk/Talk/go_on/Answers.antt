use Rattle.cfs_serve.proofs.Pacing.{at_pace, pace_then}
use Rattle.cfs_serve.proofs.talk.Talk.go_on.Goals as goal

pub returns : goal.returns
returns g c =
    let v = g.A.Server in
    let old = c.args.self.now in
    let tidied = c.tidy.new.self in
    let called = c.call_at_pace.new.self in
    let new = c.collect_some.new.self in
    pace_then v old called new (pace_then v old tidied called (at_pace v old tidied c.tidy.ensures.made) c.call_at_pace.ensures.paced) (at_pace v called new c.collect_some.ensures)
