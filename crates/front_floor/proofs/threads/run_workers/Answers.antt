use Rattle.std.proofs.Common.{rules, ◌≡◌, length, ap}
use Rattle.front_floor.specs.Knows.{Dealt}
use Rattle.front_floor.proofs.Running.{ran_each}
use Rattle.front_floor.proofs.threads.run_workers.Goals as goal

pub returns-clause-ran : goal.returns-clause-ran
returns-clause-ran g c =
    let lent = c.handles.inside.handles in
    let long : lent.len ≡ length lent.items = (search rules) in
    let slice : c.as_mut_slice.result.now ≡ lent.items = (search rules) in
    let same : lent.items ≡ c.args.handles.now.handles = ap (λ (d : Dealt g.row.M-Entry.Denot). d.handles) c.handles.view_is in
    ran_each lent.len lent.items c.as_mut_slice.result.now c.args.handles.now.handles c.run_all.new.handles long slice same c.run_all.ensures.count c.run_all.ensures.ran
