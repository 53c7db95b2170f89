use Rattle.pair_disk.proofs.Calls.{written_left}
use Rattle.pair_disk.proofs.Counts.{of_err, stops_write}
use Rattle.pair_disk.proofs.pair.PairDiskDisk.write.Goals as goal

pub returns-in_err-replace-clause-images : goal.returns-in_err-replace-clause-images
returns-in_err-replace-clause-images g c =
    let old = c.args.self.now.lower in
    let settled = c.settle.new.self.lower in
    let read = c.shown_half.new.lower in
    let run = written_left g.T.TornDisk g.met.T.TornDisk.may_stay c.args.at.0 c.args.from.now old settled read c.replace.new.lower c.settle.ensures.stays c.shown_half.ensures.stays c.replace.ensures.changes in
    record { later = run.later; since = run.since; now = run.now }

pub returns-clause-images : goal.returns-clause-images
returns-clause-images g c =
    let old = c.args.self.now.lower in
    let settled = c.settle.new.self.lower in
    let read = c.shown_half.new.lower in
    let run = written_left g.T.TornDisk g.met.T.TornDisk.may_stay c.args.at.0 c.args.from.now old settled read c.replace.new.lower c.settle.ensures.stays c.shown_half.ensures.stays c.replace.ensures.changes in
    record { later = run.later; since = run.since; now = run.now }

pub returns-in_err-replace-clause-stopped : goal.returns-in_err-replace-clause-stopped
returns-in_err-replace-clause-stopped g c =
    let old = c.args.self.now in
    of_err c.from_residual-in_err-replace.result (stops_write g.T.TornDisk old.lower c.shown_half.new.lower c.replace.new.lower c.settle.new.self.lower old.unsure
    c.in_ok-settle.ensures.made c.shown_half.ensures.made c.in_err-replace.ensures.stopped)
