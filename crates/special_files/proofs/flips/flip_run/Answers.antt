use Rattle.std.proofs.Common.{◌<◌, get_or}
use Rattle.intentions.proofs.Runs.{first_is}
use Rattle.cfs_base.proofs.Passed.{mapped_err, mapped_ok, passed}
use Rattle.special_files.proofs.commit.CommitRuns.{run_failed, run_unread, run_written}
use Rattle.special_files.proofs.Words.{All-get_or, FlipsRun, trouble_after_try}
use Rattle.special_files.proofs.flips.flip_run.Goals as goal

pub returns-in_err-map_err : goal.returns-in_err-map_err
returns-in_err-map_err g c =
    let ns = c.args.blocks.now in
    let below = All-get_or (λ n. n < g.D.Disk.blocks c.args.disk.now) ns 0 0 c.requires.some c.requires.on_disk in
    let was = mapped_err trouble_after_try _ _ c.in_err-map_err.ensures.cases in
    passed (FlipsRun g.D.Disk c.args.how ns c.args.disk.now c.load_map.new.disk) _ _ (rw was.2 at c.from_residual.ensures.1)
    (run_unread g.D.Disk c.args.how c.args.disk.now c.load_map.new.disk (get_or ns 0 0) ns (first_is ns c.requires.some) c.load_map.ensures.reads below was.0 (rw was.1 at c.load_map.ensures.refused))

pub returns : goal.returns
returns g c =
    let ns = c.args.blocks.now in
    let load = rw (mapped_ok _ _ _ c.in_ok-map_err.ensures.cases) at c.load_map.ensures in
    run_written g.D.Disk c.args.how c.args.disk.now c.load_map.new.disk (get_or ns 0 0) ns (first_is ns c.requires.some) load.reads
    c.write_map.new.disk c.change_first-run.result.count c.change_first-run.result.freed c.load_map.new.map c.change_first-run.new.map load.map load.spells c.change_first-run.ensures.flips c.change_first-run.ensures.runs c.in_ok-write_map.ensures

pub returns-in_err-write_map : goal.returns-in_err-write_map
returns-in_err-write_map g c =
    let ns = c.args.blocks.now in
    let load = rw (mapped_ok _ _ _ c.in_ok-map_err.ensures.cases) at c.load_map.ensures in
    passed (FlipsRun g.D.Disk c.args.how ns c.args.disk.now c.write_map.new.disk) _ _ c.from_residual-in_err-write_map.ensures.1
    (run_failed g.D.Disk c.args.how c.args.disk.now c.load_map.new.disk (get_or ns 0 0) ns (first_is ns c.requires.some) load.reads
    c.write_map.new.disk c.change_first-run.result.count c.change_first-run.result.freed c.load_map.new.map c.change_first-run.new.map load.map load.spells c.change_first-run.ensures.flips c.change_first-run.ensures.runs c.in_err-write_map.field-0.0 c.in_err-write_map.ensures)
