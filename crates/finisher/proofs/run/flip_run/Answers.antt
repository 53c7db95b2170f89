use Rattle.std.proofs.Common.{rules}
use Rattle.cfs_base.proofs.Passed.{is_passed}
use Rattle.finisher.proofs.AtOnce.{load_failed, run_after, run_done, run_failed}
use Rattle.finisher.proofs.run.flip_run.Goals as goal

pub returns-clause-goes : goal.returns-clause-goes
returns-clause-goes g c =
    run_done g.D.Disk c.args.disk.now c.load_map.new.disk c.write_map.new.disk c.args.space.now c.gave.new.self c.flips_done.new.self c.args.first c.change_first-run.result.count c.change_first-run.result.freed c.shadow.result.0 c.load_map.new.map c.change_first-run.new.map c.next_flips.result.now
    c.requires.size c.requires.on_disk c.requires.first c.in_ok-load_map.ensures.reads c.in_ok-load_map.ensures.map c.in_ok-load_map.ensures.spells c.shadow.ensures c.next_flips.ensures.blocks c.change_first-run.ensures.flips c.gave.ensures.given c.flips_done.ensures
    c.in_ok-write_map.ensures c.gave.ensures.counts

pub returns-clause-run : goal.returns-clause-run
returns-clause-run g c =
    run_after g.D.Disk c.args.disk.now c.load_map.new.disk c.write_map.new.disk c.args.space.now c.gave.new.self c.flips_done.new.self c.args.first c.change_first-run.result.count c.change_first-run.result.freed c.shadow.result.0 c.load_map.new.map c.change_first-run.new.map c.next_flips.result.now
    c.requires.size c.requires.on_disk c.requires.first c.in_ok-load_map.ensures.reads c.in_ok-load_map.ensures.map c.in_ok-load_map.ensures.spells c.shadow.ensures c.next_flips.ensures.blocks c.change_first-run.ensures.flips c.gave.ensures.given c.flips_done.ensures
    c.change_first-run.ensures.runs

pub returns-in_err-write_map-clause-goes : goal.returns-in_err-write_map-clause-goes
returns-in_err-write_map-clause-goes g c = rw (is_passed _ _ c.from_residual-in_err-write_map.ensures.1)
    (run_failed g.D.Disk c.args.disk.now c.load_map.new.disk c.write_map.new.disk c.args.space.now c.args.space.now c.args.space.now c.args.first c.change_first-run.result.count c.change_first-run.result.freed c.shadow.result.0 c.load_map.new.map c.change_first-run.new.map c.next_flips.result.now
    c.requires.size c.requires.on_disk c.requires.first c.in_ok-load_map.ensures.reads c.in_ok-load_map.ensures.map c.in_ok-load_map.ensures.spells c.shadow.ensures c.next_flips.ensures.blocks c.change_first-run.ensures.flips
    c.in_err-write_map.field-0.0 c.in_err-write_map.ensures)

pub returns-in_err-load_map-clause-goes : goal.returns-in_err-load_map-clause-goes
returns-in_err-load_map-clause-goes g c = rw (is_passed _ _ c.from_residual.ensures.1) (load_failed g.D.Disk c.args.disk.now c.load_map.new.disk c.args.space.now c.args.first c.args.space.now.left c.in_err-load_map.field-0.0 c.requires.first c.in_err-load_map.ensures.reads c.in_err-load_map.ensures.refused)

pub returns-in_err-write_map-clause-ends : goal.returns-in_err-write_map-clause-ends
returns-in_err-write_map-clause-ends g c = rw (is_passed _ _ c.from_residual-in_err-write_map.ensures.1) (search rules)
