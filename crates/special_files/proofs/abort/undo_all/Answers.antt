use Rattle.std.proofs.Common.{◌+◌, ◌*◌, ◌++◌, length, arith}
use Rattle.special_files.proofs.Words.{Undo, number_if, option_to_list}
use Rattle.cfs_base.proofs.Passed.{is_passed}
use Rattle.special_files.proofs.commit.CommitRuns.{flips_stop, flips_then}
use Rattle.special_files.proofs.abort.undo_all.Goals as goal

pub flip_made-requires-clause-on_disk : goal.flip_made-requires-clause-on_disk
flip_made-requires-clause-on_disk g c = λ n is. omega (arith, c.requires.shadow_on_disk n is, c.flip_all.ensures.flips.calls.same.size)

pub flip_made-requires-2-clause-on_disk : goal.flip_made-requires-2-clause-on_disk
flip_made-requires-2-clause-on_disk g c = λ n is. omega (arith, c.requires.created_on_disk n is, c.flip_all.ensures.flips.calls.same.size, c.flip_made.ensures.flips.calls.same.size)

pub returns-in_err-flip_all : goal.returns-in_err-flip_all
returns-in_err-flip_all g c =
    let nt = length c.args.taken.now in
    let s = option_to_list (number_if c.args.shadow) in
    let made = option_to_list (number_if c.args.created) in
    record {
      flips = rw (is_passed _ _ c.from_residual.ensures.1)
          (flips_stop g.D.Disk Undo c.args.disk.now c.flip_all.new.disk (2 * nt) nt (2 * nt + (2 + 2)) (nt + (1 + 1)) c.args.taken.now (s ++ made) _ (omega arith) (omega arith) c.in_err-flip_all.ensures.flips);
    }

pub returns-in_err-flip_made : goal.returns-in_err-flip_made
returns-in_err-flip_made g c =
    let nt = length c.args.taken.now in
    let s = option_to_list (number_if c.args.shadow) in
    let made = option_to_list (number_if c.args.created) in
    record {
      flips = rw (is_passed _ _ c.from_residual-in_err-flip_made.ensures.1)
          (flips_then g.D.Disk Undo c.args.taken.now (s ++ made) c.args.disk.now c.flip_all.new.disk c.flip_made.new.disk (2 * nt) nt (2 + 2) (1 + 1) c.in_ok-flip_all.ensures.flips _
          (flips_stop g.D.Disk Undo c.flip_all.new.disk c.flip_made.new.disk 2 1 (2 + 2) (1 + 1) s made _ (omega arith) (omega arith) c.in_err-flip_made.ensures.flips));
    }

pub returns : goal.returns
returns g c =
    let nt = length c.args.taken.now in
    let s = option_to_list (number_if c.args.shadow) in
    let made = option_to_list (number_if c.args.created) in
    record {
      flips = flips_then g.D.Disk Undo c.args.taken.now (s ++ made) c.args.disk.now c.flip_all.new.disk c.flip_made-2.new.disk (2 * nt) nt (2 + 2) (1 + 1) c.in_ok-flip_all.ensures.flips _
          (flips_then g.D.Disk Undo s made c.flip_all.new.disk c.flip_made.new.disk c.flip_made-2.new.disk 2 1 2 1 c.in_ok-flip_made.ensures.flips _ c.flip_made-2.ensures.flips);
    }
