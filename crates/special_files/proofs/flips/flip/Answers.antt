use Rattle.std.proofs.Common.{[], ◌∷◌}
use Rattle.cfs_base.proofs.Passed.{mapped_err, mapped_ok, passed}
use Rattle.special_files.proofs.Words.{Flips, MapEntry, trouble_after_try}
use Rattle.special_files.proofs.commit.CommitRuns.{one_done, one_failed}
use Rattle.special_files.proofs.flips.flip.Goals as goal

pub returns : goal.returns
returns g c = record { flips = one_done g.D.Disk c.args.block.0 c.args.how c.args.disk.now c.change_entry.new.disk _ (rw (mapped_ok _ _ _ c.in_ok-map_err.ensures.cases) at c.change_entry.ensures.changes) }

pub returns-in_err-map_err : goal.returns-in_err-map_err
returns-in_err-map_err g c =
    let was = mapped_err trouble_after_try _ _ c.in_err-map_err.ensures.cases in
    record {
      flips = passed (Flips g.D.Disk 2 1 c.args.how (c.args.block.0 ∷ []) c.args.disk.now c.change_entry.new.disk) _ _ (rw was.2 at c.from_residual.ensures.1)
          (one_failed g.D.Disk c.args.block.0 c.args.how c.args.disk.now c.change_entry.new.disk MapEntry c.requires.on_disk was.0 (rw was.1 at c.change_entry.ensures.changes));
    }
