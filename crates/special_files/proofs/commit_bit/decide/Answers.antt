use Rattle.std.proofs.Common.{◌≡◌, ◌+◌, ◌*◌, false, length, Ok, Err, sym, subst, arith}
use Rattle.special_files.proofs.Words.{CommitFails, Trouble, is_damage, makes_then, puid_at, still_top}
use Rattle.special_files.proofs.CommitDone.{bit_leaves, bit_put, bit_sound, leaves_then, makes_more, release_leaves, release_sound}
use Rattle.special_files.proofs.commit.CommitRuns.{fails_after, map_fails}
use Rattle.cfs_base.proofs.Passed.{is_passed}
use Rattle.intentions.specs.Runs.{runs}
use Rattle.special_files.proofs.commit_bit.decide.Goals as goal

pub commit-requires : goal.commit-requires
commit-requires g c = omega (arith, c.requires.on_disk, c.flip_all.ensures.flips.calls.same.size)

pub returns-in_err-flip_all-clause-leaves : goal.returns-in_err-flip_all-clause-leaves
returns-in_err-flip_all-clause-leaves g c = λ graph full word was o s taken created run ready. release_leaves g.D.Disk c.args.disk.now run ready c.flip_all.new.disk _ _ _ c.flip_all.ensures.flips

pub returns-in_err-flip_all-clause-sound : goal.returns-in_err-flip_all-clause-sound
returns-in_err-flip_all-clause-sound g c = λ graph full word was o s taken created run ready. rw (is_passed _ _ c.from_residual.ensures.1)
    (release_sound g.D.Disk c.args.disk.now run ready c.flip_all.new.disk _ _ _ c.in_err-flip_all.ensures.flips)

pub returns-in_err-flip_all-clause-fails : goal.returns-in_err-flip_all-clause-fails
returns-in_err-flip_all-clause-fails g c = λ kept. rw (is_passed _ _ c.from_residual.ensures.1) (c.in_err-flip_all.ensures.flips.fails c.args.at.0 kept)

pub returns-in_err-flip_all-clause-calls : goal.returns-in_err-flip_all-clause-calls
returns-in_err-flip_all-clause-calls g c =
    let n = length c.args.dropped.now in
    makes_more g.D.Disk c.args.disk.now c.flip_all.new.disk (2 * n) n (2 * n + 4) (n + 3) (omega arith) (omega arith) c.flip_all.ensures.flips.calls

pub returns-in_err-flip_all-clause-by_map : goal.returns-in_err-flip_all-clause-by_map
returns-in_err-flip_all-clause-by_map g c =
    let n = runs c.args.dropped.now in
    makes_more g.D.Disk c.args.disk.now c.flip_all.new.disk (2 * n) n (2 * n + 4) (n + 3) (omega arith) (omega arith) c.flip_all.ensures.by_map

pub returns-in-Ok : goal.returns-in-Ok
returns-in-Ok g c =
    let n = length c.args.dropped.now in
    let r = runs c.args.dropped.now in
    record {
      put = λ graph full word was o s taken created run ready. bit_put g.D.Disk c.args.disk.now run ready c.flip_all.new.disk _ _ c.in_ok-flip_all.ensures.flips c.commit.new.disk c.in-Ok.ensures.changes;
      leaves = λ graph full word was o s taken created run ready. leaves_then g.D.Disk graph full (puid_at c.args.at.0 word) o c.args.disk.now c.flip_all.new.disk c.commit.new.disk
          (release_leaves g.D.Disk c.args.disk.now run ready c.flip_all.new.disk _ _ _ c.flip_all.ensures.flips)
          (bit_leaves g.D.Disk c.args.disk.now run ready c.flip_all.new.disk _ _ c.in_ok-flip_all.ensures.flips c.commit.new.disk (Ok tt) c.in-Ok.ensures.changes);
      sound = λ graph full word was o s taken created run ready. tt;
      settled = λ tells. c.in-Ok.ensures.changes.settled (c.in_ok-flip_all.ensures.flips.tells tells);
      fails = λ kept. tt;
      calls = makes_then g.D.Disk c.args.disk.now c.flip_all.new.disk c.commit.new.disk (2 * n) 4 (2 * n + 4) n 3 (n + 3) c.flip_all.ensures.flips.calls c.in-Ok.ensures.changes.calls (omega arith) (omega arith);
      by_map = makes_then g.D.Disk c.args.disk.now c.flip_all.new.disk c.commit.new.disk (2 * r) 4 (2 * r + 4) r 3 (r + 3) c.flip_all.ensures.by_map c.in-Ok.ensures.changes.calls (omega arith) (omega arith);
    }

pub returns-in-Err : goal.returns-in-Err
returns-in-Err g c =
    let n = length c.args.dropped.now in
    let r = runs c.args.dropped.now in
    record {
      put = λ graph full word was o s taken created run ready. tt;
      leaves = λ graph full word was o s taken created run ready. leaves_then g.D.Disk graph full (puid_at c.args.at.0 word) o c.args.disk.now c.flip_all.new.disk c.commit.new.disk
          (release_leaves g.D.Disk c.args.disk.now run ready c.flip_all.new.disk _ _ _ c.flip_all.ensures.flips)
          (bit_leaves g.D.Disk c.args.disk.now run ready c.flip_all.new.disk _ _ c.in_ok-flip_all.ensures.flips c.commit.new.disk (Err c.in-Err.trouble) c.in-Err.ensures.changes);
      sound = λ graph full word was o s taken created run ready. subst (λ (t : Trouble). is_damage t ≡ false) (sym c.after_try.ensures)
          (bit_sound g.D.Disk c.args.disk.now run ready c.flip_all.new.disk _ _ c.in_ok-flip_all.ensures.flips c.commit.new.disk c.in-Err.trouble c.in-Err.ensures.changes.refused);
      settled = λ tells. tt;
      fails = λ kept. subst (λ (t : Trouble). CommitFails g.D.Disk (still_top c.args.at.0) c.args.disk.now c.commit.new.disk kept t) (sym c.after_try.ensures)
          (fails_after g.D.Disk (still_top c.args.at.0) c.args.disk.now c.flip_all.new.disk c.commit.new.disk kept (2 * n) n 4 3 c.flip_all.ensures.flips.calls c.in_ok-flip_all.ensures.flips.tells c.in-Err.ensures.changes.calls _
          (map_fails g.D.Disk (still_top c.args.at.0) c.args.at.0 c.flip_all.new.disk c.commit.new.disk kept (omega (arith, c.requires.on_disk, c.flip_all.ensures.flips.calls.same.size)) c.in-Err.trouble c.in-Err.ensures.changes.refused c.in-Err.ensures.changes.unless_tried));
      calls = makes_then g.D.Disk c.args.disk.now c.flip_all.new.disk c.commit.new.disk (2 * n) 4 (2 * n + 4) n 3 (n + 3) c.flip_all.ensures.flips.calls c.in-Err.ensures.changes.calls (omega arith) (omega arith);
      by_map = makes_then g.D.Disk c.args.disk.now c.flip_all.new.disk c.commit.new.disk (2 * r) 4 (2 * r + 4) r 3 (r + 3) c.flip_all.ensures.by_map c.in-Err.ensures.changes.calls (omega arith) (omega arith);
    }
