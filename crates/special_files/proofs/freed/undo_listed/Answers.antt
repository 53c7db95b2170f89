use Rattle.std.proofs.Common.{◌≡◌, ◌*◌, ◌<◌, if◌then◌else◌, Bool, true, false, length, get_or, Err, refl, sym, ◌∙◌, ap, subst, arith}
use Rattle.special_files.proofs.Words.{All-get_or, Flips, MapEntry, Trouble, Undo, then_tried, trouble_after_try}
use Rattle.cfs_base.specs.declared.refusal.Trouble.TheVariants as trouble
use Rattle.special_files.proofs.commit.CommitRuns.{flips_fail, flips_on, one_done, one_failed}
use Rattle.special_files.proofs.freed.undo_listed.Goals as goal

tried_once : (t : Trouble) → trouble_after_try (trouble_after_try t) ≡ trouble_after_try t
tried_once (trouble.Disk was) = refl
tried_once (trouble.Damaged damage) = refl

since_once : (b : Bool) (t : Trouble) → trouble_after_try (if b then trouble_after_try t else t) ≡ trouble_after_try t
since_once true t = tried_once t
since_once false t = refl

pub returns-in-Err-clause-flips : goal.returns-in-Err-clause-flips
returns-in-Err-clause-flips g c =
    let i = c.loop-block.block-index in
    let below : get_or c.args.blocks.now i 0 < g.D.Disk.blocks c.loop-block.disk = omega (arith, All-get_or (λ n. n < g.D.Disk.blocks c.args.disk.now) c.args.blocks.now i 0 c.loop-block-test.true c.requires, c.loop-block.invariant.so_far.calls.same.size) in
    subst (λ (t : Trouble). Flips g.D.Disk (2 * length c.args.blocks.now) (length c.args.blocks.now) Undo c.args.blocks.now c.args.disk.now c.change_entry.new.disk (Err t)) (sym (ap trouble_after_try c.since.ensures ∙ since_once c.loop-block.tried c.in-Err.trouble))
    (flips_fail g.D.Disk Undo c.args.blocks.now i c.args.disk.now c.loop-block.disk c.change_entry.new.disk c.loop-block-test.true c.loop-block.invariant.so_far (trouble_after_try c.in-Err.trouble)
    (one_failed g.D.Disk (get_or c.args.blocks.now i 0) Undo c.loop-block.disk c.change_entry.new.disk MapEntry below c.in-Err.trouble c.in-Err.ensures.changes))

pub loop-block-preserved : goal.loop-block-preserved
loop-block-preserved g c =
    let i = c.loop-block.block-index in
    record {
      so_far = flips_on g.D.Disk Undo c.args.blocks.now i c.args.disk.now c.loop-block.disk c.change_entry.new.disk c.loop-block-test.true c.loop-block.invariant.so_far
          (one_done g.D.Disk (get_or c.args.blocks.now i 0) Undo c.loop-block.disk c.change_entry.new.disk _ c.in-Ok.ensures.changes);
      told = λ n was. c.in-Ok.ensures.changes.told n (c.loop-block.invariant.told n was);
      later = λ same. then_tried g.D.Disk c.args.disk.now c.loop-block.disk c.change_entry.new.disk (2 * i) i c.loop-block.invariant.so_far.calls c.in-Ok.ensures.changes.tried;
      first = λ clash. cc;
      start = λ zero. absurd (omega (arith, zero));
    }
