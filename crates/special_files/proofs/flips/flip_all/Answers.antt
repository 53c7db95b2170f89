use Rattle.std.proofs.Common.{◌≡◌, ℕ, ◌*◌, List, length, Ok, subst, ap, arith, length-drop}
use Rattle.std.proofs.lemmas.List.{drop_all, take_all, take_rest}
use Rattle.intentions.specs.Runs.{runs}
use Rattle.cfs_base.proofs.Passed.{is_passed}
use Rattle.special_files.proofs.commit.CommitRuns.{by_length, no_flips, run_fail, run_on}
use Rattle.special_files.proofs.Words.{Flips}
use Rattle.special_files.proofs.flips.flip_all.Goals as goal

pub loop-done-init : goal.loop-done-init
loop-done-init g c = record { within = omega arith; so_far = (0, omega arith, no_flips g.D.Disk c.args.how c.args.disk.now 0 0) }

pub loop-done-preserved : goal.loop-done-preserved
loop-done-preserved g c =
    let ns = c.args.blocks.now in
    let was = c.loop-done.invariant in
    let made = rw take_rest at c.in_ok-done.ensures in
    record {
      within = omega (arith, made.0, length-drop c.loop-done.done ns, was.within);
      so_far = run_on g.D.Disk c.args.how ns c.loop-done.done was.so_far.0 c.args.disk.now c.loop-done.disk c.flip_run.new.disk was.so_far.2 was.so_far.1 c.in_ok-done.field-0 made;
    }

pub returns-in_err-done : goal.returns-in_err-done
returns-in_err-done g c = rw (is_passed _ _ c.from_residual.ensures.1)
    (let ns = c.args.blocks.now in
    let was = c.loop-done.invariant in
    let all = run_fail g.D.Disk c.args.how ns c.loop-done.done was.so_far.0 c.args.disk.now c.loop-done.disk c.flip_run.new.disk was.so_far.2 was.so_far.1 c.loop-done-test.true c.in_err-done.field-0.0 (rw take_rest at c.in_err-done.ensures) in
    record { flips = by_length g.D.Disk c.args.how ns ns c.args.disk.now c.flip_run.new.disk _ all; by_map = all.calls })

pub returns : goal.returns
returns g c =
    let ns = c.args.blocks.now in
    let was = c.loop-done.invariant in
    let end : length ns ≡ c.loop-done.done = omega (arith, was.within, c.loop-done-test.false) in
    let count : was.so_far.0 ≡ runs ns = omega (arith, was.so_far.1, ap runs (drop_all c.loop-done.done ns (omega (arith, end)))) in
    let all = subst (λ (k : ℕ). Flips g.D.Disk (2 * k) k c.args.how ns c.args.disk.now c.loop-done.disk (Ok tt)) count
    (subst (λ (l : List ℕ). Flips g.D.Disk (2 * was.so_far.0) was.so_far.0 c.args.how l c.args.disk.now c.loop-done.disk (Ok tt)) (take_all c.loop-done.done ns (omega (arith, end))) was.so_far.2) in
    record { flips = by_length g.D.Disk c.args.how ns ns c.args.disk.now c.loop-done.disk (Ok tt) all; by_map = all.calls }
