use Rattle.normal_files.proofs.Words.{◌≡◌, ℕ, ◌+◌, ◌*◌, Ok, subst, arith, leaf_pointers}
use Rattle.normal_files.specs.Frees.{FreesTo, GivesLeaves}
use Rattle.normal_files.specs.Limits.{free_leaves_calls, free_leaves_tries}
use Rattle.normal_files.proofs.FreedRun.{frees_err, leaves_follow, leaves_on}
use Rattle.cfs_base.proofs.Passed.{is_passed}
use Rattle.cfs_base.proofs.Went.{went_as}
use Rattle.normal_files.proofs.free.free_leaves.Goals as goal
use Rattle.leaf_changes.specs.Tops.{root_top}

pub returns-in_err-free-clause-frees : goal.returns-in_err-free-clause-frees
returns-in_err-free-clause-frees g c = λ root n.
    rw (is_passed c.from_residual.result c.in_err-free.field-0.0 c.from_residual.ensures.1) (let k = c.loop-place.place in
    frees_err g.D.Disk root (GivesLeaves root c.args.node.now.leaves n c.args.from) (leaf_pointers.count * n + c.args.from) n (leaf_pointers.count * n + (k + 1)) n (leaf_pointers.count * n + leaf_pointers.count) n c.args.disk.now c.free.new.disk c.args.space.now c.free.new.space c.in_err-free.field-0.0
    (leaves_on g.D.Disk root c.args.node.now.leaves n c.args.from k (root_top 0 root) c.args.disk.now c.loop-place.disk c.free.new.disk c.args.space.now c.loop-place.space c.free.new.space _ (omega (arith, c.loop-place-test.true)) (omega (arith, c.loop-place.auto.place))
    (c.loop-place.invariant.frees root n) c.in_err-free.ensures.frees (c.in_err-free.ensures.follows 0 root)))

pub returns-in_err-free-clause-follows : goal.returns-in_err-free-clause-follows
returns-in_err-free-clause-follows g c = λ at root.
    rw (is_passed c.from_residual.result c.in_err-free.field-0.0 c.from_residual.ensures.1) (leaves_follow g.D.Disk c.args.from c.loop-place.place (root_top at root) c.args.disk.now c.loop-place.disk c.free.new.disk c.args.space.now c.loop-place.space c.free.new.space _ (omega (arith, c.loop-place.auto.place)) free_leaves_calls free_leaves_tries (omega (arith, c.loop-place-test.true)) (omega (arith, c.loop-place-test.true))
    (c.loop-place.invariant.follows at root) (c.in_err-free.ensures.follows at root))

pub loop-place-preserved : goal.loop-place-preserved
loop-place-preserved g c =
    let k = c.loop-place.place in
    record {
      frees = λ root n. leaves_on g.D.Disk root c.args.node.now.leaves n c.args.from k (root_top 0 root) c.args.disk.now c.loop-place.disk c.free.new.disk c.args.space.now c.loop-place.space c.free.new.space _ (omega (arith, c.loop-place-test.true)) (omega (arith, c.loop-place.auto.place))
          (c.loop-place.invariant.frees root n) c.in_ok-free.ensures.frees (c.in_ok-free.ensures.follows 0 root);
      follows = λ at root. leaves_follow g.D.Disk c.args.from k (root_top at root) c.args.disk.now c.loop-place.disk c.free.new.disk c.args.space.now c.loop-place.space c.free.new.space _ (omega (arith, c.loop-place.auto.place)) _ _ (omega arith) (omega arith)
          (c.loop-place.invariant.follows at root) (c.in_ok-free.ensures.follows at root);
      size = (omega (arith, c.free.ensures.size.0, c.loop-place.invariant.size.0), omega (arith, c.free.ensures.size.1, c.loop-place.invariant.size.1));
    }

pub returns-clause-frees : goal.returns-clause-frees
returns-clause-frees g c = λ root n.
    let is : c.loop-place.place ≡ leaf_pointers.count = omega (arith, c.loop-place.auto.place, c.loop-place.auto.place-end, c.loop-place-test.false) in
    subst (λ (k : ℕ). FreesTo g.D.Disk root (GivesLeaves root c.args.node.now.leaves n c.args.from) (leaf_pointers.count * n + c.args.from) n (leaf_pointers.count * n + k) n c.args.disk.now c.loop-place.disk c.args.space.now c.loop-place.space (Ok tt)) is (c.loop-place.invariant.frees root n)

pub returns-clause-follows : goal.returns-clause-follows
returns-clause-follows g c = λ at root. went_as free_leaves_calls free_leaves_tries free_leaves_calls (λ moves. moves) (λ e why. why) (λ e none. none) (λ x none. none) (c.loop-place.invariant.follows at root) (omega (arith, c.loop-place.auto.place-end, c.requires.from)) (omega (arith, c.loop-place.auto.place-end, c.requires.from)) (omega (arith, c.loop-place.auto.place-end, c.requires.from))
