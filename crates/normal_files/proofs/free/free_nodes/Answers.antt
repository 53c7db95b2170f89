use Rattle.normal_files.proofs.Words.{◌≡◌, ℕ, ◌+◌, ◌*◌, Ok, subst, arith, leaf_pointers, node_pointers, leaf_limit}
use Rattle.normal_files.specs.Frees.{FreesTo, GivesNodes}
use Rattle.normal_files.specs.Limits.{free_node_calls, free_node_tries, free_nodes_calls, free_nodes_tries}
use Rattle.normal_files.proofs.Freed.{follows_on}
use Rattle.normal_files.proofs.FreedRun.{frees_err, nodes_on}
use Rattle.cfs_base.proofs.Passed.{is_passed}
use Rattle.normal_files.proofs.free.free_nodes.Goals as goal
use Rattle.leaf_changes.specs.Tops.{root_top}

pub returns-in_err-free_node-clause-frees : goal.returns-in_err-free_node-clause-frees
returns-in_err-free_node-clause-frees g c =
    rw (is_passed c.from_residual.result c.in_err-free_node.field-0.0 c.from_residual.ensures.1) (let n = c.loop-number.number in
    let from = c.args.from in
    frees_err g.D.Disk c.args.root.now (GivesNodes from) (leaf_pointers.count * from) from (leaf_pointers.count * n + leaf_pointers.count) (n + 1) leaf_limit node_pointers.count c.args.disk.now c.free_node.new.disk c.args.space.now c.free_node.new.space c.in_err-free_node.field-0.0
    (nodes_on g.D.Disk c.args.root.now from n c.args.disk.now c.loop-number.disk c.free_node.new.disk c.args.space.now c.loop-number.space c.free_node.new.space _ (omega (arith, c.loop-number.auto.number)) (omega (arith, c.loop-number-test.true)) c.loop-number.invariant.frees c.in_err-free_node.ensures.frees))

pub returns-in_err-free_node-clause-follows : goal.returns-in_err-free_node-clause-follows
returns-in_err-free_node-clause-follows g c =
    rw (is_passed c.from_residual.result c.in_err-free_node.field-0.0 c.from_residual.ensures.1) (let n = c.loop-number.number in
    let from = c.args.from in
    follows_on g.D.Disk (root_top c.args.at.0 c.args.root.now) _ _ free_node_calls free_node_tries free_nodes_calls free_nodes_tries c.args.disk.now c.loop-number.disk c.free_node.new.disk c.args.space.now c.loop-number.space c.free_node.new.space _ (omega (arith, c.loop-number-test.true)) (omega (arith, c.loop-number-test.true)) c.loop-number.invariant.follows c.in_err-free_node.ensures.follows)

pub loop-number-preserved : goal.loop-number-preserved
loop-number-preserved g c =
    let n = c.loop-number.number in
    let from = c.args.from in
    let up : leaf_pointers.count * n + leaf_pointers.count ≡ leaf_pointers.count * (n + 1) = omega arith in
    record {
      frees = subst (λ (l : ℕ). FreesTo g.D.Disk c.args.root.now (GivesNodes from) (leaf_pointers.count * from) from l (n + 1) c.args.disk.now c.free_node.new.disk c.args.space.now c.free_node.new.space (Ok tt)) up
          (nodes_on g.D.Disk c.args.root.now from n c.args.disk.now c.loop-number.disk c.free_node.new.disk c.args.space.now c.loop-number.space c.free_node.new.space _ (omega (arith, c.loop-number.auto.number)) (omega (arith, c.loop-number-test.true)) c.loop-number.invariant.frees c.in_ok-free_node.ensures.frees);
      follows = follows_on g.D.Disk (root_top c.args.at.0 c.args.root.now) _ _ free_node_calls free_node_tries _ _ c.args.disk.now c.loop-number.disk c.free_node.new.disk c.args.space.now c.loop-number.space c.free_node.new.space _ (omega (arith, c.loop-number.auto.number)) (omega (arith, c.loop-number.auto.number)) c.loop-number.invariant.follows c.in_ok-free_node.ensures.follows;
    }

pub returns-clause-frees : goal.returns-clause-frees
returns-clause-frees g c =
    let from = c.args.from in
    let is : c.loop-number.number ≡ node_pointers.count = omega (arith, c.loop-number.auto.number, c.loop-number.auto.number-end, c.loop-number-test.false) in
    subst (λ (k : ℕ). FreesTo g.D.Disk c.args.root.now (GivesNodes from) (leaf_pointers.count * from) from (leaf_pointers.count * k) k c.args.disk.now c.loop-number.disk c.args.space.now c.loop-number.space (Ok tt)) is c.loop-number.invariant.frees
