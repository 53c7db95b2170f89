use Rattle.normal_files.proofs.Words.{◌+◌, arith, node_pointers, leaf_limit}
use Rattle.normal_files.specs.Limits.{free_calls, free_tries, free_leaves_calls, free_leaves_tries, free_nodes_calls, free_nodes_tries, free_past_calls, free_past_tries}
use Rattle.normal_files.proofs.Freed.{follows_on}
use Rattle.normal_files.proofs.FreedRun.{end_err, end_first, end_node, end_rest}
use Rattle.cfs_base.proofs.Went.{went_as}
use Rattle.cfs_base.proofs.Passed.{is_passed}
use Rattle.normal_files.proofs.free.free_past.Goals as goal
use Rattle.std.proofs.Common.{ap}
use Rattle.block_tree.specs.declared.node.Node as nodes
use Rattle.leaf_changes.specs.Tops.{root_top}

pub returns-in_err-free_leaves-clause-frees : goal.returns-in_err-free_leaves-clause-frees
returns-in_err-free_leaves-clause-frees g c =
    rw (is_passed c.from_residual.result c.in_err-free_leaves.field-0.0 c.from_residual.ensures.1) (end_err g.D.Disk c.args.root.now c.args.size c.args.end.now c.args.disk.now c.free_leaves.new.disk c.args.space.now c.free_leaves.new.space _ _ c.in_err-free_leaves.field-0.0
    (end_first g.D.Disk c.args.root.now c.args.size c.args.end.now c.args.disk.now c.free_leaves.new.disk c.args.space.now c.free_leaves.new.space c.last_node-last.result c.cut_place.result c.last_node-last.ensures.node c.cut_place.ensures.place (ap (λ (n : nodes.Node). n.leaves) c.way_node.ensures.node) _ (c.in_err-free_leaves.ensures.frees c.args.root.now c.last_node-last.result)))

pub returns-in_err-free-clause-frees : goal.returns-in_err-free-clause-frees
returns-in_err-free-clause-frees g c =
    rw (is_passed c.from_residual-in_err-free.result c.in_err-free.field-0.0 c.from_residual-in_err-free.ensures.1) (end_err g.D.Disk c.args.root.now c.args.size c.args.end.now c.args.disk.now c.free.new.disk c.args.space.now c.free.new.space _ _ c.in_err-free.field-0.0
    (end_node g.D.Disk c.args.root.now c.args.size c.args.end.now c.args.disk.now c.free_leaves.new.disk c.args.space.now c.free_leaves.new.space (root_top c.args.at.0 c.args.root.now) c.last_node-last.result c.gone_block.result c.free.new.disk c.free.new.space _ c.last_node-last.ensures.node c.gone_block.ensures
    (end_first g.D.Disk c.args.root.now c.args.size c.args.end.now c.args.disk.now c.free_leaves.new.disk c.args.space.now c.free_leaves.new.space c.last_node-last.result c.cut_place.result c.last_node-last.ensures.node c.cut_place.ensures.place (ap (λ (n : nodes.Node). n.leaves) c.way_node.ensures.node) _ (c.in_ok-free_leaves.ensures.frees c.args.root.now c.last_node-last.result))
    c.in_err-free.ensures.frees (c.in_err-free.ensures.follows c.args.at.0 c.args.root.now)))

pub returns-clause-frees : goal.returns-clause-frees
returns-clause-frees g c =
    end_rest g.D.Disk c.args.root.now c.args.size c.args.end.now c.args.disk.now c.free.new.disk c.args.space.now c.free.new.space c.last_node-last.result leaf_limit node_pointers.count c.free_nodes.new.disk c.free_nodes.new.space c.free_nodes.result c.last_node-last.ensures.node
    (end_node g.D.Disk c.args.root.now c.args.size c.args.end.now c.args.disk.now c.free_leaves.new.disk c.args.space.now c.free_leaves.new.space (root_top c.args.at.0 c.args.root.now) c.last_node-last.result c.gone_block.result c.free.new.disk c.free.new.space _ c.last_node-last.ensures.node c.gone_block.ensures
    (end_first g.D.Disk c.args.root.now c.args.size c.args.end.now c.args.disk.now c.free_leaves.new.disk c.args.space.now c.free_leaves.new.space c.last_node-last.result c.cut_place.result c.last_node-last.ensures.node c.cut_place.ensures.place (ap (λ (n : nodes.Node). n.leaves) c.way_node.ensures.node) _ (c.in_ok-free_leaves.ensures.frees c.args.root.now c.last_node-last.result))
    c.in_ok-free.ensures.frees (c.in_ok-free.ensures.follows c.args.at.0 c.args.root.now))
    c.free_nodes.ensures.frees

pub returns-in_err-free-clause-follows : goal.returns-in_err-free-clause-follows
returns-in_err-free-clause-follows g c = rw (is_passed c.from_residual-in_err-free.result c.in_err-free.field-0.0 c.from_residual-in_err-free.ensures.1) (follows_on g.D.Disk (root_top c.args.at.0 c.args.root.now) free_leaves_calls free_leaves_tries free_calls free_tries free_past_calls free_past_tries c.args.disk.now c.free_leaves.new.disk c.free.new.disk c.args.space.now c.free_leaves.new.space c.free.new.space _ (omega arith) (omega arith) (c.in_ok-free_leaves.ensures.follows c.args.at.0 c.args.root.now) (c.in_err-free.ensures.follows c.args.at.0 c.args.root.now))

pub returns-in_err-free_leaves-clause-follows : goal.returns-in_err-free_leaves-clause-follows
returns-in_err-free_leaves-clause-follows g c = rw (is_passed c.from_residual.result c.in_err-free_leaves.field-0.0 c.from_residual.ensures.1) (went_as free_past_calls free_past_tries free_past_calls (λ moves. moves) (λ e why. why) (λ e none. none) (λ x none. none) (c.in_err-free_leaves.ensures.follows c.args.at.0 c.args.root.now) (omega arith) (omega arith) (omega arith))

pub returns-clause-follows : goal.returns-clause-follows
returns-clause-follows g c =
    follows_on g.D.Disk (root_top c.args.at.0 c.args.root.now) (free_leaves_calls + free_calls) (free_leaves_tries + free_tries) free_nodes_calls free_nodes_tries free_past_calls free_past_tries c.args.disk.now c.free.new.disk c.free_nodes.new.disk c.args.space.now c.free.new.space c.free_nodes.new.space c.free_nodes.result (omega arith) (omega arith)
    (follows_on g.D.Disk (root_top c.args.at.0 c.args.root.now) free_leaves_calls free_leaves_tries free_calls free_tries (free_leaves_calls + free_calls) (free_leaves_tries + free_tries) c.args.disk.now c.free_leaves.new.disk c.free.new.disk c.args.space.now c.free_leaves.new.space c.free.new.space _ (omega arith) (omega arith) (c.in_ok-free_leaves.ensures.follows c.args.at.0 c.args.root.now) (c.in_ok-free.ensures.follows c.args.at.0 c.args.root.now))
    c.free_nodes.ensures.follows
