use Rattle.std.proofs.Common.{rules}
use Rattle.block_tree.specs.Reads.{trouble_of}
use Rattle.index_ops.proofs.Indices.{leaf_trouble}
use Rattle.cfs_base.proofs.Passed.{mapped, passed, tells_err}
use Rattle.index_ops.specs.Causes.{IsLeafTrouble}
use Rattle.std.specs.Prelude.{IfErr}
use Rattle.index_ops.proofs.reading.leaf_content.Goals as goal

pub returns-in_err-map_err-clause-refused : goal.returns-in_err-map_err-clause-refused
returns-in_err-map_err-clause-refused g c =
    let refused = IsLeafTrouble g.D.Disk c.args.index.0 c.args.root.now c.args.leaf c.args.disk.now c.read_leaf.new.disk in
    passed (λ r. IfErr r refused) _ _ c.from_residual.ensures.1
    (rw c.in_err-map_err.was at (tells_err _ refused (trouble_of c.args.index.0) c.read_leaf.result _ (mapped (trouble_of c.args.index.0) _ _ c.map_err.ensures.cases (λ e k is. search rules)) c.read_leaf.ensures.refused (λ fault why.
    leaf_trouble g.D.Disk c.args.index.0 c.args.disk.now c.read_leaf.new.disk c.args.root.now c.args.leaf fault why)))
