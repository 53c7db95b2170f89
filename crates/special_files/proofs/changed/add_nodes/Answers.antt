use Rattle.std.proofs.Common.{ℕ, ◌∙◌, ap, subst, arith, inl, inr}
use Rattle.special_files.proofs.Words.{Image, leaves_at, tells_on, nodes_top, node_blocks}
use Rattle.special_files.specs.Changed.{Adds}
use Rattle.special_files.proofs.changed.ChangedRun.{node_adds, node_told}
use Rattle.special_files.proofs.Refusals.{node_trouble, trouble_after_reads}
use Rattle.special_files.proofs.changed.add_nodes.Goals as goal

pub returns-in-Err-read_node-clause-refused : goal.returns-in-Err-read_node-clause-refused
returns-in-Err-read_node-clause-refused g c = λ kept.
    trouble_after_reads g.D.Disk (nodes_top c.args.at.0 c.args.own c.args.new) c.args.disk.now c.read_node.new.disk c.read_node-2.new.disk kept 1 c.in-Err-read_node.trouble c.in-Ok.ensures.reads (node_trouble g.D.Disk c.args.new (nodes_top c.args.at.0 c.args.own c.args.new) c.read_node.new.disk c.read_node-2.new.disk kept c.in-Err-read_node.trouble (λ size past. inr past) c.in-Err-read_node.ensures.reads c.in-Err-read_node.ensures.refused)

pub returns-in-Err-clause-refused : goal.returns-in-Err-clause-refused
returns-in-Err-clause-refused g c = λ kept. node_trouble g.D.Disk c.args.own (nodes_top c.args.at.0 c.args.own c.args.new) c.args.disk.now c.read_node.new.disk kept c.in-Err.trouble (λ size past. inl past) c.in-Err.ensures.reads c.in-Err.ensures.refused

pub returns-clause-taken : goal.returns-clause-taken
returns-clause-taken g c = λ tells.
    let reads = c.in-Ok.ensures.reads in
    let node = c.in-Ok-read_node.ensures.node (tells_on g.D.Disk c.args.disk.now c.read_node.new.disk c.read_node.new.disk 1 reads tells) ∙ ap (λ (i : Image). leaves_at i c.args.new) reads.content in
    node_told (g.D.Disk.content c.args.disk.now) c.args.new c.args.own c.in-Ok-read_node.node.leaves c.in-Ok.node.leaves c.args.taken.now c.add_node.new.list c.add_node.ensures node (c.in-Ok.ensures.node tells)

pub returns-clause-dropped : goal.returns-clause-dropped
returns-clause-dropped g c = λ tells.
    let reads = c.in-Ok.ensures.reads in
    let node = c.in-Ok-read_node.ensures.node (tells_on g.D.Disk c.args.disk.now c.read_node.new.disk c.read_node.new.disk 1 reads tells) ∙ ap (λ (i : Image). leaves_at i c.args.new) reads.content in
    node_told (g.D.Disk.content c.args.disk.now) c.args.own c.args.new c.in-Ok.node.leaves c.in-Ok-read_node.node.leaves c.args.dropped.now c.add_node-2.new.list c.add_node-2.ensures (c.in-Ok.ensures.node tells) node

pub returns-clause-takes : goal.returns-clause-takes
returns-clause-takes g c =
    let size = c.in-Ok.ensures.reads.same.size in
    subst (λ (n : ℕ). Adds n node_blocks c.args.taken.now c.add_node.new.list) size
    (node_adds (g.D.Disk.blocks c.read_node.new.disk) c.args.new c.args.own c.in-Ok-read_node.node.leaves c.in-Ok.node.leaves c.args.taken.now c.add_node.new.list c.add_node.ensures (omega (arith, c.requires.some, size)) c.in-Ok-read_node.ensures.there c.in-Ok-read_node.ensures.leaves)

pub returns-clause-drops : goal.returns-clause-drops
returns-clause-drops g c =
    node_adds (g.D.Disk.blocks c.args.disk.now) c.args.own c.args.new c.in-Ok.node.leaves c.in-Ok-read_node.node.leaves c.args.dropped.now c.add_node-2.new.list c.add_node-2.ensures c.requires.some c.in-Ok.ensures.there c.in-Ok.ensures.leaves
