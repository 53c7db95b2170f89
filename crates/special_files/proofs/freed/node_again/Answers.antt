use Rattle.std.proofs.Common.{◌≡◌, ◌*◌, ◌/◌, ℕ, ◌<◌, ◌∙◌, sym, ap, subst, arith}
use Rattle.block_tree.specs.declared.node.Node.{Node}
use Rattle.special_files.proofs.Words.{All, HasNode, leaf_pointers}
use Rattle.special_files.proofs.Ways.{has_node, leaves_are_safe, node_is_read, node_is_safe, way_refused}
use Rattle.special_files.proofs.freed.node_again.Goals as goal

same : (n : ℕ) → leaf_pointers.count * n / leaf_pointers.count ≡ n
same n = omega arith

pub returns-in-Ok-clause-node : goal.returns-in-Ok-clause-node
returns-in-Ok-clause-node g c = λ tells is.
    let n = c.args.number in
    let has = subst (λ (m : ℕ). HasNode m c.get.new.self) (same n) (has_node c.get.new.self (leaf_pointers.count * n) c.in-Ok.ensures.to) in
    ap (λ (node : Node). node.leaves) c.node.ensures ∙ node_is_read (g.D.Disk.content c.args.disk.now) c.args.root.now c.get.new.self n has (c.in-Ok.ensures.way tells is)

pub returns-in-Ok-clause-there : goal.returns-in-Ok-clause-there
returns-in-Ok-clause-there g c =
    let n = c.args.number in
    let has = subst (λ (m : ℕ). HasNode m c.get.new.self) (same n) (has_node c.get.new.self (leaf_pointers.count * n) c.in-Ok.ensures.to) in
    node_is_safe (g.D.Disk.blocks c.args.disk.now) c.args.root.now c.get.new.self n has (c.in-Ok.ensures.within, c.in-Ok.ensures.top c.requires.safe.1)

pub returns-in-Ok-clause-leaves : goal.returns-in-Ok-clause-leaves
returns-in-Ok-clause-leaves g c =
    let to = c.in-Ok.ensures.to in
    subst (λ (node : Node). All (λ leaf. leaf < g.D.Disk.blocks c.args.disk.now) node.leaves) (sym c.node.ensures)
    (leaves_are_safe (g.D.Disk.blocks c.args.disk.now) c.args.root.now c.get.new.self (leaf_pointers.count * c.args.number / leaf_pointers.count) (has_node c.get.new.self (leaf_pointers.count * c.args.number) to) (c.in-Ok.ensures.within, c.in-Ok.ensures.top c.requires.safe.1))

pub returns-in-Ok-clause-reads : goal.returns-in-Ok-clause-reads
returns-in-Ok-clause-reads g c = c.in-Ok.ensures.reads 0 (omega arith) (λ d none. absurd (omega (arith, none)))

pub returns-in-Err-clause-reads : goal.returns-in-Err-clause-reads
returns-in-Err-clause-reads g c = c.in-Err.ensures.reads 0 (omega arith) (λ d none. absurd (omega (arith, none)))

pub returns-in-Err-clause-refused : goal.returns-in-Err-clause-refused
returns-in-Err-clause-refused g c kept =
    let reads = returns-in-Err-clause-reads g c in
    way_refused g.D.Disk c.args.at.0 c.args.root.now c.args.disk.now c.get.new.disk kept c.in-Err.trouble reads.same.size reads.content c.in-Err.ensures.refused
