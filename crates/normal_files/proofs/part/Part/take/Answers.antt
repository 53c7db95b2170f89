use Rattle.normal_files.proofs.Words.{◌∙◌, ℕ, Ok, Err, ap, refl, sym, subst, arith, ◌-◌, ◌*◌, ◌+◌, Trouble, refused_by}
use Rattle.normal_files.specs.Ends.{Halts, is_damaged}
use Rattle.normal_files.specs.Laid.{node_of}
use Rattle.normal_files.specs.Parts.{part_need}
use Rattle.normal_files.specs.Plans.{plan_of}
use Rattle.normal_files.specs.Steps.{WritesBlock}
use Rattle.block_tree.specs.declared.node.Node as nodes
use Rattle.normal_files.proofs.Ending.{gone_within}
use Rattle.normal_files.proofs.TakeOne.{no_node, node_gone, node_leaves, node_stops, node_taken}
use Rattle.cfs_base.proofs.Passed.{is_passed}
use Rattle.normal_files.proofs.part.Part.take.Goals as goal

pub returns-in_err-next-clause-ends : goal.returns-in_err-next-clause-ends
returns-in_err-next-clause-ends g c = rw (is_passed c.from_residual.result c.in_err-next.field-0.0 c.from_residual.ensures.1) (gone_within c.in_err-next.ensures.ends (omega arith) (omega arith) (omega arith))

pub returns-then-not-is_new-clause-takes : goal.returns-then-not-is_new-clause-takes
returns-then-not-is_new-clause-takes g c = λ w may.
    let on = c.in_ok-next.ensures.takes w may in
    (on.0, (on.1, no_node g.D.Disk c.take_leaves.new.disk (node_of c.args.patch.now.root.now c.args.self.now.number) (plan_of c.args.self.now.number c.in_ok-next.next) (sym c.is_new.ensures ∙ c.if-not-is_new.true)))

pub returns-then-not-is_new-clause-ends : goal.returns-then-not-is_new-clause-ends
returns-then-not-is_new-clause-ends g c = gone_within c.in_ok-next.ensures.ends (omega arith) (omega arith) (omega arith)

pub returns-clause-takes : goal.returns-clause-takes
returns-clause-takes g c = λ w may.
    let on = c.in_ok-next.ensures.takes w may in node_taken may on.0 on.1 (sym c.is_new.ensures ∙ c.if-not-is_new.false) (subst (λ (b : ℕ). WritesBlock g.D.Disk 1 b c.encode.result c.take_leaves.new.disk c.write_block.new.disk (Ok tt)) c.block.ensures c.in_ok-write_block.ensures.writes) refl (ap (λ (n : nodes.Node). n.leaves) (sym c.way_node.ensures.node) ∙ c.encode.ensures.pointers)

pub returns-clause-ends : goal.returns-clause-ends
returns-clause-ends g c = node_gone (node_of c.args.patch.now.root.now c.args.self.now.number) c.in_ok-next.next (sym c.is_new.ensures ∙ c.if-not-is_new.false) c.in_ok-next.ensures.ends c.in_ok-write_block.ensures.writes

pub returns-in_err-write_block-clause-takes : goal.returns-in_err-write_block-clause-takes
returns-in_err-write_block-clause-takes g c = λ w may.
    let on = c.in_ok-next.ensures.takes w may in rw (is_passed c.from_residual-in_err-write_block.result (refused_by c.in_err-write_block.field-0.0) c.from_residual-in_err-write_block.ensures.1) (
      node_leaves may on.0 on.1 (sym c.is_new.ensures ∙ c.if-not-is_new.false) (subst (λ (b : ℕ). WritesBlock g.D.Disk 1 b c.encode.result c.take_leaves.new.disk c.write_block.new.disk (Err c.in_err-write_block.field-0.0)) c.block.ensures c.in_err-write_block.ensures.writes),
      ap (λ (t : Trouble). is_damaged (refused_by t)) c.in_err-write_block.ensures.failed,
    )

pub returns-in_err-write_block-clause-ends : goal.returns-in_err-write_block-clause-ends
returns-in_err-write_block-clause-ends g c = rw (is_passed c.from_residual-in_err-write_block.result (refused_by c.in_err-write_block.field-0.0) c.from_residual-in_err-write_block.ensures.1)
    (subst (λ (t : Trouble). Halts g.D.Disk (5 * (c.args.self.now.leaves.to - c.args.self.now.leaves.from) + 1) (3 * (c.args.self.now.leaves.to - c.args.self.now.leaves.from) + 1) (part_need c.args.patch.now.root.now c.args.self.now) c.args.disk.now c.write_block.new.disk c.args.space.now c.take_leaves.new.space (refused_by t)) (sym c.in_err-write_block.ensures.failed)
    (rw c.in_err-write_block.ensures.failed at (node_stops (node_of c.args.patch.now.root.now c.args.self.now.number) c.in_ok-next.next (sym c.is_new.ensures ∙ c.if-not-is_new.false) c.in_ok-next.ensures.ends c.in_err-write_block.field-0.0 c.in_err-write_block.ensures.failed c.in_err-write_block.ensures.writes)))
