use Rattle.std.proofs.Common.{rules}
use Rattle.normal_files.proofs.Words.{List, patched, ◌≡◌, ◌∙◌, ℕ, Bool, true, ap, refl, sym, subst, arith, Ok, Err, Result, BlockNo, Ghosts, Kept, Refused, Trouble, after_try, refused_by}
use Rattle.normal_files.specs.Ends.{Halts, is_damaged}
use Rattle.normal_files.specs.Takes.{Claims, GetsNode, Had, leaf_takes}
use Rattle.normal_files.proofs.Ending.{leaf_gone, leaf_halts, node_halts}
use Rattle.normal_files.proofs.TakeLeaf.{leaf_err, leaf_taken, node_err, write_leaves}
use Rattle.cfs_base.proofs.Passed.{fine, handed, is_passed, mapped}
use Rattle.normal_files.specs.Steps.{WritesBlock}
use Rattle.normal_files.proofs.absent.Patch.take_leaf.Goals as goal
use Rattle.normal_files.proofs.absent.Patch.take_leaf.Goals.{After-from_residual-in_err-node, After-write_block}

pub returns-in_err-leaf_block-clause-takes : goal.returns-in_err-leaf_block-clause-takes
returns-in_err-leaf_block-clause-takes g c = λ w may. rw (is_passed c.from_residual.result c.in_err-leaf_block.field-0.0 c.from_residual.ensures.1) (leaf_err may c.requires.below c.requires.some (omega arith) c.in_err-leaf_block.field-0.0 c.in_err-leaf_block.ensures.enters)

-- why the node has no block
why : (g : _) (c : After-from_residual-in_err-node g) → (e : Refused) × (c.take_node.result ≡ Err e) × (c.from_residual-in_err-node.result ≡ Err (after_try e))
why g c =
    let no = handed after_try c.take_node.result _ _ (mapped after_try _ _ c.map_err.ensures.cases (λ e k is. search rules)) c.in_err-node.was in
    (no.0, no.1, is_passed c.from_residual-in_err-node.result c.in_err-node.field-0.0 c.from_residual-in_err-node.ensures.1 ∙ ap Err no.2)

pub returns-in_err-node-clause-takes : goal.returns-in_err-node-clause-takes
returns-in_err-node-clause-takes g c = λ w may.
    let no = why g c in rw no.2
    (node_err may c.requires.below c.requires.some (omega arith) c.in_ok-leaf_block.leaf_block c.in_ok-leaf_block.ensures.enters no.0 (rw no.1 at c.take_node.ensures))

pub returns-in_err-node-clause-ends : goal.returns-in_err-node-clause-ends
returns-in_err-node-clause-ends g c = let no = why g c in rw no.2 (node_halts c.in_ok-leaf_block.ensures.enters (rw no.1 at c.take_node.ensures))

-- the block that it has
got : (g : _) (c : After-write_block g) → c.take_node.result ≡ Ok c.in_ok-node.node
got g c = fine after_try c.take_node.result _ _ (mapped after_try _ _ c.map_err.ensures.cases (λ e k is. search rules)) c.in_ok-node.was

pub returns-clause-takes : goal.returns-clause-takes
returns-clause-takes g c = λ w may.
    let content = c.patch_leaf.ensures.patched ∙ ap (patched c.args.leaf c.args.self.now.offset c.args.self.now.bytes.now) c.of-content.ensures in
    leaf_taken may c.requires.below c.requires.some (omega arith) c.in_ok-leaf_block.leaf_block c.in_ok-leaf_block.ensures.enters c.in_ok-node.node (rw (got g (goal.at-returns-clause-takes g c).After-write_block) at c.take_node.ensures) (subst (λ (s : List ℕ). WritesBlock g.D.Disk 1 c.in_ok-leaf_block.leaf_block.0 s c.take_node.new.disk c.write_block.new.disk (Ok tt)) content c.in_ok-write_block.ensures.writes) refl

kept : {D : Type 0} {g : Ghosts D} {n owner : ℕ} {held : Bool} {block : ℕ} {old new : D} {before after : Kept} {x : BlockNo} → GetsNode g n owner held block old new before after (Ok x) → held ≡ true → x.0 ≡ block
kept {block = block} (Had is same left got) held = ap (λ (r : Result BlockNo Refused). first r) got
  where
    first : Result BlockNo Refused → ℕ
    first (Ok x) = x.0
    first (Err e) = 0
kept (Claims not enters) held = (let clash = sym held ∙ not in cc)

pub returns-clause-kept : goal.returns-clause-kept
returns-clause-kept g c = kept (rw (got g (goal.at-returns-clause-kept g c).After-write_block) at c.take_node.ensures)

pub returns-clause-ends : goal.returns-clause-ends
returns-clause-ends g c = leaf_gone c.in_ok-leaf_block.ensures.enters (rw (got g (goal.at-returns-clause-ends g c).After-write_block) at c.take_node.ensures) c.in_ok-write_block.ensures.writes

pub returns-in_err-write_block-clause-takes : goal.returns-in_err-write_block-clause-takes
returns-in_err-write_block-clause-takes g c = λ w may. rw (is_passed c.from_residual-in_err-write_block.result (refused_by c.in_err-write_block.field-0.0) c.from_residual-in_err-write_block.ensures.1) (
  write_leaves may c.requires.below c.requires.some (omega arith) c.in_ok-leaf_block.leaf_block c.in_ok-leaf_block.ensures.enters c.in_ok-node.node (rw (got g (goal.at-returns-in_err-write_block-clause-takes g c).After-write_block) at c.take_node.ensures) c.in_err-write_block.ensures.writes,
  ap (λ (t : Trouble). is_damaged (refused_by t)) c.in_err-write_block.ensures.failed,
)

pub returns-in_err-write_block-clause-ends : goal.returns-in_err-write_block-clause-ends
returns-in_err-write_block-clause-ends g c = rw (is_passed c.from_residual-in_err-write_block.result (refused_by c.in_err-write_block.field-0.0) c.from_residual-in_err-write_block.ensures.1)
    (subst (λ (t : Trouble). Halts g.D.Disk 5 3 (leaf_takes c.args.held) c.args.disk.now c.write_block.new.disk c.args.space.now c.take_node.new.space (refused_by t)) (sym c.in_err-write_block.ensures.failed)
    (rw c.in_err-write_block.ensures.failed at (leaf_halts c.in_ok-leaf_block.ensures.enters (rw (got g (goal.at-returns-in_err-write_block-clause-ends g c).After-write_block) at c.take_node.ensures) c.in_err-write_block.field-0.0 c.in_err-write_block.ensures.writes c.in_err-write_block.ensures.failed)))
