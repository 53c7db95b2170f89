use Rattle.std.proofs.Common.{◌∙◌, ap, arith}
use Rattle.cfs_base.proofs.Passed.{is_passed}
use Rattle.special_files.proofs.Words.{leaf_content, leaves_below, length-leaf_content, patched, reads_within}
use Rattle.special_files.proofs.View.{view_tree}
use Rattle.special_files.proofs.WriteLeaf.{covered}
use Rattle.special_files.proofs.draft.ObjectDraft.patched.Goals.{then-patch-start+then-start-patch+in_ok-turn_to, else-patch-start+in_ok-content}
use Rattle.special_files.proofs.draft.ObjectDraft.patched.Goals as goal

pub returns-clause-bytes : goal.returns-clause-bytes
returns-clause-bytes g c = λ kept v is.
    let there = leaf_content c.args.self.now.root.fill (leaves_below (g.D.Disk.content c.args.disk.now) c.args.self.now.root c.args.leaf) in
    elim c.if-patch-start.branch [
      | then-patch-start+then-start-patch+in_ok-turn_to w ↦
          c.patch_leaf.ensures.patched ∙ covered c.args.leaf c.args.patch.now.offset c.args.patch.now.bytes.now c.if-patch-start.content there c.patch_leaf.ensures.long
          (length-leaf_content c.args.self.now.root.fill (leaves_below (g.D.Disk.content c.args.disk.now) c.args.self.now.root c.args.leaf)) w.if-patch-start.true w.if-start-patch.true
      | else-patch-start+in_ok-content w ↦
          c.patch_leaf.ensures.patched ∙ ap (patched c.args.leaf c.args.patch.now.offset c.args.patch.now.bytes.now) (w.content-is ∙ w.in_ok-content.ensures.bytes (view_tree v) is)
    ]

pub returns-in_err-turn_to-clause-turns : goal.returns-in_err-turn_to-clause-turns
returns-in_err-turn_to-clause-turns g c = let turns = c.in_err-turn_to.ensures.turns in rw (is_passed _ _ c.from_residual.ensures.1) (record { node = λ tells is. tt; safe = tt; to = tt; refused = turns.refused; untried = turns.untried; sound = turns.sound; reads = reads_within g.D.Disk c.args.disk.now c.turn_to.new.disk 1 2 (omega arith) turns.reads })

pub returns-in_err-content-clause-turns : goal.returns-in_err-content-clause-turns
returns-in_err-content-clause-turns g c = rw (is_passed _ _ c.from_residual-in_err-content.ensures.1) c.in_err-content.ensures.turns
