use Rattle.std.proofs.Common.{refl, arith}
use Rattle.cfs_base.proofs.Passed.{is_passed}
use Rattle.special_files.proofs.View.{draft_of, view_tree}
use Rattle.special_files.proofs.WriteLeaf.{goes_stopped, leaf_changed, leaf_since, leaf_stopped, patched_fits}
use Rattle.special_files.proofs.draft.ObjectDraft.write_leaf.Goals as goal

pub returns-clause-goes : goal.returns-clause-goes
returns-clause-goes g c = λ v is inside within.
    leaf_changed c.in_ok-content.ensures.turns.reads v c.args.way.now c.patched.new.way c.put_leaf.new.way c.args.leaf c.in_ok-content.content _ c.in_ok-content.ensures.turns.node is (c.in_ok-content.ensures.bytes _ v is)
    (patched_fits (g.D.Disk.content c.args.disk.now) v.id c.args.self.now v.draft (draft_of v) c.args.leaf c.args.patch.now.offset c.args.patch.now.bytes.now inside within) c.put_leaf.ensures.goes

pub returns-clause-calls : goal.returns-clause-calls
returns-clause-calls g c = leaf_since c.in_ok-content.ensures.turns.reads 8 c.put_leaf.ensures.calls (omega arith)

pub returns-in_err-content : goal.returns-in_err-content
returns-in_err-content g c =
    let turns = c.in_err-content.ensures.turns in
    rw (is_passed _ _ c.from_residual.ensures.1) (record { goes = λ v is inside within. goes_stopped turns.reads _ _ refl (turns.sound (view_tree v) is); calls = leaf_stopped turns.reads _ 8 _ _ refl (omega arith) (turns.refused _) })
