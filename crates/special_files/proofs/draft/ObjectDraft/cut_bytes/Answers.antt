use Rattle.std.proofs.Common.{◌∙◌, ap}
use Rattle.cfs_base.proofs.Passed.{is_passed}
use Rattle.special_files.proofs.Words.{Drafting, cut}
use Rattle.special_files.proofs.View.{view_tree}
use Rattle.special_files.proofs.draft.ObjectDraft.cut_bytes.Goals as goal

pub returns-clause-bytes : goal.returns-clause-bytes
returns-clause-bytes g c = λ kept v is.
    c.cut_leaf.ensures.cut ∙ ap (λ (d : Drafting). cut c.args.size d.root.fill c.in_ok-content.content) c.self.view_is ∙ ap (cut c.args.size c.args.self.now.root.fill) (c.in_ok-content.ensures.bytes (view_tree v) is)

pub returns-in_err-content-clause-turns : goal.returns-in_err-content-clause-turns
returns-in_err-content-clause-turns g c = rw (is_passed _ _ c.from_residual.ensures.1) c.in_err-content.ensures.turns
