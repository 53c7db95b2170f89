use Rattle.index_drafts.proofs.Words.{Drafting}
use Rattle.cfs_base.proofs.Passed.{passed}
use Rattle.special_files.specs.Begins.{BeginsDraft}
use Rattle.special_files.specs.View.{GoesTo}
use Rattle.index_drafts.proofs.draft.IndexDraft.begin.Goals as goal

pub returns-in_err-draft-clause-begins : goal.returns-in_err-draft-clause-begins
returns-in_err-draft-clause-begins g c = λ v. passed (GoesTo {A = Drafting} g.D.Disk v.graph (BeginsDraft v c.begin.new.disk c.begin.new.space) c.args.disk.now c.begin.new.disk) _ _ c.from_residual.ensures.1 (c.in_err-draft.ensures.begins v)
