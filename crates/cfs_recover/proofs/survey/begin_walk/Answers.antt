use Rattle.cfs_recover.proofs.Begun.{begins, label_names}
use Rattle.cfs_recover.proofs.Refused.{told_on}
use Rattle.cfs_recover.proofs.survey.begin_walk.Goals as goal

pub returns-in_err-note-clause-told : goal.returns-in_err-note-clause-told
returns-in_err-note-clause-told c image label size has is =
    let new = c.in_ok-walk.ensures in
    told_on _ _ _ _ _ c.from_residual-in_err-note.ensures.1
    (c.in_err-note.ensures.told image 0 (begins image c.in_ok-walk.walk c.args.blocks label size has new.room new.directory new.found new.held new.clash) (label_names image label c.args.root has is)) (λ d wrong. wrong)

pub returns-clause-told : goal.returns-clause-told
returns-clause-told c image label size has is =
    let new = c.in_ok-walk.ensures in
    c.in_ok-note.ensures.told image 0 (begins image c.in_ok-walk.walk c.args.blocks label size has new.room new.directory new.found new.held new.clash) (label_names image label c.args.root has is)
