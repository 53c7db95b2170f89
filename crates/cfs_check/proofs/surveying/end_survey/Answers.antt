use Rattle.cfs_check.proofs.Ground.{last_told}
use Rattle.cfs_check.proofs.surveying.end_survey.Goals as goal

pub returns-clause-faults : goal.returns-clause-faults
returns-clause-faults c =
    last_told c.args.image.now c.args.survey.now.roots.blocks c.args.survey.now.uses c.left-full.result c.left-full.ensures _ c.note_shadows.new.marks _ c.note_shadows.ensures c.note_if.ensures
