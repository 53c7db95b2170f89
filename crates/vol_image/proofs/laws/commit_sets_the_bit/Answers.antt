use Rattle.vol_image.proofs.Commits.{read_by, committed_holds, copied_holds}
use Rattle.vol_image.proofs.laws.commit_sets_the_bit.Goals as goal

pub returns-clause-bit : goal.returns-clause-bit
returns-clause-bit c = λ a g id was o e s holds at here valid draft. committed_holds a g id was e holds at here valid s o draft

pub returns-clause-copy : goal.returns-clause-copy
returns-clause-copy c = copied_holds

pub returns-clause-read_by : goal.returns-clause-read_by
returns-clause-read_by c = λ a g id was o e s holds at here valid draft. read_by a g id was e holds at here valid s o draft
