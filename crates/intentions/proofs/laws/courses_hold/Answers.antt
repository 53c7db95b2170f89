use Rattle.intentions.proofs.Courses.{on_holds}
use Rattle.intentions.proofs.laws.courses_hold.Goals as goal

pub returns : goal.returns
returns c = on_holds
