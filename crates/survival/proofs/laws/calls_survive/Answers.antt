use Rattle.survival.proofs.Calls.{call, done, doubt, keeps, loose}
use Rattle.survival.proofs.laws.calls_survive.Goals as goal

pub returns-clause-call : goal.returns-clause-call
returns-clause-call g c = call g.D.Disk g.met.D.Disk.left_sized

pub returns-clause-done : goal.returns-clause-done
returns-clause-done g c = λ seed s t e old new step before after leaves now. done g.D.Disk g.met.D.Disk.left_sized seed s old new before e t step after leaves now

pub returns-clause-doubt : goal.returns-clause-doubt
returns-clause-doubt g c = λ seed who b moment s request old new running none names before after leaves pending. doubt g.D.Disk g.met.D.Disk.left_sized seed s old new before who b moment request running none names after leaves pending

pub returns-clause-loose : goal.returns-clause-loose
returns-clause-loose g c = λ seed s t e old new step same before leaves pending. loose g.D.Disk g.met.D.Disk.left_sized seed s old new before e t step same leaves pending

pub returns-clause-none : goal.returns-clause-none
returns-clause-none g c = λ s old new before leaves. keeps g.D.Disk g.met.D.Disk.left_sized 0 s old new before leaves
