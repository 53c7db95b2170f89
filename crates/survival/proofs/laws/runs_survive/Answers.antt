use Rattle.std.proofs.Common.{inl, inr}
use Rattle.survival.proofs.Runs.{run_begins, run_goes_on, run_stays, run_idles}
use Rattle.survival.proofs.laws.runs_survive.Goals as goal

pub returns-clause-begin : goal.returns-clause-begin
returns-clause-begin g c = λ seed h d reads. run_begins g.D.Disk seed h d reads

pub returns-clause-event : goal.returns-clause-event
returns-clause-event g c = λ seed h trail marks s old new at run e survived. elim survived [
  | inl call ↦ run_goes_on g.D.Disk seed h trail marks s old new at run e call
  | inr idle ↦ run_idles g.D.Disk seed h trail marks s old new at run e idle
]

pub returns-clause-none : goal.returns-clause-none
returns-clause-none g c = λ seed h trail marks s old new at run call. run_stays g.D.Disk seed h trail marks s old new at run call
