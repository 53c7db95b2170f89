use Rattle.std.proofs.Common.{◌≡◌, ℕ, ◌+◌, ◌++◌}
use Rattle.cfs_workload.specs.Workload.{lines_from, script}
use Rattle.cfs_workload.proofs.session.script.Given as goal

-- the lines that are left come behind the text
abbrev pub invariant-lines : goal.invariant-lines
invariant-lines l = (n : ℕ) → l.place + n ≡ l.count → l.text.items ++ lines_from l.seed l.session l.place n l.left ≡ script l.seed l.session l.count
