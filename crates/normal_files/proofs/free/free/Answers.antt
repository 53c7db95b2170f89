use Rattle.std.proofs.Common.{rules}
use Rattle.cfs_base.proofs.Passed.{is_passed}
use Rattle.normal_files.proofs.free.free.Goals as goal

pub returns-in_err-release-clause-follows : goal.returns-in_err-release-clause-follows
returns-in_err-release-clause-follows g c = λ at root. rw (is_passed c.from_residual.result c.in_err-release.field-0.0 c.from_residual.ensures.1)
    (record { told = tt; knows = tt; refused = λ start begun. search rules; untried = λ none. absurd none; moves = search rules; calls = c.release.ensures.calls })
