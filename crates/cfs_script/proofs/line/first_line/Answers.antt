use Rattle.std.proofs.Common.{sym, ◌∙◌}
use Rattle.cfs_script.proofs.LineLemmas.{request_lines-first, request_lines-last}
use Rattle.cfs_script.proofs.line.first_line.Goals as goal

pub returns-in-Some-clause-line : goal.returns-in-Some-clause-line
returns-in-Some-clause-line c =
    rw c.without_cr.ensures (request_lines-first c.args.text.now c.in-Some.end (sym c.line_end.ensures ∙ c.in-Some.is))

pub returns-in-None-clause-line : goal.returns-in-None-clause-line
returns-in-None-clause-line c =
    rw c.without_cr-in-None.ensures (request_lines-last c.args.text.now (sym c.line_end.ensures ∙ c.in-None.is))
