use Rattle.std.proofs.Common.{◌≡◌, rules}
use Rattle.cfs_serve.proofs.Cited.{cause_text, codes, cut, err_from_is_err_and, numbered, status_of, then_whole}
use Rattle.cfs_serve.proofs.report.Cause.write_told.Goals as goal

pub returns-in_err-write_line : goal.returns-in_err-write_line
returns-in_err-write_line g c =
    let p = err_from_is_err_and c.from_residual.result c.from_residual.ensures.1 in
    rw p.1 (cut _ _ (cause_text c.args.self) (numbered (codes "status") (status_of c.args.self)) c.in_err-write_line.ensures)

pub returns : goal.returns
returns g c =
    let number : c.from.result ≡ status_of c.args.self = search rules in
    rw (← number) (then_whole c.write_number.result _ _ _ (cause_text c.args.self) (numbered (codes "status") c.from.result) c.in_ok-write_line.ensures c.write_number.ensures)
