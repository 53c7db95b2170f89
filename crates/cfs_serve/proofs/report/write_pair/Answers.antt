use Rattle.std.proofs.Common.{◌≡◌, ◌++◌, rules}
use Rattle.cfs_serve.proofs.Cited.{codes, cut, decimal, err_from_is_err_and, numbered, then_whole}
use Rattle.cfs_serve.proofs.report.write_pair.Goals as goal

pub returns-in_err-write_first : goal.returns-in_err-write_first
returns-in_err-write_first g c =
    let p = err_from_is_err_and c.from_residual.result c.from_residual.ensures.1 in
    rw p.1 (cut _ _ (c.args.word.now ++ decimal c.args.first) (numbered (codes "") c.args.second) c.in_err-write_first.ensures)

pub returns : goal.returns
returns g c =
    let number : c.from.result ≡ c.args.second = search rules in
    rw (← number) (then_whole c.write_number.result _ _ _ (c.args.word.now ++ decimal c.args.first) (numbered (codes "") c.from.result) c.in_ok-write_first.ensures c.write_number.ensures)
