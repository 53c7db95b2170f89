use Rattle.cfs_serve.proofs.Cited.{cut, decimal, err_from_is_err_and, then_whole}
use Rattle.cfs_serve.proofs.report.write_first.Goals as goal

pub returns-in_err-write_whole : goal.returns-in_err-write_whole
returns-in_err-write_whole g c =
    let p = err_from_is_err_and c.from_residual.result c.from_residual.ensures.1 in
    rw p.1 (cut _ _ c.args.word.now (decimal c.args.first) c.in_err-write_whole.ensures)

pub returns : goal.returns
returns g c = then_whole c.write_whole-2.result _ _ _ c.args.word.now (decimal c.args.first) c.in_ok-write_whole.ensures (rw (c.as_bytes.ensures.value, c.format.ensures.text) at c.write_whole-2.ensures)
