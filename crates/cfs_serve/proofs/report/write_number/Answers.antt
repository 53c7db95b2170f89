use Rattle.cfs_serve.proofs.Cited.{codes, decimal, err_from_is_err_and}
use Rattle.cfs_serve.proofs.Texts.{first_of_four, second_of_four, third_of_four, last_of_four}
use Rattle.cfs_serve.proofs.report.write_number.Goals as goal

pub returns-in_err-write_whole : goal.returns-in_err-write_whole
returns-in_err-write_whole g c =
    let p = err_from_is_err_and c.from_residual.result c.from_residual.ensures.1 in
    rw p.1 (first_of_four _ _ c.args.word.now (codes " ") (decimal c.args.number) (codes "\n") c.in_err-write_whole.ensures)

pub returns-in_err-write_whole-2 : goal.returns-in_err-write_whole-2
returns-in_err-write_whole-2 g c =
    let r = c.from_residual-in_err-write_whole-2 in
    let p = err_from_is_err_and r.result r.ensures.1 in
    rw p.1 (second_of_four _ _ _ c.args.word.now (codes " ") (decimal c.args.number) (codes "\n") c.in_ok-write_whole.ensures c.in_err-write_whole-2.ensures)

pub returns-in_err-write_whole-3 : goal.returns-in_err-write_whole-3
returns-in_err-write_whole-3 g c =
    let r = c.from_residual-in_err-write_whole-3 in
    let p = err_from_is_err_and r.result r.ensures.1 in
    rw p.1 (third_of_four _ _ _ _ c.args.word.now (codes " ") (decimal c.args.number) (codes "\n") c.in_ok-write_whole.ensures c.in_ok-write_whole-2.ensures
    (rw (c.as_bytes.ensures.value, c.format.ensures.text) at c.in_err-write_whole-3.ensures))

pub returns : goal.returns
returns g c =
    last_of_four c.write_whole-4.result _ _ _ _ _ c.args.word.now (codes " ") (decimal c.args.number) (codes "\n") c.in_ok-write_whole.ensures c.in_ok-write_whole-2.ensures
    (rw (c.as_bytes.ensures.value, c.format.ensures.text) at c.in_ok-write_whole-3.ensures) c.write_whole-4.ensures
