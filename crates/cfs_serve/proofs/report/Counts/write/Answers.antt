use Rattle.cfs_serve.proofs.Cited.{codes, cut, err_from_is_err_and, numbered, served_text, then_whole}
use Rattle.cfs_serve.proofs.report.Counts.write.Goals as goal

pub returns-in_err-write_served : goal.returns-in_err-write_served
returns-in_err-write_served g c =
    let p = err_from_is_err_and c.from_residual.result c.from_residual.ensures.1 in
    rw p.1 (cut _ _ (served_text c.args.self) (numbered (codes "free") c.args.self.free) c.in_err-write_served.ensures)

pub returns : goal.returns
returns g c = then_whole c.write_number.result _ _ _ (served_text c.args.self) (numbered (codes "free") c.args.self.free) c.in_ok-write_served.ensures c.write_number.ensures
