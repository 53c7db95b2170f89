use Rattle.cfs_serve.proofs.Cited.{codes, err_from_is_err_and, numbered}
use Rattle.cfs_serve.proofs.Texts.{first_of_four, second_of_four, third_of_four, last_of_four}
use Rattle.cfs_serve.proofs.report.Counts.write_served.Goals as goal

pub returns-in_err-write_number : goal.returns-in_err-write_number
returns-in_err-write_number g c =
    let r = c.from_residual in
    let p = err_from_is_err_and r.result r.ensures.1 in
    rw p.1 (first_of_four _ _ (numbered (codes "sessions") c.args.self.sessions) (numbered (codes "replies") c.args.self.replies) (numbered (codes "collections") c.args.self.collections) (numbered (codes "objects") c.args.self.objects) c.in_err-write_number.ensures)

pub returns-in_err-write_number-2 : goal.returns-in_err-write_number-2
returns-in_err-write_number-2 g c =
    let r = c.from_residual-in_err-write_number-2 in
    let p = err_from_is_err_and r.result r.ensures.1 in
    rw p.1 (second_of_four _ _ _ (numbered (codes "sessions") c.args.self.sessions) (numbered (codes "replies") c.args.self.replies) (numbered (codes "collections") c.args.self.collections) (numbered (codes "objects") c.args.self.objects) c.in_ok-write_number.ensures c.in_err-write_number-2.ensures)

pub returns-in_err-write_number-3 : goal.returns-in_err-write_number-3
returns-in_err-write_number-3 g c =
    let r = c.from_residual-in_err-write_number-3 in
    let p = err_from_is_err_and r.result r.ensures.1 in
    rw p.1 (third_of_four _ _ _ _ (numbered (codes "sessions") c.args.self.sessions) (numbered (codes "replies") c.args.self.replies) (numbered (codes "collections") c.args.self.collections) (numbered (codes "objects") c.args.self.objects) c.in_ok-write_number.ensures c.in_ok-write_number-2.ensures c.in_err-write_number-3.ensures)

pub returns : goal.returns
returns g c = last_of_four c.write_number-4.result _ _ _ _ _ (numbered (codes "sessions") c.args.self.sessions) (numbered (codes "replies") c.args.self.replies) (numbered (codes "collections") c.args.self.collections) (numbered (codes "objects") c.args.self.objects) c.in_ok-write_number.ensures c.in_ok-write_number-2.ensures c.in_ok-write_number-3.ensures c.write_number-4.ensures
