use Rattle.std.proofs.Common.{◌≡◌, ◌++◌, refl, rules}
use Rattle.cfs_serve.proofs.Cited.{codes, cut, ended_line, last_cause, numbered, status_line, status_of, then_whole}
use Rattle.cfs_serve.proofs.Tracing.{replied}
use Rattle.cfs_serve.proofs.traced.write_trail.Goals as goal

pub returns-in-Ok : goal.returns-in-Ok
returns-in-Ok g c =
    let start = c.in-Ok.ensures.lines.0 in
    let cause = last_cause c.in-Ok.short c.args.cause in
    let status : c.from.result ≡ status_of cause = search rules in
    let is : numbered (codes "status") (status_of cause) ≡ ended_line (status_line (status_of cause)) = refl in
    let wrote = then_whole c.write_number.result _ _ _ start (numbered (codes "status") c.from.result) c.in-Ok.ensures.lines.2 c.write_number.ensures in
    record {
      text = start ++ ended_line (status_line (status_of cause));
      is = (start, c.in-Ok.ensures.lines.1, refl);
      taken = rw (← is) (rw (← status) (rw c.is_ok.ensures.value (replied _ _ _ c.write_number.result wrote)));
    }

pub returns-in-Err : goal.returns-in-Err
returns-in-Err g c = record { text = _; is = (_, refl, refl); taken = cut _ _ _ _ c.in-Err.ensures.failed }
