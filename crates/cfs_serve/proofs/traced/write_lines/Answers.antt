use Rattle.std.proofs.Common.{suc, take, refl, ◌∙◌, arith}
use Rattle.cfs_serve.proofs.Cited.{begun_lines, err_from_is_err_and, slice_get_within}
use Rattle.cfs_serve.proofs.Tracing.{broke_first, broke_off, wrote_on}
use Rattle.cfs_serve.proofs.traced.write_lines.Goals as goal

pub returns-in_err-write_line-clause-failed : goal.returns-in_err-write_line-clause-failed
returns-in_err-write_line-clause-failed g c =
    let p = err_from_is_err_and c.from_residual.result c.from_residual.ensures.1 in
    rw p.1 (broke_first _ _ c.args.opening c.args.trail.now.events c.as_str.result.now (c.as_str.ensures.value ∙ c.in-Ok.ensures) c.in_err-write_line.ensures)

pub returns-in_default-print_event-clause-lines : goal.returns-in_default-print_event-clause-lines
returns-in_default-print_event-clause-lines g c =
    let events = c.args.trail.now.events in
    (begun_lines c.args.opening (take c.events.at events), (suc c.events.at, omega (arith, slice_get_within events c.events.at c.event.result.now c.event.ensures), refl), c.events.invariant.wrote)

pub returns-in_err-write_line-2-clause-failed : goal.returns-in_err-write_line-2-clause-failed
returns-in_err-write_line-2-clause-failed g c =
    let r = c.from_residual-in_err-write_line-2 in
    let p = err_from_is_err_and r.result r.ensures.1 in
    rw p.1 (broke_off _ _ _ c.args.opening c.args.trail.now.events c.events.at c.event.result.now c.as_str-in-events.result.now c.event.ensures (c.as_str-in-events.ensures.value ∙ c.in-Ok-print_event.ensures)
    c.events.invariant.wrote c.in_err-write_line-2.ensures)

pub events-preserved : goal.events-preserved
events-preserved g c = record {
  ends = c.events.invariant.ends;
  wrote = wrote_on _ _ _ c.args.opening c.args.trail.now.events c.events.at c.event.result.now c.as_str-in-events.result.now c.event.ensures (c.as_str-in-events.ensures.value ∙ c.in-Ok-print_event.ensures)
      c.events.invariant.wrote c.in_ok-write_line-2.ensures;
}
