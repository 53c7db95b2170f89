use Rattle.std.proofs.Common.{◌∙◌, ◌<◌, map, set, slice_get, length, length-set, ap, subst, sym, arith}
use Rattle.cfs_serve.proofs.Cited.{HaveFirst, err_from_is_err_and, length-map, lines_in}
use Rattle.cfs_serve.proofs.Scripted.{behind, one_cause, one_counted, one_read, rest_stays, source_after, source_at, total_cause}
use Rattle.cfs_serve.proofs.scripts.read_scripts.Goals as goal

pub returns-in_err-script-clause-cause : goal.returns-in_err-script-clause-cause
returns-in_err-script-clause-cause g c =
    let supply = g.S.Source.supply in
    let first = c.args.sources.now.items in
    let now = c.sources.sources.items in
    let at = c.sources.at in
    let before = c.sources.invariant in
    let source = c.index_mut.result.now in
    let after = c.read_script.new.source in
    let within : at < length now = omega arith in
    let p = err_from_is_err_and c.from_residual.result c.from_residual.ensures.1 in
    rw (p.1, p.2) (one_cause (map supply first) (map supply (set now at after)) at (supply source) (supply after)
    (source_at supply first now at before.rest source within c.index_mut.ensures.value) (source_after supply first now at before.rest after within)
    (record { scripts = c.sources.scripts.items; before = before.read; count = before.count; behind = behind supply first now at before.rest after })
    c.in_err-script.field-0.0 c.in_err-script.ensures.cause)

pub sources-preserved : goal.sources-preserved
sources-preserved g c =
    let supply = g.S.Source.supply in
    let first = c.args.sources.now.items in
    let now = c.sources.sources.items in
    let at = c.sources.at in
    let before = c.sources.invariant in
    let source = c.index_mut.result.now in
    let after = c.read_script.new.source in
    let script = c.in_ok-script.script in
    let scripts = c.sources.scripts.items in
    let within : at < length now = omega arith in
    record {
      ends = before.ends;
      count = omega (arith, ap length c.push_reserved.ensures.items, one_counted scripts script, before.count);
      size = length-set now at after ∙ before.size;
      room = omega (arith, before.room, c.push_reserved.ensures.capacity);
      read = subst (HaveFirst (map supply first)) (sym c.push_reserved.ensures.items) (one_read (map supply first) scripts (supply source) script before.read
          (ap (λ n. slice_get (map supply first) n) before.count ∙ source_at supply first now at before.rest source within c.index_mut.ensures.value) c.in_ok-script.ensures.script);
      rest = λ k past. rest_stays supply first now at before.rest after k past;
      lines = omega (arith, ap lines_in c.push_reserved.ensures.items, one_counted scripts script, before.lines, c.lines-lines.ensures.count);
      few = omega (arith, before.few, c.lines-lines.ensures.few, c.in_ok-script.ensures.script.short);
    }

pub returns-then-lines-gt-MOST_LINES-clause-cause : goal.returns-then-lines-gt-MOST_LINES-clause-cause
returns-then-lines-gt-MOST_LINES-clause-cause g c =
    let supply = g.S.Source.supply in
    let first = map supply c.args.sources.now.items in
    let before = c.sources.invariant in
    total_cause first (map supply c.sources.sources.items) c.sources.scripts.items before.read (omega (arith, before.count, before.ends, length-map c.args.sources.now.items supply))
    (omega (arith, before.lines, c.if-lines-gt-MOST_LINES.true))
