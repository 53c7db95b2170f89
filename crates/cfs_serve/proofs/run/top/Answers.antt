use Rattle.std.proofs.Common.{ap, ◌∙◌}
use Rattle.cfs_serve.proofs.Cited.{outside_after, before, status_at_end, length-map}
use Rattle.cfs_serve.specs.Commands.{asked_of}
use Rattle.cfs_serve.proofs.Spinning.{says}
use Rattle.cfs_serve.proofs.run.top.Goals as goal

pub returns-clause-said : goal.returns-clause-said
returns-clause-said g c =
    let bay = c.args.bay in
    let done = c.do_asked-played.result in
    let told = done.0.report in
    let written = c.write_report-written.result in
    says c.scripts_have_so_many_lines.ensures.lines c.scripts_have_so_many_lines.ensures.short g.D.Disk bay.disk (before g.D.Disk.faults g.S.Source.supply g.K.Sink.intake bay)
    (outside_after g.D.Disk.faults g.S.Source.supply g.K.Sink.intake (record {
      status = c.status_of.result;
      disk = done.1;
      sources = c.do_asked-played.new.sources;
      sinks = c.do_asked-played.new.sinks;
      report = c.write_report-written.new.sink;
      trail = done.0.trail;
      told = told;
      ending = done.0.ending;
    }))
    told c.status_of.result done.0.ending done.0.trail.events c.trace_of.result written c.write_report-written.ensures (c.status_of.ensures ∙ ap (status_at_end written.whole) c.at_last.ensures)
    (asked_of c.args.command) c.trace_of.ensures (rw (length-map bay.sources.items g.S.Source.supply, length-map bay.sinks.items g.K.Sink.intake) c.requires.places) c.do_asked-played.ensures.asks
