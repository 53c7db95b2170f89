use Rattle.std.proofs.Common.{refl, sym, ◌∙◌}
use Rattle.cfs_serve.proofs.Cited.{report_text}
use Rattle.cfs_serve.proofs.Tracing.{replied}
use Rattle.cfs_serve.proofs.run.write_report.Goals as goal

pub returns-in-Some : goal.returns-in-Some
returns-in-Some g c = λ asked is.
    let line = sym (c.printed.ensures asked is) ∙ c.in-Some.is in
    let wrote = c.write_trail.ensures in
    record { text = wrote.text; is = rw line wrote.is; taken = wrote.taken }

pub returns-in-None : goal.returns-in-None
returns-in-None g c = λ asked is.
    let line = sym (c.printed.ensures asked is) ∙ c.in-None.is in
    record { text = report_text c.args.told.now; is = rw line (refl, refl); taken = rw c.is_ok.ensures.value (replied _ _ (report_text c.args.told.now) c.write.result c.write.ensures) }
