-- How a report was written.
use Rattle.std.specs.Prelude.{ℕ, List}
use Rattle.cfs_base.specs.Outside.{Intake}
use Rattle.cfs_ports.specs.Port.{Replied}
use Rattle.ufs_model.specs.declared.asked.Event.{Event}
use Rattle.trail_text.specs.declared.ends.Opening.{Opening}
use Rattle.cfs_serve.specs.Text.{IsText, IsTrail}
use Rattle.cfs_serve.specs.Words.{Asked}
use Rattle.cfs_serve.specs.declared.report.Cause.{Cause}
use Rattle.cfs_serve.specs.declared.report.Report.{Report}
use Rattle.cfs_serve.specs.declared.traced.Written.{Written}

-- the sink has taken the trail's text, whole or short, or some of its beginning
pub record IsTraced (o : Opening) (cause : Cause) (trail : List Event) (old new : Intake)
    (written : Written) : Type 0 where
  pub text : List ℕ
  pub is : IsTrail o cause trail written.short text
  pub taken : Replied old new text written.whole

-- the sink has taken the report's text in the same way
pub record IsWritten (asked : Asked) (told : Report) (trail : List Event) (old new : Intake)
    (written : Written) : Type 0 where
  pub text : List ℕ
  pub is : IsText asked told trail written.short text
  pub taken : Replied old new text written.whole
