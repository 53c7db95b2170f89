use Rattle.std.proofs.Common.{inl, refl, sym, subst}
use Rattle.cfs_audit.proofs.Words.{IsUnopened}
use Rattle.cfs_audit.proofs.Lines.{unopened}
use Rattle.cfs_audit.proofs.trail.audit.Goals as goal

pub returns-in-Err-BadLine : goal.returns-in-Err-BadLine
returns-in-Err-BadLine c =
    inl (
      subst IsUnopened (sym c.in-Some.ensures.text)
          (unopened c.in-Some.first.line.now c.in-Some.first.rest.now c.in-Some.ensures.line (c.in-Err-BadLine.ensures.bad c.in-Err-BadLine.field-0-is)),
      refl,
    )
