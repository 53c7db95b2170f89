use Rattle.std.proofs.Common.{◌∙◌}
use Rattle.cfs_serve.proofs.Cited.{untold}
use Rattle.cfs_serve.proofs.Checking.{few_loaded}
use Rattle.cfs_serve.proofs.Mended.{by_err, mended, refused}
use Rattle.cfs_serve.specs.Inspected.{MendsVolume}
use Rattle.cfs_serve.specs.declared.report.Cause.TheVariants as causes
use Rattle.cfs_serve.proofs.inspecting.load_and_mend.Goals as goal

pub returns-in_err-mend : goal.returns-in_err-mend
returns-in_err-mend g c =
    let is = c.in_ok-image.ensures in
    let so = c.in_err-mend.ensures in
    let r = c.from_residual-in_err-mend in
    by_err (λ u. MendsVolume g.D.Disk (untold causes.Nothing) c.args.disk.now c.mend.new.disk) (λ cause. MendsVolume g.D.Disk (untold cause) c.args.disk.now c.mend.new.disk) r.result _ r.ensures.1
    (refused g.D.Disk c.args.disk.now c.load.new.disk is.untouched is.calls (few_loaded _ _ _ is.large) c.in_ok-image.image (λ honest. is.content honest ∙ is.untouched.content) c.mend.new.disk so.images so.calls
    c.in_err-mend.field-0.0 so.refused so.untouched so.cause)

pub returns : goal.returns
returns g c =
    let is = c.in_ok-image.ensures in
    let so = c.in_ok-mend.ensures in
    mended g.D.Disk c.args.disk.now c.load.new.disk is.untouched is.calls (few_loaded _ _ _ is.large) c.in_ok-image.image (λ honest. is.content honest ∙ is.untouched.content) c.mend.new.disk so.images so.calls so.mended
