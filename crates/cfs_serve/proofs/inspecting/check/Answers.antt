use Rattle.std.proofs.Common.{◌∙◌}
use Rattle.cfs_serve.proofs.Checking.{few_loaded, found}
use Rattle.cfs_serve.proofs.inspecting.check.Goals as goal

pub returns-clause-checked : goal.returns-clause-checked
returns-clause-checked g c =
    let is = c.in_ok-image.ensures in
    found g.D.Disk c.args.disk.now c.load.new.disk is.untouched is.calls (few_loaded _ _ _ is.large) c.in_ok-image.image
    (λ honest. is.content honest ∙ is.untouched.content) c.tell.result (c.tell.ensures.told c.in_ok-image.image c.in_ok-checked.ensures)
