use Rattle.std.proofs.Common.{◌∙◌}
use Rattle.cfs_recover.proofs.Keepings.{leads_on}
use Rattle.cfs_check.specs.Repair.{MendsMaps}
use Rattle.cfs_check.proofs.Written.{all_made}
use Rattle.cfs_check.proofs.repair.mend_maps.Goals as goal

pub returns-in_err-flush-clause-leads : goal.returns-in_err-flush-clause-leads
returns-in_err-flush-clause-leads g c found graph b settled mends wrote plan =
    leads_on g.D.Disk (MendsMaps graph b) c.args.disk.now c.write_maps.new.disk c.flush.new.disk (c.in_ok-write_maps.ensures.leads found graph b settled mends wrote plan) c.flush.ensures.untouched

pub returns-clause-leads : goal.returns-clause-leads
returns-clause-leads g c found graph b settled mends wrote plan =
    leads_on g.D.Disk (MendsMaps graph b) c.args.disk.now c.write_maps.new.disk c.flush.new.disk (c.in_ok-write_maps.ensures.leads found graph b settled mends wrote plan) c.flush.ensures.untouched

pub returns-clause-mended : goal.returns-clause-mended
returns-clause-mended g c found graph b settled mends wrote plan =
    let maps = c.in_ok-write_maps.ensures.keeps found graph b settled mends wrote plan in
    let made = all_made c.args.image.now found c.args.uses.now graph b plan (g.D.Disk.content c.write_maps.new.disk) maps.0.content maps.1 in
    (c.in_ok-flush.ensures.settled maps.0.tells.honest, c.flush.ensures.untouched.content ∙ made)
