use Rattle.std.proofs.Common.{sym, subst}
use Rattle.cfs_base.specs.Disk.{Image}
use Rattle.cfs_recover.proofs.Keepings.{leads_on}
use Rattle.cfs_check.specs.Repair.{Mends, MendsMaps, WroteMaps}
use Rattle.cfs_check.proofs.Written.{all_wrote}
use Rattle.cfs_check.proofs.repair.mend_roots.Goals as goal

pub returns-in_err-flush-clause-leads : goal.returns-in_err-flush-clause-leads
returns-in_err-flush-clause-leads g c graph b settled is plan =
    leads_on g.D.Disk (Mends graph b) c.args.disk.now c.write_roots.new.disk c.flush.new.disk (c.in_ok-write_roots.ensures.leads graph b settled is plan) c.flush.ensures.untouched

pub returns-clause-leads : goal.returns-clause-leads
returns-clause-leads g c graph b settled is plan =
    leads_on g.D.Disk (Mends graph b) c.args.disk.now c.write_roots.new.disk c.flush.new.disk (c.in_ok-write_roots.ensures.leads graph b settled is plan) c.flush.ensures.untouched

pub returns-clause-mended : goal.returns-clause-mended
returns-clause-mended g c graph b settled is plan =
    let s = c.args.surveyed.now.survey in
    let image = c.args.image.now in
    let roots = c.in_ok-write_roots.ensures.keeps graph b settled is plan in
    let were = all_wrote image s.roots.blocks s.uses graph b plan (g.D.Disk.content c.write_roots.new.disk) roots.0.content roots.1 in
    let same = sym c.flush.ensures.untouched.content in
    (c.in_ok-flush.ensures.settled roots.0.tells.honest, subst (MendsMaps graph b) same were.0, subst (λ (i : Image). WroteMaps image b i 0) same were.1)
