use Rattle.cfs_recover.proofs.Keepings.{leads_then}
use Rattle.cfs_check.specs.Repair.{Mends, MendsMaps}
use Rattle.cfs_check.proofs.repair.mend_volume.Goals as goal

pub returns-in_err-mend_maps-clause-leads : goal.returns-in_err-mend_maps-clause-leads
returns-in_err-mend_maps-clause-leads g c graph b settled is plan =
    let s = c.args.surveyed.now.survey in
    let roots = c.in_ok-mend_roots.ensures.mended graph b settled is plan in
    leads_then g.D.Disk (Mends graph b) c.args.disk.now c.mend_roots.new.disk c.mend_maps.new.disk (MendsMaps graph b) (c.in_ok-mend_roots.ensures.leads graph b settled is plan)
    (c.in_err-mend_maps.ensures.leads s.roots.blocks graph b roots.0 roots.1 roots.2 plan) (λ i both. both.0)

pub returns-clause-leads : goal.returns-clause-leads
returns-clause-leads g c graph b settled is plan =
    let s = c.args.surveyed.now.survey in
    let roots = c.in_ok-mend_roots.ensures.mended graph b settled is plan in
    leads_then g.D.Disk (Mends graph b) c.args.disk.now c.mend_roots.new.disk c.mend_maps.new.disk (MendsMaps graph b) (c.in_ok-mend_roots.ensures.leads graph b settled is plan)
    (c.in_ok-mend_maps.ensures.leads s.roots.blocks graph b roots.0 roots.1 roots.2 plan) (λ i both. both.0)

pub returns-clause-mended : goal.returns-clause-mended
returns-clause-mended g c graph b settled is plan =
    let roots = c.in_ok-mend_roots.ensures.mended graph b settled is plan in
    c.in_ok-mend_maps.ensures.mended c.args.surveyed.now.survey.roots.blocks graph b roots.0 roots.1 roots.2 plan
