use Rattle.std.proofs.Common.{◌≡◌, ap, ◌∙◌}
use Rattle.rayon.proofs.ListFacts.{IfOk-then}
use Rattle.rayon.proofs.ToStd.{slice-AllZip}
use Rattle.cfs_check.specs.Findings.{IsLookAt}
use Rattle.cfs_check.proofs.level.look_at_all.Goals as goal

pub returns : goal.returns
returns g c =
    IfOk-then c.collect.result _ _ c.collect.ensures (λ v h.
    let chain = rw (c.map.ensures.base, c.map.ensures.f, c.with_min_len.ensures.base) at h.1 in
    rw h.2 (slice-AllZip chain.0 c.args.twigs.now (chain.1 ∙ c.par_iter.ensures) (λ t f. IsLookAt c.args.image.now c.args.roots.now.blocks t f) h.0 chain.2))
