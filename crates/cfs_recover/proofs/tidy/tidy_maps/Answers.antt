use Rattle.std.proofs.Common.{length, sym, ap, subst, arith}
use Rattle.cfs_recover.proofs.Words.{AreTidied, Image, Tidies, changed_maps}
use Rattle.cfs_recover.proofs.Keepings.{leads_on}
use Rattle.cfs_recover.proofs.tidy.tidy_maps.Goals as goal

pub returns-in_err-flush-clause-leads : goal.returns-in_err-flush-clause-leads
returns-in_err-flush-clause-leads g c a graph settled is tidying are =
    leads_on g.D.Disk (Tidies a graph) c.args.disk.now c.write_maps.new.disk c.flush.new.disk (c.in_ok-write_maps.ensures.leads a graph settled is tidying are) c.flush.ensures.untouched

pub returns-clause-leads : goal.returns-clause-leads
returns-clause-leads g c a graph settled is tidying are =
    leads_on g.D.Disk (Tidies a graph) c.args.disk.now c.write_maps.new.disk c.flush.new.disk (c.in_ok-write_maps.ensures.leads a graph settled is tidying are) c.flush.ensures.untouched

pub returns-clause-tidied : goal.returns-clause-tidied
returns-clause-tidied g c a graph settled is tidying are =
    let done = c.in_ok-write_maps.ensures.keeps a graph settled is tidying are in
    let same = c.flush.ensures.untouched.content in (
      c.in_ok-flush.ensures.settled done.0.tells.honest,
      subst (Tidies a graph) (sym same) done.0.content,
      subst (λ (i : Image). AreTidied i c.args.maps.now c.args.held.now c.write_maps.new.space.free (length c.args.maps.now)) (sym same) done.1,
      omega (arith, done.2, c.flush.ensures.calls.tries, ap (λ (i : Image). changed_maps a i (length c.args.maps.now)) same),
    )
