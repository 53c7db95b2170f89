use Rattle.std.proofs.Common.{◌≡◌, ◌^◌, inl, inr, length, refl, sym, ◌∙◌, subst, arith}
use Rattle.cfs_base.proofs.Went.{makes_none}
use Rattle.cfs_base.specs.Disk.{Image}
use Rattle.cfs_check.specs.Mended.{MendsTo}
use Rattle.cfs_check.proofs.Planned.{planned}
use Rattle.cfs_check.proofs.repair.mend.Goals as goal

pub returns-in_err-surveyed-clause-images : goal.returns-in_err-surveyed-clause-images
returns-in_err-surveyed-clause-images g c honest =
    inl (record { content = refl; images = record { later = omega arith; since = λ t i le h. inl h; now = λ i h. inl h } })

pub returns-in_err-surveyed-clause-calls : goal.returns-in_err-surveyed-clause-calls
returns-in_err-surveyed-clause-calls g c = makes_none g.D.Disk c.args.disk.now _ _

pub returns-in_err-flush-clause-images : goal.returns-in_err-flush-clause-images
returns-in_err-flush-clause-images g c honest = inl c.flush.ensures.untouched

pub returns-in_err-mend_volume-clause-images : goal.returns-in_err-mend_volume-clause-images
returns-in_err-mend_volume-clause-images g c honest =
    let plan = planned c.args.image.now c.in_ok-surveyed.surveyed c.in_ok-surveyed.ensures.mendable in
    let same = (c.requires.same honest).1 in
    let was = c.flush.ensures.untouched in
    let settled = c.in_ok-flush.ensures.settled honest in
    let leads = c.in_err-mend_volume.ensures.leads plan.0 plan.1 settled (was.content ∙ same) plan.2 in
    inr (
      plan.0,
      plan.1,
      subst (λ (i : Image). MendsTo i plan.0 plan.1) (sym same) plan.2.mends,
      inr (c.flush.new.disk, record { settled = settled; untouched = was; calls = c.flush.ensures.one_call; tries = c.flush.ensures.one_try }, leads.leaves),
    )

pub returns-clause-images : goal.returns-clause-images
returns-clause-images g c honest =
    let plan = planned c.args.image.now c.in_ok-surveyed.surveyed c.in_ok-surveyed.ensures.mendable in
    let same = (c.requires.same honest).1 in
    let was = c.flush.ensures.untouched in
    let settled = c.in_ok-flush.ensures.settled honest in
    let leads = c.in_ok-mend_volume.ensures.leads plan.0 plan.1 settled (was.content ∙ same) plan.2 in
    inr (
      plan.0,
      plan.1,
      subst (λ (i : Image). MendsTo i plan.0 plan.1) (sym same) plan.2.mends,
      inr (c.flush.new.disk, record { settled = settled; untouched = was; calls = c.flush.ensures.one_call; tries = c.flush.ensures.one_try }, leads.leaves),
    )

pub returns-clause-mended : goal.returns-clause-mended
returns-clause-mended g c honest =
    let plan = planned c.args.image.now c.in_ok-surveyed.surveyed c.in_ok-surveyed.ensures.mendable in
    let same = (c.requires.same honest).1 in
    let settled = c.in_ok-flush.ensures.settled honest in
    let done = c.in_ok-mend_volume.ensures.mended plan.0 plan.1 settled (c.flush.ensures.untouched.content ∙ same) plan.2 in
    record {
      graph = plan.0;
      mends =
          subst (λ (i : Image). MendsTo i plan.0 (g.D.Disk.content c.mend_volume.new.disk)) (sym same)
          (subst (λ (i : Image). MendsTo c.args.image.now plan.0 i) (sym done.1) plan.2.mends);
      settled = done.0;
    }
