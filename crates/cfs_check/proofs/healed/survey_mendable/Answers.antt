use Rattle.std.proofs.Common.{List, length, sym, ◌∙◌, subst, arith}
use Rattle.std.specs.List.{Contains}
use Rattle.std.specs.Prelude.{IfErr, Result}
use Rattle.cfs_base.proofs.Passed.{passed}
use Rattle.cfs_base.specs.declared.refusal.Damage.{Damage}
use Rattle.cfs_check.specs.Checked.{IsFirstUnhealed}
use Rattle.cfs_check.specs.Marks.{damages_in}
use Rattle.cfs_check.specs.Mended.{IsMendFault}
use Rattle.cfs_check.specs.Repair.{AreHealed, IsFirstOf}
use Rattle.cfs_check.specs.declared.mended.MendFault.{MendFault}
use Rattle.cfs_check.specs.declared.mended.MendFault.TheVariants as faults
use Rattle.cfs_check.specs.declared.survey.Surveyed.{Surveyed}
use Rattle.cfs_check.proofs.Healing.{first_unhealed, mendable, size_unhealed}
use Rattle.cfs_check.proofs.Rise.{marked_within}
use Rattle.cfs_check.proofs.healed.survey_mendable.Goals as goal

pub returns-then-label-blocks-clause-refused : goal.returns-then-label-blocks-clause-refused
returns-then-label-blocks-clause-refused g c =
    size_unhealed c.args.image.now c.in-Ok.label c.in-Ok.ensures.told (λ same. c.if-label-blocks.true (same ∙ sym c.blocks-2.ensures.is))

pub check_healed-requires : goal.check_healed-requires
check_healed-requires g c d has =
    let image = c.args.image.now in
    let s = c.in_ok-surveyed.surveyed.survey in
    let is = c.in_ok-surveyed.ensures in
    let listed : Contains (damages_in s.marks) d = subst (λ (ds : List Damage). Contains ds d) (c.as_slice.ensures ∙ c.in_ok-faults.ensures) has in
    omega (arith, marked_within s.marks (length image) d is.faults.size listed, is.whole.found.size)

pub returns-in_err-check_healed-clause-refused : goal.returns-in_err-check_healed-clause-refused
returns-in_err-check_healed-clause-refused g c =
    let s = c.in_ok-surveyed.surveyed in
    let d = c.in_err-check_healed.field-0.0 in
    let first : IsFirstUnhealed c.args.image.now d =
    first_unhealed c.args.image.now c.blocks-2.ensures.whole s c.in_ok-surveyed.ensures d
    (subst (λ (ds : List Damage). IsFirstOf s.survey.uses ds d) (c.as_slice.ensures ∙ c.in_ok-faults.ensures) c.in_err-check_healed.ensures)
    in
    passed (λ (r : Result Surveyed MendFault). IfErr r (IsMendFault c.args.image.now)) c.from_residual-in_err-check_healed.result (faults.Damaged d) c.from_residual-in_err-check_healed.ensures.1 first

pub returns-clause-mendable : goal.returns-clause-mendable
returns-clause-mendable g c =
    let s = c.in_ok-surveyed.surveyed in
    mendable c.args.image.now c.blocks-2.ensures.whole s c.in_ok-surveyed.ensures
    (subst (λ (ds : List Damage). AreHealed s.survey.uses ds (length ds)) (c.as_slice.ensures ∙ c.in_ok-faults.ensures) c.in_ok-check_healed.ensures) c.blocks-2.ensures.most
