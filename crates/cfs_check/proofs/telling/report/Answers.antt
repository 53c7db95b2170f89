use Rattle.std.proofs.Common.{◌≡◌, ◌≢◌, ◌∙◌, ◌*◌, ◌∷◌, [], List, length, sym, subst}
use Rattle.cfs_base.specs.declared.refusal.Damage.{Damage}
use Rattle.vol_image.specs.Faults.{AreFaultsOf}
use Rattle.cfs_recover.specs.Entries.{damage}
use Rattle.cfs_check.proofs.Ground.{size_alone}
use Rattle.cfs_check.proofs.telling.report.Goals as goal

-- one is not none
one_some : (d : Damage) (ds : List Damage) → ds ≡ d ∷ [] → ds ≢ []
one_some d ds is none = let no : d ∷ [] ≡ [] = sym is ∙ none in cc

pub returns-then-label-blocks : goal.returns-then-label-blocks
returns-then-label-blocks g c =
    let image = c.args.image.now in
    let label = c.in-Ok.label in
    let differ : 64 * label.cylinders ≢ length image = λ same. c.if-label-blocks.true (same ∙ sym c.blocks-2.ensures.is) in (
      record { long = c.in-Ok.ensures.long; label = label; has = c.in-Ok.ensures.told },
      one_some (damage 1 1) _ c.in_ok-tell_size.ensures,
      subst (AreFaultsOf image) (sym c.in_ok-tell_size.ensures) (size_alone image label c.in-Ok.ensures.told differ),
    )
