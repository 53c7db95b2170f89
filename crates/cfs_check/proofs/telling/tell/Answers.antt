use Rattle.std.proofs.Common.{◌≡◌, ◌≢◌, ◌∙◌, ℕ, ◌*◌, [], List, ◌∷◌, length, true, false, ◌==◌, sym, ap, subst, refl, arith}
use Rattle.std.proofs.lemmas.Bool.{eqb-true}
use Rattle.cfs_base.specs.Disk.{Image as Content}
use Rattle.cfs_base.specs.declared.refusal.Damage.{Damage}
use Rattle.vol_image.specs.Fault.{HasLabel}
use Rattle.vol_image.specs.Faults.{AreFaultsOf}
use Rattle.vol_label.specs.declared.label.Label.{Label}
use Rattle.cfs_recover.proofs.Shown.{one_label}
use Rattle.cfs_check.specs.Checked.{IsSoundWith}
use Rattle.cfs_check.specs.Surveyed.{IsSurveyed}
use Rattle.cfs_check.specs.declared.survey.Surveyed.{Surveyed}
use Rattle.cfs_check.proofs.Rise.{listed_faults, none_listed_none}
use Rattle.cfs_check.proofs.Soundness.{sound_with}
use Rattle.cfs_check.proofs.telling.tell.Goals as goal

sized : (image : Content) (s : Surveyed) (is : IsSurveyed image s) (l : Label) → HasLabel image l → 64 * l.cylinders ≡ length image
sized image s is l has = ap (λ (m : Label). 64 * m.cylinders) (one_label image l is.whole.label has is.whole.has) ∙ is.size

empty : (ds : List Damage) → (length ds == 0) ≡ true → ds ≡ []
empty [] is = refl
empty (d ∷ ds) is = absurd (let none = eqb-true (length (d ∷ ds)) 0 is in omega (arith, none))

some : (ds : List Damage) → (length ds == 0) ≡ false → ds ≢ []
some ds is none = let no : true ≡ false = sym (ap (λ (xs : List Damage). length xs == 0) none) ∙ is in cc

pub returns-then-not-is_empty : goal.returns-then-not-is_empty
returns-then-not-is_empty c image labelled surveyed whole = (
  labelled,
  some c.in_ok-faults.faults (ap (λ (ds : List Damage). length ds == 0) (sym c.as_slice.ensures) ∙ sym c.is_empty.ensures ∙ c.if-not-is_empty.true),
  subst (AreFaultsOf image) (sym c.in_ok-faults.ensures) (listed_faults image c.args.surveyed.now.survey.marks surveyed.faults (sized image c.args.surveyed.now surveyed)),
)

pub returns : goal.returns
returns c image labelled surveyed whole =
    let none = empty c.in_ok-faults.faults (ap (λ (ds : List Damage). length ds == 0) (sym c.as_slice.ensures) ∙ sym c.is_empty.ensures ∙ c.if-not-is_empty.false) in
    let s = c.args.surveyed.now.survey in
    subst (λ (n : ℕ). IsSoundWith image n c.left.result) (sym c.count.ensures.count)
    (subst (λ (n : ℕ). IsSoundWith image (length s.roots.blocks) n) (sym c.left.ensures)
    (sound_with image whole s surveyed.whole surveyed.size (none_listed_none image s.marks surveyed.faults (sym c.in_ok-faults.ensures ∙ none)) c.count.ensures.once))
