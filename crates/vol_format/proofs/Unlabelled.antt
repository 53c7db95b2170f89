-- What a crash leaves while the label is away.
use Rattle.std.proofs.Common.{◌≡◌, List, ℕ, get_or, sym, ◌∙◌, ap, arith}
use Rattle.cfs_base.specs.Disk.{Image}
use Rattle.vol_label.specs.Label.{spelling}
use Rattle.vol_format.specs.Fresh.{IsBlank, MayBeFresh}

-- zeros are no label
pub blank_is_no_volume : (word : ℕ) (c : Image) → IsBlank c → MayBeFresh word c
unfolding spelling
blank_is_no_volume word c blank (g, sound) =
    let first : 0 ≡ 67 = ap (λ (b : List ℕ). get_or b 0 0) (sym blank ∙ sound.holds.label.spelled) in absurd (omega (arith, first))
