-- Worked bytes, by computation.
use Rattle.std.specs.Prelude.{◌≡◌, [], ◌∷◌, take, refl}
use Rattle.vol_label.specs.declared.label.Label.{Label}
use Rattle.vol_label.specs.Label.{spelling}

-- one cylinder, and words drawn from seed 0
abbrev small : Label
small = record { version = 2; cylinders = 1; root = record { block = 2; word = 0xade0_b876 } }

small_volume : take 20 (spelling small) ≡
    0x43 ∷ 0x46 ∷ 0x53 ∷ 0x31
    ∷ 0 ∷ 0 ∷ 0 ∷ 2
    ∷ 0 ∷ 0 ∷ 0 ∷ 1
    ∷ 0 ∷ 0 ∷ 0 ∷ 2
    ∷ 0xad ∷ 0xe0 ∷ 0xb8 ∷ 0x76 ∷ []
unfolding spelling
small_volume = refl
