-- What marks and rescues keep.
use Rattle.std.specs.Prelude.{ℕ, Bool, false, List, [], ◌∷◌, get_or, if◌then◌else◌, length, sum_by, Option, Some, None}
use Rattle.cfs_base.specs.declared.identifier.Puid.{Puid}
use Rattle.ufs_model.specs.Identifier.{same_puid}
use Rattle.ufs_model.specs.Need.{one_if}
use Rattle.marking.specs.declared.memory.Grey.{Grey}
use Rattle.marking.specs.declared.memory.Rescue.{Rescue}
use Rattle.marking.specs.Colours.{Colours}

-- for each block of the volume whether the object with this root block is marked, and the grey indices
pub record Marked : Type 0 where
  pub marks : List Bool
  pub grey : List Grey

-- nothing past the volume's end is marked
abbrev pub colours_of : Marked → Colours
colours_of m = record { marked = λ block. get_or m.marks block false; grey = m.grey }

abbrev pub blocks_marked : Marked → ℕ
blocks_marked m = length m.marks

-- the first place of an index, counted from the end of a list, or None if it isn't grey
abbrev pub place_among : List Grey → Puid → Option ℕ
place_among [] i = None
place_among (e ∷ es) i = if same_puid i e.id then Some (length es) else place_among es i

-- how many objects are marked
abbrev pub count_marked : List Bool → ℕ
count_marked marks = sum_by one_if marks

-- rescues, the oldest first, and for how many more there is room
pub record Waiting : Type 0 where
  pub list : List Rescue
  pub room : ℕ
