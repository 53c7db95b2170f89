-- The sizes of what is kept of a volume of this size.
use Rattle.std.specs.Prelude.{◌≡◌, ℕ, ◌*◌, Bool, List, length}
use Rattle.cfs_check.specs.declared.uses.Use.{Use}

pub record IsSurveyOf (marks : List Bool) (of : List Use) (blocks : ℕ) : Type 0 where
  pub marks_size : length marks ≡ 12 * blocks
  pub uses_size : length of ≡ blocks
