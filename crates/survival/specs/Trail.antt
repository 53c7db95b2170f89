-- What a crash leaves of a whole run.
use Rattle.std.specs.Prelude.{◌≡◌, ℕ, ◌+◌, ◌≤◌, ◌<◌, List, length, get_or}
use Rattle.cfs_base.specs.Disk.{Image}
use Rattle.cfs_base.specs.Run.{left_now}
use Rattle.cfs_base.specs.declared.disk.Disk.{Ghosts}
use Rattle.ufs_model.specs.declared.asked.Event.{Event}
use Rattle.ufs_model.specs.Graph.{Graph}
use Rattle.vol_image.specs.Survives.{Survives}

-- the image survives some prefix of the trail, of at least k events
pub record SurvivesFrom (image : Image) (seed : ℕ) (g : Graph) (trail : List Event) (k : ℕ) : Type 0 where
  pub events : ℕ
  pub more : k ≤ events
  pub most : events ≤ length trail
  pub survives : Survives image seed g trail events

-- A run has marks: the moment at which it began, and that at which each event was recorded. They never fall. What a
-- crash leaves at a moment since the k-th mark survives at least k events, and what a crash leaves now survives the
-- whole trail.
pub record RunSurvives {D : Type 0} (g : Ghosts D) (seed : ℕ) (opened : Graph) (trail : List Event) (marks : List ℕ)
    (d : D) : Type 0 where
  pub count : length marks ≡ length trail + 1
  pub past : (k : ℕ) → k < length marks → get_or marks k 0 ≤ g.moment d
  pub rising : (k : ℕ) → k + 1 < length marks → get_or marks k 0 ≤ get_or marks (k + 1) 0
  pub each : (k : ℕ) → k ≤ length trail → (c : Image) → g.left_since d (get_or marks k 0) c
      → SurvivesFrom c seed opened trail k
  pub now : (c : Image) → left_now g d c → Survives c seed opened trail (length trail)
