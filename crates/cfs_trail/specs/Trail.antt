-- A trail: its events in their order, the moment of each, and how many more it has room for.
use Rattle.std.specs.Prelude.{ℕ, List}
use Rattle.ufs_model.specs.declared.asked.Event.{Event}

pub record Recorded : Type 0 where
  pub events : List Event
  pub moments : List ℕ
  pub room : ℕ
