-- A log that grows at its end.
use Rattle.std.specs.Prelude.{◌≡◌, ◌⊎◌, List, [], ◌∷◌, ◌++◌}

-- the log is as it was, or has one more entry
abbrev pub AddsAtMostOne : {A : Type 0} → List A → List A → Type 0
AddsAtMostOne {A} old new = (new ≡ old) ⊎ ((entry : A) × (new ≡ old ++ entry ∷ []))
