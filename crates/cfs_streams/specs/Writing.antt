-- What a sink has taken of a text.
use Rattle.std.specs.Prelude.{◌≡◌, ℕ, ◌≤◌, List, ◌++◌, take, Some, Result, MatchResult}
use Rattle.cfs_base.specs.Outside.{Intake, Rose}

-- the sink has taken all of the text, after what it had, if it tells that
pub record Wrote (old new : Intake) (text : List ℕ) : Type 0 where
  pub kept : old.faults ≤ new.faults
  pub whole : (taken : List ℕ) → old.taken ≡ Some taken → new.taken ≡ Some (taken ++ text)

-- the sink failed, and has taken some of the text's beginning
pub record WroteSome (old new : Intake) (text : List ℕ) : Type 0 where
  pub kept : old.faults ≤ new.faults
  pub failed : Rose old.faults new.faults
  pub some : (taken : List ℕ) → old.taken ≡ Some taken → (n : ℕ) × (new.taken ≡ Some (taken ++ take n text))

-- a text was written whole, or else the sink failed
abbrev pub WritesWhole : {T E : Type 0} → Intake → Intake → List ℕ → Result T E → Type 0
WritesWhole old new text result = MatchResult result (λ _. Wrote old new text) (λ _. WroteSome old new text)
