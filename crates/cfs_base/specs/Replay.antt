-- Calls of a disk that were kept with their moments, made again. They change a state.
use Rattle.std.specs.Prelude.{ℕ, ◌≤◌, ◌&&◌, Bool, true, false, nat_lt, if◌then◌else◌, List, [], ◌∷◌}
use Rattle.cfs_base.specs.Disk.{Image}

module _ {K S : Type 0} (moment : K → ℕ) (made : K → S → S) where
  -- the state after a call, if that was made before moment t
  abbrev pub after_before : ℕ → K → S → S
  after_before t call s = if nat_lt (moment call) t then made call s else s

  -- the state at moment t, after the calls made before it
  abbrev pub replay : S → ℕ → List K → S
  replay s t [] = s
  replay s t (call ∷ later) = replay (after_before t call s) t later

  -- a property that each call keeps is kept by all
  pub replay_keeps : (P : S → Type 0) → ((call : K) (s : S) → P s → P (made call s)) →
      (s : S) (t : ℕ) (calls : List K) → P s → P (replay s t calls)
  replay_keeps P keeps s t [] h = h
  replay_keeps P keeps s t (call ∷ later) h =
      let one : P (after_before t call s) = elim (nat_lt (moment call) t) as (λ b. P (if b then made call s else s)) [
        | true ↦ keeps call s h
        | false ↦ h
      ] in
      replay_keeps P keeps (after_before t call s) t later one

-- each call was made before moment t
abbrev pub all_before : {K : Type 0} → (K → ℕ) → ℕ → List K → Bool
all_before moment t [] = true
all_before moment t (call ∷ later) = nat_lt (moment call) t && all_before moment t later

-- an image that a crash at some moment from t to now may leave: an image of the state at that moment
abbrev pub Left : {S : Type 0} → (S → Image → Type 0) → (ℕ → S) → ℕ → ℕ → Image → Type 0
Left IsImage state_at now t c = (m : ℕ) × (t ≤ m) × (m ≤ now) × IsImage (state_at m) c
