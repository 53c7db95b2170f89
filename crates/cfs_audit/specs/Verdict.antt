-- What a verdict says of a text.
use Rattle.std.specs.Prelude.{◌≡◌, ◌≢◌, ◌⊎◌, ℕ, ◌+◌, true, List, [], ◌++◌, length, Some, None}
use Rattle.std.specs.List.{list_all}
use Rattle.cfs_base.specs.declared.identifier.Puid.{Puid}
use Rattle.ufs_model.specs.Word.{word}
use Rattle.ufs_model.specs.Graph.{fresh_graph}
use Rattle.ufs_model.specs.State.{State}
use Rattle.ufs_model.specs.Next.{next}
use Rattle.ufs_model.specs.Run.{replay}
use Rattle.ufs_model.specs.declared.asked.Event.{Event}
use Rattle.trail_text.specs.declared.ends.Opening.{Opening}
use Rattle.trail_text.specs.EventLine.{event_line, fits, in_8}
use Rattle.trail_text.specs.Trail.{begun, ended, opening_fits, opening_line, status_line}
use Rattle.cfs_audit.specs.declared.trail.Verdict.{Verdict}
use Rattle.cfs_audit.specs.declared.trail.Verdict.TheVariants as verdicts

-- the root of a run: block 2, with the first word of the seed
abbrev pub root_of : ℕ → Puid
root_of seed = record { block = 2; word = word seed 0 }

-- the text begins with a first line and the lines of events that fit and may happen one after another
pub record IsFollowed (text rest : List ℕ) (o : Opening) (events : List Event) (s : State) : Type 0 where
  pub opened : opening_fits o ≡ true
  pub is : text ≡ begun o events ++ rest
  pub fitting : list_all fits events ≡ true
  pub allowed : replay o.seed (fresh_graph (root_of o.seed)) events ≡ Some s

-- what follows begins neither with the line of an event nor with a last line that ends it
pub record IsBad (rest : List ℕ) : Type 0 where
  pub no_event : (event : Event) (more : List ℕ) → fits event ≡ true → rest ≢ ended (event_line event) ++ more
  pub no_status : (n : ℕ) → in_8 n ≡ true → rest ≢ ended (status_line n)

-- the text has no first line
abbrev pub IsUnopened : List ℕ → Type 0
IsUnopened text = (o : Opening) (more : List ℕ) → opening_fits o ≡ true → text ≢ ended (opening_line o) ++ more

-- How the text goes on after `count` events, which may happen up to this state: with a last line that ends it, with
-- an event that may not happen, or with a line that a trail doesn't have there.
abbrev pub EndsIn : (seed : ℕ) → State → (rest : List ℕ) → (count : ℕ) → Verdict → Type 0
EndsIn seed s rest count (verdicts.Legal n) =
    (status : ℕ) × (in_8 status ≡ true) × (rest ≡ ended (status_line status)) × (n ≡ count)
EndsIn seed s rest count (verdicts.Illegal n) =
    (event : Event) × (more : List ℕ) × (fits event ≡ true) × (rest ≡ ended (event_line event) ++ more)
    × (next seed s event ≡ None) × (n ≡ count + 1)
EndsIn seed s rest count (verdicts.BadLine n) = IsBad rest × (n ≡ count + 2)

-- the text has a first line, and events that may happen, as far as the verdict says
pub record HasVerdict (text : List ℕ) (verdict : Verdict) : Type 0 where
  pub o : Opening
  pub events : List Event
  pub s : State
  pub rest : List ℕ
  pub followed : IsFollowed text rest o events s
  pub ends : EndsIn o.seed s rest (length events) verdict

-- a legal trail of `count` events
abbrev pub IsLegal : List ℕ → (count : ℕ) → Type 0
IsLegal text count = HasVerdict text (verdicts.Legal count)

abbrev pub IsVerdict : List ℕ → Verdict → Type 0
IsVerdict text (verdicts.Legal count) = IsLegal text count
IsVerdict text (verdicts.Illegal place) = HasVerdict text (verdicts.Illegal place)
IsVerdict text (verdicts.BadLine line) = (IsUnopened text × (line ≡ 1)) ⊎ HasVerdict text (verdicts.BadLine line)

-- a line after `count` events that is no event's: it is the last, with nothing after it, or it is bad
abbrev pub IsLastLine : (line rest : List ℕ) → (count : ℕ) → Verdict → Type 0
IsLastLine line rest count (verdicts.Legal n) =
    (status : ℕ) × (in_8 status ≡ true) × (line ≡ status_line status) × (rest ≡ []) × (n ≡ count)
IsLastLine line rest count (verdicts.Illegal n) = ⊥
IsLastLine line rest count (verdicts.BadLine n) =
    ((status : ℕ) → in_8 status ≡ true → line ≡ status_line status → rest ≢ []) × (n ≡ count + 2)
