-- Lines that come one by one from a source, while replies go to a sink.
use Rattle.std.specs.Prelude.{◌≡◌, ℕ, ◌+◌, ◌<◌, ◌==◌, Bool, true, false, not, List, [], ◌∷◌, ◌++◌, length, map}
use Rattle.std.specs.Prelude.{filter, Some}
use Rattle.std.specs.List.{list_all}
use Rattle.cfs_base.specs.Outside.{Intake, Rose, Supply}
use Rattle.cfs_streams.specs.Reading.{Gave}
use Rattle.cfs_streams.specs.Writing.{Wrote}
use Rattle.ufs_model.specs.declared.asked.Event.{Event}
use Rattle.ufs_model.specs.Limits.{most_line}
use Rattle.ufs_model.specs.Printed.{printed_replies}
use Rattle.ufs_model.specs.Script.{LF, is_request_line, without_cr}
use Rattle.ufs_model.specs.Turns.{is_turn_of}
use Rattle.cfs_ports.specs.declared.lines.LineFault.{LineFault}
use Rattle.cfs_ports.specs.declared.lines.LineFault.TheVariants as faults

-- ---- whole lines

-- each with the LF that ends it
abbrev pub joined_lines : List (List ℕ) → List ℕ
joined_lines [] = []
joined_lines (line ∷ lines) = line ++ LF ∷ joined_lines lines

-- it has no LF
abbrev pub is_within_line : List ℕ → Bool
is_within_line bytes = list_all (λ c. not (c == LF)) bytes

-- those of some lines that are request lines
abbrev pub asking_lines : List (List ℕ) → List (List ℕ)
asking_lines lines = filter is_request_line (map without_cr lines)

-- ---- what was answered

-- A source gave whole lines and then these bytes, and a sink took a reply to each of the request lines among them.
pub record HasAnsweredLines (session : ℕ) (source : Supply) (sink : Intake) (source_now : Supply) (sink_now : Intake)
    (held : List ℕ) : Type 0 where
  pub lines : List (List ℕ)
  pub whole : list_all is_within_line lines ≡ true
  pub gave : Gave source source_now (joined_lines lines ++ held)
  pub turns : List Event
  pub mine : list_all (is_turn_of session) turns ≡ true
  pub each : length turns ≡ length (asking_lines lines)
  pub replied : Wrote sink sink_now (printed_replies session turns)

-- each whole line that the source gave has its reply in the sink, if it is a request line
pub record IsCaughtUp (session : ℕ) (source : Supply) (sink : Intake) (source_now : Supply) (sink_now : Intake)
    : Type 0 where
  pub begun : List ℕ
  pub within : is_within_line begun ≡ true
  pub answered : HasAnsweredLines session source sink source_now sink_now begun

-- ---- the lines of a source

-- what is known of the source; the line that came last, without its end; what came after it; and whether the source
-- has ended
pub record LinesReading : Type 0 where
  pub supply : Supply
  pub line : List ℕ
  pub held : List ℕ
  pub ended : Bool

-- a whole line came, with its LF
pub record TakesWholeLine (old new : LinesReading) : Type 0 where
  pub read : List ℕ
  pub gave : Gave old.supply new.supply read
  pub split : old.held ++ read ≡ new.line ++ LF ∷ new.held
  pub within : is_within_line new.line ≡ true
  pub goes_on : new.ended ≡ false

-- The source ended, and what it gave after the last LF is the last line. Where it hadn't ended before and tells its
-- bytes, what was read is all that it had left.
pub record TakesLastLine (old new : LinesReading) : Type 0 where
  pub read : List ℕ
  pub gave : Gave old.supply new.supply read
  pub split : old.held ++ read ≡ new.line
  pub within : is_within_line new.line ≡ true
  pub over : (new.held ≡ []) × (new.ended ≡ true)
  pub at_end : old.ended ≡ false → (left : List ℕ) → old.supply.left ≡ Some left → left ≡ read

-- a read failed in the middle of a line; or the line has more bytes than the longest and a CR
abbrev pub IsLineFault : LineFault → (old new : Supply) (begun more : List ℕ) → Type 0
IsLineFault faults.Failed old new begun more = (more ≡ []) × Rose old.faults new.faults
IsLineFault faults.Long old new begun more = most_line + 1 < length begun

-- no line came
pub record RefusesLine (old new : LinesReading) (fault : LineFault) : Type 0 where
  pub read : List ℕ
  pub gave : Gave old.supply new.supply read
  pub begun : List ℕ
  pub more : List ℕ
  pub split : old.held ++ read ≡ begun ++ more
  pub within : is_within_line begun ≡ true
  pub why : IsLineFault fault old.supply new.supply begun more
