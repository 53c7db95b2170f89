-- The text of a whole trail.
use Rattle.std.specs.Prelude.{ℕ, Bool, not, ◌&&◌, ◌==◌, nat_lt, nat_le, refl, List, [], ◌∷◌, ◌++◌, codes}
use Rattle.std.specs.List.{flat_map, list_all}
use Rattle.ufs_model.specs.Script.{LF}
use Rattle.ufs_model.specs.declared.asked.Event.{Event}
use Rattle.trail_text.specs.declared.ends.Opening.{Opening}
use Rattle.trail_text.specs.EventLine.{Code, Number, Row, Small, event_line, in_64, row_line, row_with}

-- the first line, for 1 to 1,024 cylinders, and the last
abbrev pub opening_row : Opening → Row
opening_row o = row_with (codes "trail") refl (Small o.cylinders ∷ Number o.seed ∷ [])

abbrev pub opening_line : Opening → List ℕ
opening_line o = row_line (opening_row o)

abbrev pub opening_fits : Opening → Bool
opening_fits o = nat_lt 0 o.cylinders && nat_le o.cylinders 1024 && in_64 o.seed

abbrev pub status_row : ℕ → Row
status_row status = row_with (codes "status") refl (Code status ∷ [])

abbrev pub status_line : ℕ → List ℕ
status_line status = row_line (status_row status)

-- there is no line's end in it
abbrev pub has_no_end : List ℕ → Bool
has_no_end text = list_all (λ c. not (c == LF)) text

-- a line with its end
abbrev pub ended : List ℕ → List ℕ
ended line = line ++ LF ∷ []

-- the first line and the lines of these events
abbrev pub begun : Opening → List Event → List ℕ
begun o events = ended (opening_line o) ++ flat_map (λ e. ended (event_line e)) events

abbrev pub printed_trail : Opening → List Event → ℕ → List ℕ
printed_trail o events status = begun o events ++ ended (status_line status)
