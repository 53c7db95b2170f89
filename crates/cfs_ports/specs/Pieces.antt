-- How a line is gathered: pieces of what is held, and what is held after a read.
use Rattle.std.specs.Prelude.{◌≡◌, ◌<◌, ◌≤◌, Bool, true, false, List, ℕ, [], ◌∷◌, ◌++◌, length}
use Rattle.cfs_base.specs.Outside.{Rose}
use Rattle.cfs_streams.specs.Reading.{Gave, IsAtEnd}
use Rattle.cfs_ports.specs.declared.lines.TheConstants.{CHUNK}
use Rattle.cfs_ports.specs.Lines.{LinesReading, is_within_line}
use Rattle.ufs_model.specs.Script.{LF}

-- what stood after a piece: the LF and what is held from now on, or nothing
abbrev pub after_piece : Bool → List ℕ → List ℕ
after_piece true held = LF ∷ held
after_piece false held = []

-- what was held up to the first LF was put at the line's end, or all of it
pub record TakesPiece (old new : LinesReading) (whole : Bool) : Type 0 where
  pub piece : List ℕ
  pub within : is_within_line piece ≡ true
  pub line : new.line ≡ old.line ++ piece
  pub split : old.held ≡ piece ++ after_piece whole new.held
  pub rest : whole ≡ false → new.held ≡ []
  pub supply : new.supply ≡ old.supply
  pub ended : new.ended ≡ old.ended

-- what a read gave is held: some bytes, or none where the source had ended
pub record HoldsMore (old new : LinesReading) : Type 0 where
  pub line : new.line ≡ old.line
  pub gave : Gave old.supply new.supply new.held
  pub fits : length new.held ≤ CHUNK
  pub some : new.ended ≡ false → 0 < length new.held
  pub none : new.ended ≡ true → (new.held ≡ []) × IsAtEnd old.supply

-- a read failed, and gave nothing
pub record HoldsNothing (old new : LinesReading) : Type 0 where
  pub line : new.line ≡ old.line
  pub gave : Gave old.supply new.supply []
  pub failed : Rose old.supply.faults new.supply.faults
