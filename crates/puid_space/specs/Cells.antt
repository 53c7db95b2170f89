-- The table of a directory: a cell for each block number, with the word and kind of the object that is rooted there.
use Rattle.std.specs.Prelude.{◌≡◌, ℕ, ◌+◌, ◌<◌, ◌^◌, List, [], ◌∷◌, length, Option, Some, None, slice_index_or}
use Rattle.cfs_base.specs.declared.identifier.Puid.{Puid}
use Rattle.cfs_base.specs.declared.kind.Kind.{Kind}
use Rattle.puid_space.specs.declared.directory.Cell.{Cell}

-- the identifiers in these cells; the first cell is this block's
abbrev pub listed : ℕ → List (Option Cell) → List (Puid × Kind)
listed block [] = []
listed block (None ∷ cells) = listed (block + 1) cells
listed block (Some cell ∷ cells) =
    (record { block = block; word = cell.word }, cell.kind) ∷ listed (block + 1) cells

-- the table holds as many identifiers as are counted, each of them fits its type, and so does the room
pub record IsTable (cells : List (Option Cell)) (count : ℕ) : Type 0 where
  pub counted : count ≡ length (listed 0 cells)
  pub room : length cells < 2 ^ 32
  pub words : (block : ℕ) (cell : Cell) → slice_index_or cells block None ≡ Some cell → cell.word < 2 ^ 32
