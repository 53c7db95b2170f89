-- The roots that recovery copies, as a walk notes them.
use Rattle.std.specs.Prelude.{◌≡◌, ◌≢◌, ◌⊎◌, ℕ, zero, suc, ◌+◌, ◌<◌, cond, nat_eq, drop, List, [], ◌∷◌, ◌++◌, length}
use Rattle.std.specs.Prelude.{slice_get, Option, Some, None}
use Rattle.std.specs.Int.{to_be_bytes, w32, w64}
use Rattle.std.specs.List.{flat_map}
use Rattle.cfs_base.specs.Disk.{Image, block_at}
use Rattle.block_tree.specs.declared.root.Root.{Root}
use Rattle.block_tree.specs.Root.{IsRootBlock}
use Rattle.vol_image.specs.Sight.{source}
use Rattle.cfs_recover.specs.declared.copies.Copied.{Copied}
pub use Rattle.cfs_recover.specs.declared.copies.Piece.{Piece}
use Rattle.cfs_recover.specs.declared.found.Found.{Found}

-- there is a copy for this root block
abbrev pub HasCopy : List Copied → ℕ → Type 0
HasCopy copies r = (k : ℕ) × (c : Copied) × (slice_get copies k ≡ Some c) × (c.block ≡ r)

-- Each is the root by which the object of an item is read, if that root is elsewhere than in the root block. Of the
-- first `done` items each such item has one, and no two are for one root block.
pub record AreCopies (image : Image) (found : List Found) (done : ℕ) (copies : List Copied) : Type 0 where
  pub each : (k : ℕ) (c : Copied) → slice_get copies k ≡ Some c
      → IsRootBlock (block_at image (source image c.block)) c.root
  pub listed : (k : ℕ) (c : Copied) → slice_get copies k ≡ Some c
      → (j : ℕ) × (x : Found) × (slice_get found j ≡ Some x) × (x.block ≡ c.block) × (j < done)
  pub elsewhere : (k : ℕ) (c : Copied) → slice_get copies k ≡ Some c → source image c.block ≢ c.block
  pub once : (j k : ℕ) (c d : Copied) → slice_get copies j ≡ Some c → slice_get copies k ≡ Some d → c.block ≡ d.block
      → j ≡ k
  pub all : (j : ℕ) (x : Found) → j < done → slice_get found j ≡ Some x
      → (source image x.block ≡ x.block) ⊎ HasCopy copies x.block

-- ---- what is kept of them: five bytes for each root and each of its nodes

abbrev pub node_piece : ℕ → ℕ → Piece
node_piece number block = record { number = number; bytes = to_be_bytes w32 block }

-- the fill byte, and the last three bytes of the size
abbrev pub head_piece : Root → Piece
head_piece root = record { number = 255; bytes = root.fill ∷ drop 5 (to_be_bytes w64 root.size) }

-- a node with a number, if the root leads to one
abbrev pub piece_at : ℕ → ℕ → List Piece
piece_at number zero = []
piece_at number (suc n) = node_piece number (suc n) ∷ []

-- nodes from a number on
unfoldable pub node_pieces : ℕ → List ℕ → List Piece
node_pieces number [] = []
node_pieces number (n ∷ ns) = piece_at number n ++ node_pieces (number + 1) ns

abbrev pub pieces_of : Root → List Piece
pieces_of root = head_piece root ∷ node_pieces 0 root.nodes

abbrev pub all_pieces : List Copied → List Piece
all_pieces copies = flat_map (λ c. pieces_of c.root) copies

-- the first piece, if there is one, has another number, or it begins a root
abbrev pub BeginsWithout : ℕ → List Piece → Type 0
BeginsWithout number pieces = (p : Piece) (rest : List Piece) → pieces ≡ p ∷ rest → p.number ≢ number

abbrev pub BeginsAnew : List Piece → Type 0
BeginsAnew pieces = (p : Piece) (rest : List Piece) → pieces ≡ p ∷ rest → p.number ≡ 255

-- how many of the first items are read from elsewhere
abbrev pub copies_for : Image → Option Found → ℕ
copies_for image None = 0
copies_for image (Some x) = cond (nat_eq (source image x.block) x.block) 0 1

unfoldable pub copies_before : Image → List Found → ℕ → ℕ
copies_before image found zero = 0
copies_before image found (suc k) = copies_before image found k + copies_for image (slice_get found k)

-- These pieces are those of the copies, which are in the order of the list.
pub record AreKeptPieces (image : Image) (found : List Found) (done : ℕ) (pieces : List Piece)
    (copies : List Copied) : Type 0 where
  pub are : AreCopies image found done copies
  pub spelled : pieces ≡ all_pieces copies
  pub count : length copies ≡ copies_before image found done
  pub placed : (k : ℕ) (x : Found) → k < done → slice_get found k ≡ Some x → source image x.block ≢ x.block
      → (c : Copied) × (slice_get copies (copies_before image found k) ≡ Some c) × (c.block ≡ x.block)

abbrev pub HasKept : Image → List Found → ℕ → List Piece → Type 0
HasKept image found done pieces = (copies : List Copied) × AreKeptPieces image found done pieces copies
