-- A disk of atomic blocks. Three blocks of the disk below keep block n: two halves, and a gate that says which of
-- them is shown.
use Rattle.std.specs.Prelude.{◌≡◌, ℕ, ◌+◌, ◌*◌, ◌/◌, Bool, ◌&&◌, IsTrue, if◌then◌else◌, nat_eq}
use Rattle.std.specs.Prelude.{List, [], length, get_or, map, set, replicate}
use Rattle.std.specs.List.{range_with_len}
use Rattle.cfs_base.specs.Disk.{Image, block_at}
use Rattle.pair_disk.specs.declared.half.Half.{Half}
use Rattle.pair_disk.specs.declared.half.Half.TheVariants.{First, Second}
use Rattle.pair_disk.specs.declared.torn_disk.TornDisk.{Ghosts}

-- where the halves of block n are
abbrev pub half_at : Half → ℕ → ℕ
half_at First n = 3 * n
half_at Second n = 3 * n + 1

-- where its gate is
abbrev pub gate_at : ℕ → ℕ
gate_at n = 3 * n + 2

abbrev pub other_half : Half → Half
other_half First = Second
other_half Second = First

-- A gate is open exactly if its byte 0 is 1. An open gate shows the second half, a closed one the first.
abbrev pub shown_by : List ℕ → Half
shown_by gate = if nat_eq (get_or gate 0 0) 1 then Second else First

-- the gate of zero bytes that shows this half
abbrev pub gate_for : Half → List ℕ
gate_for First = set (replicate 512 0) 0 0
gate_for Second = set (replicate 512 0) 0 1

-- which half of block n an image of the disk below shows, and what that half holds
abbrev pub shown_half_of : Image → ℕ → Half
shown_half_of below n = shown_by (block_at below (gate_at n))

abbrev pub shown_in : Image → ℕ → List ℕ
shown_in below n = block_at below (half_at (shown_half_of below n) n)

-- all blocks that it shows
unfoldable pub pairs_in : Image → Image
pairs_in below = map (shown_in below) (range_with_len 0 (length below / 3))

-- the content of the pair disk, if the disk below tells its own
abbrev pub pair_content : {T : Type 0} → Ghosts T → T → Image
pair_content g d = if g.honest d then pairs_in (g.content d) else []

-- the gate and the shown half of block n are told
abbrev pub tells_pair : {T : Type 0} → Ghosts T → T → ℕ → Bool
tells_pair g d n = g.told d (gate_at n) && g.told d (half_at (shown_half_of (g.content d) n) n)

-- the disk below tells its content and its images
abbrev pub tells_both : {T : Type 0} → Ghosts T → T → Bool
tells_both g d = g.honest d && g.tells_images d

-- an image of the pair disk that a crash at some moment since t may have left: an image of the disk below shows it
abbrev pub PairLeft : {T : Type 0} → Ghosts T → T → ℕ → Image → Type 0
PairLeft g d t c = IsTrue (tells_both g d) × ((below : Image) × g.left_since d t below × (c ≡ pairs_in below))

-- no write waits for a barrier on the disk below: all is told, and a crash leaves only its content
pub record IsFlushed {T : Type 0} (g : Ghosts T) (d : T) : Type 0 where
  pub told : IsTrue (g.honest d) → (n : ℕ) → IsTrue (g.told d n)
  pub only : IsTrue (g.tells_images d) → (c : Image) → g.left_since d (g.moment d) c → c ≡ g.content d
