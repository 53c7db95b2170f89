-- What a call does to a disk: its content, its counts, and what a crash may leave of it.
use Rattle.std.specs.Prelude.{◌≡◌, ◌⊎◌, ℕ, ◌-◌, ◌^◌, ◌<◌, ◌≤◌, Bool, IsTrue, List, [], length, get_or, set}
use Rattle.cfs_base.specs.Outside.{count_after, Rose}

-- the blocks of a disk in their order, each the list of its bytes
abbrev pub Image : Type 0
Image = List (List ℕ)

-- the bytes of a block; no bytes for one past the last
abbrev pub block_at : Image → ℕ → List ℕ
block_at image n = get_or image n []

-- a block has 512 bytes, each below 256
pub record IsBlock (block : List ℕ) : Type 0 where
  pub long : length block ≡ 512
  pub bytes : (k : ℕ) → get_or block k 0 < 256

-- each block of an image has 512 bytes
abbrev pub AreBlocks : Image → Type 0
AreBlocks image = (n : ℕ) → n < length image → IsBlock (block_at image n)

-- no image
abbrev pub Nothing : Image → Type 0
Nothing c = ⊥

-- one of these images, with this block written
abbrev pub Written : (Image → Type 0) → ℕ → List ℕ → Image → Type 0
Written images at block c = (before : Image) × images before × (c ≡ set before at block)

-- these images are no other than this one
abbrev pub Only : Image → (Image → Type 0) → Type 0
Only image images = (c : Image) → images c → c ≡ image

-- the size stays, and so does whether the disk tells its content and its images
pub record IsSameDisk {D : Type 0} (blocks : D → ℕ) (honest tells_images : D → Bool) (old new : D) : Type 0 where
  pub size : blocks new ≡ blocks old
  pub honesty : honest new ≡ honest old
  pub telling : tells_images new ≡ tells_images old

-- A crash between old and new leaves only an image that it might have left before, or one that has P.
pub record LeavesOnly {D : Type 0} (moment : D → ℕ) (left_since : D → ℕ → Image → Type 0) (old new : D)
    (P : Image → Type 0) : Type 0 where
  -- the clock never falls
  pub later : moment old ≤ moment new
  -- a crash at some moment since t, up to now
  pub since : (t : ℕ) (c : Image) → t ≤ moment old → left_since new t c → left_since old t c ⊎ P c
  -- a crash now
  pub now : (c : Image) → left_since new (moment new) c → left_since old (moment old) c ⊎ P c

-- what a crash at some moment since t might have left before, it may still have left
abbrev pub KeepsLeft : {D : Type 0} → (D → ℕ) → (D → ℕ → Image → Type 0) → D → D → Type 0
KeepsLeft moment left_since old new = (t : ℕ) (c : Image) → t ≤ moment old → left_since old t c → left_since new t c

-- the counts after a read: one more call, and if it failed a later moment and one more fault
pub record CountsRead {D : Type 0} (moment calls tries faults : D → ℕ) (old new : D) (failed : Type 0) : Type 0 where
  pub clock : failed → Rose (moment old) (moment new)
  pub one_call : calls new ≡ count_after (calls old)
  pub no_try : tries new ≡ tries old
  pub no_fewer : faults old ≤ faults new
  pub cause : failed → Rose (faults old) (faults new)

-- the counts after a write or a barrier: one more call, one more try, a later moment, and one more fault if it failed
pub record CountsTry {D : Type 0} (moment calls tries faults : D → ℕ) (tells_images : D → Bool) (old new : D)
    (failed : Type 0) : Type 0 where
  pub clock : Rose (moment old) (moment new)
  pub one_call : calls new ≡ count_after (calls old)
  pub one_try : tries new ≡ count_after (tries old)
  pub no_fewer : faults old ≤ faults new
  pub cause : failed → Rose (faults old) (faults new)
  -- at the clock's last moment a disk that tells its images fails
  pub last : IsTrue (tells_images old) → moment old ≡ 2 ^ 64 - 1 → failed
