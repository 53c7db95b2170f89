-- The leaves of an object: those that fit its size, and what a change does to them.
use Rattle.std.specs.Prelude.{◌≡◌, ◌≢◌, ℕ, ◌+◌, ◌*◌, ◌/◌, ◌%◌, ◌<◌, ◌≤◌, List, length, get_or, Option, Some, None}
use Rattle.cfs_base.specs.declared.identifier.Puid.{Puid}
use Rattle.block_tree.specs.declared.root.Root.{Root}
use Rattle.ufs_model.specs.Object.{leaves_in}
use Rattle.vol_image.specs.Seen.{Held}
use Rattle.vol_image.specs.Reading.{leaf_content}
use Rattle.leaf_changes.specs.Bytes.{patched, cut, with_slot}

-- the bytes of a leaf, if it is held
abbrev pub bytes_held : Option Held → Option (List ℕ)
bytes_held None = None
bytes_held (Some h) = Some h.content

-- byte k of all the leaves, one after another
abbrev pub leaf_byte : ℕ → (ℕ → Option Held) → ℕ → ℕ
leaf_byte fill leaf k = get_or (leaf_content fill (leaf (k / 512))) (k % 512) 0

-- no leaf is held at or past the size, and past the size a held leaf has fill bytes
pub record LeavesFit (root : Root) (leaf : ℕ → Option Held) : Type 0 where
  pub within : (n : ℕ) (h : Held) → leaf n ≡ Some h → n < leaves_in root.size
  pub filled : (n i : ℕ) (h : Held) → leaf n ≡ Some h → i < 512 → root.size ≤ 512 * n + i
      → get_or h.content i 0 ≡ root.fill

-- ---- what is done to leaves

-- these bytes are written at the offset, into those leaves that they touch and that are before `upto`: each is held
-- then
pub record WritesTo (upto fill offset : ℕ) (bytes : List ℕ) (old new : ℕ → Option Held) : Type 0 where
  pub before : (n : ℕ) → n < offset / 512 → bytes_held (new n) ≡ bytes_held (old n)
  pub here : (n : ℕ) → offset / 512 ≤ n → n < upto
      → bytes_held (new n) ≡ Some (patched n offset bytes (leaf_content fill (old n)))
  pub after : (n : ℕ) → upto ≤ n → bytes_held (new n) ≡ bytes_held (old n)

-- these bytes are written into all leaves that they touch
abbrev pub WritesLeaves : (fill offset : ℕ) (bytes : List ℕ) (old new : ℕ → Option Held) → Type 0
WritesLeaves fill offset bytes old new = WritesTo (leaves_in (offset + length bytes)) fill offset bytes old new

-- the bytes of a leaf that is cut, if it is held
abbrev pub cut_held : ℕ → ℕ → Option Held → Option (List ℕ)
cut_held size fill None = None
cut_held size fill (Some h) = Some (cut size fill (leaf_content fill (Some h)))

-- the leaves past a size are gone, and the leaf within which it ends is cut
pub record Shrinks (fill size : ℕ) (old new : ℕ → Option Held) : Type 0 where
  pub kept : (n : ℕ) → n < size / 512 → bytes_held (new n) ≡ bytes_held (old n)
  pub ends : size % 512 ≢ 0 → bytes_held (new (size / 512)) ≡ cut_held size fill (old (size / 512))
  pub gone : (n : ℕ) → leaves_in size ≤ n → new n ≡ None

-- the leaf of a slot has this in it, and is held, and all others stay
pub record FillsSlot (fill slot : ℕ) (what : Option Puid) (old new : ℕ → Option Held) : Type 0 where
  pub here : bytes_held (new (slot / 64)) ≡ Some (with_slot (slot % 64) what (leaf_content fill (old (slot / 64))))
  pub others : (n : ℕ) → n ≢ slot / 64 → bytes_held (new n) ≡ bytes_held (old n)

-- ---- what is read of leaves

-- a part of a file that begins at an offset has the file's bytes, as far as it lies in the leaves before `upto`
abbrev pub IsReadTo : ℕ → ℕ → (ℕ → Option Held) → ℕ → List ℕ → Type 0
IsReadTo upto fill leaf offset part =
    (k : ℕ) → k < length part → offset + k < 512 * upto → get_or part k 0 ≡ leaf_byte fill leaf (offset + k)
