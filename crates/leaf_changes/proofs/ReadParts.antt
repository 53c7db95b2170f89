-- A part of a file, read leaf by leaf.
use Rattle.std.proofs.Common.{◌≡◌, inl, inr, ℕ, ◌+◌, ◌-◌, ◌*◌, ◌/◌, ◌%◌, ◌<◌, ◌≤◌, List, length, get_or, take, drop, slice_range, Option, sym, ◌∙◌, arith}
use Rattle.leaf_changes.proofs.Words.{File, GivesFile, Held, IsReadTo, Root, cases_lt, ext_get_or, get_or-drop, get_or-take, leaf_content, leaves_in, length-drop, length-take, with_leaf_copied}
use Rattle.leaf_changes.proofs.Overlays.{length-overlaid, laid, before}
use Rattle.leaf_changes.proofs.Contents.{length-leaf_content}

module _ (fill : ℕ) (leaf : ℕ → Option Held) (offset : ℕ) (part : List ℕ) where
  -- the bytes of one leaf more
  pub read_more : (n : ℕ) → IsReadTo n fill leaf offset part → IsReadTo (n + 1) fill leaf offset (with_leaf_copied n (leaf_content fill (leaf n)) offset part)
  read_more n read k inside early = elim (cases_lt (offset + k) (512 * n)) [
    | inl had ↦ before offset part (512 * n) content k within had ∙ read k within had
    | inr here ↦
        let at : n ≡ (offset + k) / 512 = omega arith in
        let place : offset + k - 512 * n ≡ (offset + k) % 512 = omega arith in
        laid offset part (512 * n) content k within here (omega (arith, length-leaf_content fill (leaf n)))
        ∙ λ i. get_or (leaf_content fill (leaf (at i))) (place i) 0
  ]
    where
      content : List ℕ
      content = leaf_content fill (leaf n)

      within : k < length part
      within = omega (arith, length-overlaid offset part (512 * n) content)

-- once the last leaf is read
pub read_all : (root : Root) (leaf : ℕ → Option Held) (f : File) (offset : ℕ) (part : List ℕ) → GivesFile root leaf f → offset + length part ≤ root.size
    → IsReadTo (leaves_in (offset + length part)) root.fill leaf offset part → part ≡ slice_range f.bytes offset (offset + length part)
read_all root leaf f offset part gives inside read =
    ext_get_or 0 part (take (offset + length part - offset) (drop offset f.bytes)) (omega (arith, length-take (offset + length part - offset) (drop offset f.bytes), length-drop offset f.bytes, gives.size))
    (λ k below.
    read k below (omega arith) ∙ sym (gives.bytes (offset + k) (omega arith))
    ∙ sym (get_or-drop offset f.bytes k 0) ∙ sym (get_or-take (offset + length part - offset) (drop offset f.bytes) k 0 (omega arith)))
