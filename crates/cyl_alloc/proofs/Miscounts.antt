-- A cylinder in which blocks are counted Free, and none is.
use Rattle.std.proofs.Common.{◌≡◌, ℕ, ◌/◌, ◌∙◌, inl, inr, length, get_or, ap, arith}
use Rattle.cyl_alloc.proofs.Words.{AreCounts, Image, IsMiscounted, Kept, cases_lt, free_in_cylinder, get_or_past}

-- of counts that are the image's no cylinder is one
pub no_miscount : {Told : Type 0} (image : Image) (kept : Kept) (n : ℕ) → Told → AreCounts image kept → ¬ IsMiscounted Told image kept n
no_miscount image kept n told counts is = elim (cases_lt (n / 64) (length kept.free)) [
  | inl lt ↦ omega (arith, is.counted, is.none told, counts.each (n / 64) lt)
  | inr le ↦ omega (arith, is.counted, get_or_past kept.free (n / 64) 0 le)
]

-- told by another disk, of the same image and counts
pub miscounted_as : {Told Now : Type 0} {image other : Image} {kept after : Kept} {n : ℕ} → (Now → Told) → other ≡ image → after ≡ kept → IsMiscounted Told image kept n → IsMiscounted Now other after n
miscounted_as {image = image} {other} {kept} {after} {n} on same counts is = record {
  map = is.map;
  counted = omega (arith, is.counted, ap (λ (k : Kept). get_or k.free (n / 64) 0) counts);
  none = λ tells. ap (λ (c : Image). free_in_cylinder c (n / 64)) same ∙ is.none (on tells);
}
