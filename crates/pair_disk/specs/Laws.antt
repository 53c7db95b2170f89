-- What the pair disk shows of an image has a third of its blocks, and has blocks of 512 bytes if the image has.
use Rattle.std.proofs.Common.{◌≡◌, ℕ, ◌/◌, ◌<◌, Bool, IsTrue, if◌then◌else◌, List, [], length}
use Rattle.std.proofs.Common.{sym, ◌∙◌, ap, subst, arith}
use Rattle.std.proofs.lemmas.List.FromFn.{length-map-range_with_len, get_or-map-range_with_len}
use Rattle.cfs_base.specs.Disk.{Image, AreBlocks, IsBlock, block_at}
use Rattle.pair_disk.specs.declared.half.Half.{Half}
use Rattle.pair_disk.specs.declared.half.Half.TheVariants.{First, Second}
use Rattle.pair_disk.specs.Pair.{half_at, pairs_in, shown_in, shown_half_of}

pub length-pairs : (below : Image) → length (pairs_in below) ≡ length below / 3
unfolding pairs_in
length-pairs below = length-map-range_with_len (shown_in below) 0 (length below / 3)

pub pairs-at : (below : Image) (n : ℕ) → n < length below / 3 → block_at (pairs_in below) n ≡ shown_in below n
unfolding pairs_in
pairs-at below n le = get_or-map-range_with_len (shown_in below) 0 (length below / 3) n n [] le (omega arith)

-- a half of a block is on the disk
pub half_on : (h : Half) (n size : ℕ) → n < size / 3 → half_at h n < size
half_on First n size le = omega arith
half_on Second n size le = omega arith

a_third : (below : Image) (size blocks : ℕ) → length below ≡ size → blocks ≡ size / 3 → length (pairs_in below) ≡ blocks
a_third below size blocks long third = length-pairs below ∙ ap (λ (k : ℕ). k / 3) long ∙ sym third

-- for a disk that tells its content
module _ (honest : Bool) (tells : IsTrue honest) where
  told_content : (P : Image → Type 0) (c : Image) → P c → P (if honest then c else [])
  told_content P c p = subst (λ (b : Bool). P (if b then c else [])) (sym tells) p

  pub pairs_sized : (below : Image) (size blocks : ℕ) → length below ≡ size → blocks ≡ size / 3 →
      length (if honest then pairs_in below else []) ≡ blocks
  pairs_sized below size blocks long third =
      told_content (λ c. length c ≡ blocks) (pairs_in below) (a_third below size blocks long third)

  pub pairs_of_blocks : (below : Image) → AreBlocks below → AreBlocks (if honest then pairs_in below else [])
  pairs_of_blocks below are = told_content (λ c. AreBlocks c) (pairs_in below) (λ n le.
      let on : n < length below / 3 = omega (arith, le, length-pairs below) in
      let half : Half = shown_half_of below n in
      let P : List ℕ → Type 0 = IsBlock in
      subst P (sym (pairs-at below n on)) (are (half_at half n) (half_on half n (length below) on)))

pub shown_sized : (below c : Image) (size blocks : ℕ) → length below ≡ size → blocks ≡ size / 3 →
    c ≡ pairs_in below → length c ≡ blocks
shown_sized below c size blocks long third is =
    ap (λ (i : Image). length i) is ∙ a_third below size blocks long third
