-- The shadow roots that stand for an object, by the table; and how the object is read by them.
use Rattle.std.proofs.Common.{◌≡◌, ◌≢◌, ℕ, zero, suc, ◌<◌, ◌≤◌, Bool, true, false, if◌then◌else◌, List, [], ◌∷◌, length, get_or, refl, sym, ◌∙◌, ap, subst, arith}
use Rattle.std.specs.Prelude.{filter}
use Rattle.std.specs.List.{range_with_len}
use Rattle.cfs_base.specs.Disk.{Image, block_at}
use Rattle.block_tree.specs.Root.{IsRootBlock}
use Rattle.block_tree.specs.declared.root.Root.{Root}
use Rattle.cyl_map.specs.Volume.{entry_in}
use Rattle.vol_image.proofs.Unique.{one_root_block}
use Rattle.vol_image.specs.Fault.{IsSameSort, IsShownRoot, has_own_bit, one_or, reader}
unfoldable use Rattle.vol_image.specs.Fault.{standing}
use Rattle.vol_image.specs.Part.{part_at, stands_for}
use Rattle.cfs_recover.specs.Checks.{HasNoneLike}
use Rattle.cfs_recover.specs.Entries.{IsShadow, standing_below}
use Rattle.cfs_recover.specs.declared.standing.Shadow.{Shadow}
use Rattle.cfs_recover.specs.declared.standing.Shadow.TheVariants as shadow
use Rattle.cfs_check.specs.Opened.{IsStandingOf}

standing_on : (image : Image) (r : ℕ) → has_own_bit r (part_at image r) ≡ true → standing image r ≡ standing_below image (length image) r
unfolding standing
standing_on image r on = ap (λ (t : Bool). if t then filter (λ n. stands_for r (entry_in image n)) (range_with_len 0 (length image)) else []) on

pub standing_off : (image : Image) (r : ℕ) → has_own_bit r (part_at image r) ≡ false → standing image r ≡ []
unfolding standing
standing_off image r off = ap (λ (t : Bool). if t then filter (λ n. stands_for r (entry_in image n)) (range_with_len 0 (length image)) else []) off

-- what the table says is so, where the bit stands
pub stands_as : (image : Image) (table : List Shadow) (r : ℕ) (s : Shadow) → IsStandingOf image table → r < length image → s ≡ get_or table r shadow.None → has_own_bit r (part_at image r) ≡ true → IsShadow (standing image r) s
stands_as image table r s is below said on =
    subst (λ (t : Shadow). IsShadow (standing image r) t) (sym said)
    (subst (λ (ss : List ℕ). IsShadow ss (get_or table r shadow.None)) (sym (standing_on image r on)) (is.stand r (omega (arith, below, is.size))))

pub none_stands : (image : Image) (r : ℕ) → standing image r ≡ [] → ¬ (2 ≤ length (standing image r))
none_stands image r none many = omega (arith, many, ap (length {A = ℕ}) none)

pub one_stands : (image : Image) (r s : ℕ) → standing image r ≡ s ∷ [] → ¬ (2 ≤ length (standing image r))
one_stands image r s one many = omega (arith, many, ap (length {A = ℕ}) one)

pub many_stand : (r : ℕ) (ss : List ℕ) → 2 ≤ length ss → one_or r ss ≡ r
many_stand r [] many = absurd (omega arith)
many_stand r (s ∷ []) many = absurd (omega arith)
many_stand r (s ∷ t ∷ ss) many = refl

-- ---- a root is read by itself, or by a root like it

pub read_by_own : (image : Image) (r : ℕ) (own : Root) → reader image r ≡ r → IsRootBlock (block_at image r) own → IsShownRoot image r own
read_by_own image r own by spelled = record {
  own = own;
  own_spelled = spelled;
  spelled = subst (λ (n : ℕ). IsRootBlock (block_at image n) own) (sym by) spelled;
  same = record { kind = refl; word = refl };
}

pub read_by_none : (image : Image) (r : ℕ) (own : Root) → IsRootBlock (block_at image r) own → HasNoneLike own (block_at image (reader image r)) → (root : Root) → ¬ IsShownRoot image r root
read_by_none image r own spelled none root is =
    let same = one_root_block (block_at image r) is.own own is.own_spelled spelled in
    none root is.spelled (is.same.kind ∙ ap (λ (x : Root). x.kind) same) (is.same.word ∙ ap (λ (x : Root). x.word) same)
