-- Why no Free block was found where one was counted.
use Rattle.std.proofs.Common.{◌≡◌, ℕ, ◌*◌, ◌/◌, List, subst, arith, Some}
use Rattle.cyl_alloc.proofs.Words.{IsFirstAbove}

-- cylinder j is the first that counts a Free block, by the number of its map block
pub first_at : (free : List ℕ) (j block : ℕ) → IsFirstAbove free (Some j) → block ≡ 64 * j → IsFirstAbove free (Some (block / 64))
first_at free j block first is = let at : j ≡ block / 64 = omega arith in subst (λ (k : ℕ). IsFirstAbove free (Some k)) at first
