-- The table of the shadow roots that stand for root blocks.
use Rattle.std.specs.Prelude.{◌≡◌, ◌⊎◌, ℕ, ◌-◌, ◌<◌, ◌≤◌, ◌==◌, if◌then◌else◌, List, length, slice_get, Some}
pub use Rattle.cfs_recover.specs.declared.standing.Shadow.{Shadow}
use Rattle.cfs_recover.specs.declared.standing.Shadow.TheVariants.{None, One, Several}

-- what a number of the table says
abbrev pub shadow_of : ℕ → Shadow
shadow_of n = if n == 0 then None else (if n == 4294967295 then Several else One (n - 1))

-- the entry with one more shadow root
abbrev pub one_more : Shadow → ℕ → Shadow
one_more None s = One s
one_more (One t) s = Several
one_more Several s = Several

-- the shadow root, if there is one, is below this number
abbrev pub IsShadowBelow : ℕ → Shadow → Type 0
IsShadowBelow blocks None = Unit {0}
IsShadowBelow blocks (One s) = s < blocks
IsShadowBelow blocks Several = Unit {0}

abbrev pub AreWithin : List ℕ → Type 0
AreWithin of = (length of ≤ 4294967294) × ((k n : ℕ) → slice_get of k ≡ Some n → (n ≤ length of) ⊎ (n ≡ 4294967295))
