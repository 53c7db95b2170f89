-- Changes that touch only Free blocks, and blocks whose entries pass a test.
use Rattle.std.specs.Prelude.{◌≡◌, ◌⊎◌, ℕ, Bool, true, false, ◌&&◌, List, [], ◌∷◌, length, Option}
use Rattle.cfs_base.specs.Disk.{Image, block_at}
use Rattle.cyl_map.specs.declared.state.BlockState.{BlockState}
use Rattle.cyl_map.specs.declared.entry.MapEntry.{MapEntry}
use Rattle.cyl_map.specs.Volume.{entry_in, is_free_entry, is_free_in, AreMaps}
use Rattle.ufs_model.specs.Graph.{Graph, has_block}
use Rattle.ufs_model.specs.Numbers.{has_number}
use Rattle.vol_image.specs.Part.{RootsOwnThemselves, is_fixed}
use Rattle.vol_owners.specs.Owner.{is_meant, is_taken, is_placed, owner_of, is_owned_by, is_made, is_stray}
use Rattle.vol_owners.specs.Account.{HasRoot}

-- the entry is Free, or that of a block that somebody owns and that passes the test
abbrev pub IsOpenTo : (Option MapEntry → Bool) → Option MapEntry → Type 0
IsOpenTo T entry = (is_free_entry entry ≡ true) ⊎ ((is_placed is_taken entry ≡ true) × (T entry ≡ true))

-- Image b differs from image a only in blocks that are so in both.
pub record ChangesOnly (T : Option MapEntry → Bool) (a b : Image) : Type 0 where
  pub size : length b ≡ length a
  pub maps : AreMaps b
  pub own : RootsOwnThemselves b
  pub label : block_at b 1 ≡ block_at a 1
  pub fixed : (n : ℕ) → is_fixed n ≡ true → entry_in b n ≡ entry_in a n
  pub entries : (n : ℕ) → (entry_in b n ≡ entry_in a n) ⊎ (IsOpenTo T (entry_in a n) × IsOpenTo T (entry_in b n))
  pub contents : (n : ℕ) → is_fixed n ≡ false → (block_at b n ≡ block_at a n) ⊎ IsOpenTo T (entry_in a n)

-- ---- the tests; the third is `is_stray`, for a sweep

-- all blocks of these owners, for a commit, for a change in place, and for an object that is made
abbrev pub of_owners : List ℕ → Option MapEntry → Bool
of_owners rs entry = is_placed is_taken entry && has_number (owner_of entry) rs

abbrev pub of_owner : ℕ → Option MapEntry → Bool
of_owner r entry = of_owners (r ∷ []) entry

-- the blocks that are meant for these owners, for all other steps of a draft
abbrev pub of_drafts : List ℕ → Option MapEntry → Bool
of_drafts rs entry = is_placed is_meant entry && has_number (owner_of entry) rs

abbrev pub of_draft : ℕ → Option MapEntry → Bool
of_draft r entry = of_drafts (r ∷ []) entry

-- no block of this owner, in such a state, passes the test
abbrev pub Misses : (BlockState → Bool) → (Option MapEntry → Bool) → ℕ → Type 0
Misses test T r = (entry : Option MapEntry) → T entry ≡ true → is_owned_by test r entry ≡ false

-- A block that passes the test is of an object that exists afterwards, or is made. The objects before exist
-- afterwards.
pub record IsOfThese (T : Option MapEntry → Bool) (g h : Graph) : Type 0 where
  pub there : (entry : Option MapEntry) → T entry ≡ true → is_made entry ≡ false
      → has_block h.objects (owner_of entry) ≡ true
  pub more : (r : ℕ) → has_block g.objects r ≡ true → has_block h.objects r ≡ true

-- nothing has this owner
abbrev pub OwnsNothing : Image → ℕ → Type 0
OwnsNothing image c = (n : ℕ) → is_owned_by is_taken c (entry_in image n) ≡ false

-- ---- a sweep

-- Image b is image a in which blocks of objects that are gone became Free, the root of each last.
pub record Sweeps (g : Graph) (a b : Image) : Type 0 where
  pub only : ChangesOnly (λ entry. is_stray g entry) a b
  pub frees : (n : ℕ) → (entry_in b n ≡ entry_in a n) ⊎ (is_free_in b n ≡ true)
  pub roots_last : (n : ℕ) → is_placed is_taken (entry_in b n) ≡ true → HasRoot b (owner_of (entry_in b n))
