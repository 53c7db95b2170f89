-- The entries of a fresh volume, map by map.
use Rattle.std.proofs.Common.{◌≡◌, ◌≢◌, inl, inr, ℕ, zero, suc, ◌+◌, ◌*◌, ◌%◌, ◌<◌, ◌≤◌, ◌==◌, true, false, cond, List, [], ◌∷◌, length, replicate, set, Some, refl, sym, ◌∙◌, ap, arith, get_or-set_same, get_or-set_other}
use Rattle.std.specs.Prelude.{slice_get}
use Rattle.std.proofs.lemmas.Bool.{cases_lt}
use Rattle.std.proofs.lemmas.Bool.Decides.{nat_tests}
use Rattle.std.proofs.lemmas.List.{get_or-replicate, length-replicate}
use Rattle.std.proofs.lemmas.Option.{slice_get_read}
use Rattle.cfs_base.specs.Disk.{Image, block_at}
use Rattle.cyl_map.specs.Map.{entry_at}
use Rattle.cyl_map.specs.Volume.{entry_in, map_of}
use Rattle.vol_image.specs.Part.{is_fixed, reserved}
use Rattle.vol_format.specs.Fresh.{free_entry, fresh_entry, root_entry}

fixed_map : (n : ℕ) → n % 64 ≡ 0 → is_fixed n ≡ true
fixed_map n map = grind (arith, nat_tests)

not_fixed : (n : ℕ) → n % 64 ≢ 0 → 3 ≤ n → is_fixed n ≡ false
not_fixed n apart from = grind (arith, nat_tests)

not_two : (n : ℕ) → 3 ≤ n → (n == 2) ≡ false
not_two n from = grind (arith, nat_tests)

map_entry : (n : ℕ) → n % 64 ≡ 0 → fresh_entry n ≡ reserved
map_entry n map = ap (λ f. cond f reserved (cond (n == 2) root_entry free_entry)) (fixed_map n map)

free_one : (n : ℕ) → n % 64 ≢ 0 → 3 ≤ n → Some free_entry ≡ Some (fresh_entry n)
free_one n apart from = sym (λ i. Some (cond (not_fixed n apart from i) reserved (cond (not_two n from i) root_entry free_entry)))

all_free : (m k : ℕ) → k < m → slice_get (replicate m free_entry) k ≡ Some free_entry
all_free m k below = slice_get_read (replicate m free_entry) m k free_entry (sym (length-replicate m free_entry)) below (sym (get_or-replicate m k free_entry free_entry below))

pub first_map : (k : ℕ) → k < 64 → slice_get (reserved ∷ reserved ∷ root_entry ∷ replicate 61 free_entry) k ≡ Some (fresh_entry k)
first_map zero below = refl
first_map (suc zero) below = refl
first_map (suc (suc zero)) below = refl
first_map (suc (suc (suc k))) below = all_free 61 k (omega arith) ∙ free_one (suc (suc (suc k))) (λ none. absurd (omega arith)) (omega arith)

pub later_map : (j k : ℕ) → 1 ≤ j → k < 64 → slice_get (reserved ∷ replicate 63 free_entry) k ≡ Some (fresh_entry (64 * j + k))
later_map j zero later below = ap Some (sym (map_entry (64 * j + 0) (omega arith)))
later_map j (suc k) later below = all_free 63 k (omega arith) ∙ free_one (64 * j + suc k) (λ none. absurd (omega arith)) (omega arith)

-- one map more is written
pub entries_more : (image new : Image) (j : ℕ) (block : List ℕ) → new ≡ set image (64 * j) block → 64 * j < length image → ((n : ℕ) → n < 64 * j → entry_in image n ≡ Some (fresh_entry n))
    → ((k : ℕ) → k < 64 → entry_at block k ≡ Some (fresh_entry (64 * j + k))) → (n : ℕ) → n < 64 * (j + 1) → entry_in new n ≡ Some (fresh_entry n)
unfolding entry_in
entries_more image new j block put inside before map n below = ap (λ (i : Image). entry_in i n) put ∙ elim (cases_lt n (64 * j)) [
  | inl lower ↦ ap (λ x. entry_at x (n % 64)) (get_or-set_other image (64 * j) (map_of n) block [] (λ (e : map_of n ≡ 64 * j). omega arith)) ∙ before n lower
  | inr upper ↦
      let here : map_of n ≡ 64 * j = omega arith in
      let same : 64 * j + n % 64 ≡ n = omega arith in
      ap (λ m. entry_at (block_at (set image (64 * j) block) m) (n % 64)) here ∙ ap (λ x. entry_at x (n % 64)) (get_or-set_same image (64 * j) block [] inside)
      ∙ map (n % 64) (omega arith) ∙ ap (λ (m : ℕ). Some (fresh_entry m)) same
]
