-- Counts, and the Free blocks of the image that they count.
use Rattle.std.proofs.Common.{◌≡◌, ◌≢◌, inl, inr, ℕ, ◌+◌, ◌-◌, ◌*◌, min, true, ◌/◌, ◌%◌, ◌<◌, ◌≤◌, false, List, length, get_or, set, Some, position, refl, sym, ◌∙◌, ap, subst, arith, length-set}
use Rattle.cyl_alloc.proofs.Words.{AreCounts, Image, IsEntry, IsFirstAbove, IsFreeElsewhere, IsLeastFree, IsMapOf, Kept, MapEntry, after_giving, after_taking, cases_eq, cases_lt, count_at, count_by-le-length, entry_in, free_entries, unheld_entry, free_from, free_in_cylinder, get_or-set_other, get_or-set_same, get_or_default, is_free, is_free_entry, is_free_in, length-range_with_len, length-with_entry, map_in_image, position-Some, range_with_len, same_lists, sum, sum_by-set, take-length, with_count, with_entry}
use Rattle.std.proofs.Common.{Bool}
use Rattle.std.proofs.Math.Path.{fun_ext}
use Rattle.std.specs.Prelude.{Option, count_by}
use Rattle.cyl_map.proofs.Volumes.{entry_in-set}
use Rattle.cyl_alloc.specs.Left.{LeftCommit}
use Rattle.cyl_alloc.proofs.Ranges.{sum_of, none_in, same_count}
use Rattle.cyl_alloc.proofs.Entries.{free_is, free_count, elsewhere, alike, one_free_less, one_free_more}

pub sum_is : (image : Image) (kept : Kept) → AreCounts image kept → sum kept.free ≡ free_from image 0 (length image)
unfolding free_in_cylinder
sum_is image kept counts =
    ap sum (sym (take-length kept.free))
    ∙ sum_of (is_free_in image) 64 kept.free (length kept.free) (omega arith) counts.each
    ∙ ap (free_from image 0) (sym counts.size)

pub cylinder-most : (image : Image) (j : ℕ) → free_in_cylinder image j ≤ 64
unfolding free_in_cylinder
cylinder-most image j = omega (arith, count_by-le-length (is_free_in image) (range_with_len (64 * j) 64), length-range_with_len (64 * j) 64)

-- in a cylinder with no Free block none is
pub none_free : (image : Image) (j m : ℕ) → free_in_cylinder image j ≡ 0 → m / 64 ≡ j → is_free_in image m ≡ false
unfolding free_in_cylinder
none_free image j m none at = none_in (is_free_in image) (64 * j) 64 m none (omega arith) (omega arith)

-- the cylinders whose map block doesn't change have as many Free blocks
same_free : (image other : Image) (n j : ℕ) → IsFreeElsewhere image n other → j ≢ n / 64 → free_in_cylinder other j ≡ free_in_cylinder image j
unfolding free_in_cylinder
same_free image other n j elsewhere apart =
    same_count (is_free_in other) (is_free_in image) (64 * j) 64 (λ m le lt. elsewhere.same m (λ same. apart (omega (arith, same))))

-- the counts after a change in one cylinder
pub counts-set : (image other : Image) (kept : Kept) (n count : ℕ) → AreCounts image kept → IsFreeElsewhere image n other → n < 64 * length kept.free → count ≡ free_in_cylinder other (n / 64) → AreCounts other (with_count kept n count)
counts-set image other kept n count counts elsewhere lt is = record {
  size = elsewhere.size ∙ counts.size ∙ ap (λ (l : ℕ). 64 * l) (sym (length-set kept.free (n / 64) count));
  each = λ j less. elim (cases_eq j (n / 64)) [
    | inl same ↦
        ap (λ (k : ℕ). get_or (set kept.free (n / 64) count) k 0) same
        ∙ get_or-set_same kept.free (n / 64) count 0 (omega arith)
        ∙ is
        ∙ ap (free_in_cylinder other) (sym same)
    | inr apart ↦
        get_or-set_other kept.free (n / 64) j count 0 apart
        ∙ counts.each j (omega (arith, length-set kept.free (n / 64) count))
        ∙ sym (same_free image other n j elsewhere apart)
  ];
}

-- the same of the lists that are kept
pub counts_put : (image other : Image) (kept : Kept) (free new : List ℕ) (n count : ℕ) → AreCounts image kept → IsFreeElsewhere image n other → n < 64 * length kept.free → count ≡ free_in_cylinder other (n / 64)
    → free ≡ kept.free → new ≡ set free (n / 64) count → (left : Option LeftCommit) → AreCounts other (record { free = new; left = left })
counts_put image other kept free new n count counts elsewhere lt is same put left =
    let is = counts-set image other kept n count counts elsewhere lt is in
    subst (λ (l : List ℕ). AreCounts other (record { free = l; left = left })) (sym (put ∙ ap (λ (l : List ℕ). set l (n / 64) count) same)) (record { size = is.size; each = is.each })

-- ---- one entry changed

module _ (image : Image) (kept : Kept) (n : ℕ) (old e : MapEntry) (counts : AreCounts image kept) (was : entry_in image n ≡ Some old) (is : IsEntry e) where
  within : n < 64 * length kept.free
  within = omega (arith, map_in_image image n old was, counts.size)

  counted : count_at kept n ≡ free_in_cylinder image (n / 64)
  counted = counts.each (n / 64) (omega (arith, within))

  -- a Free block is taken
  pub counts_taken : is_free old ≡ true → is_free e ≡ false → AreCounts (with_entry image n e) (after_taking kept n) × (sum (after_taking kept n).free + 1 ≡ sum kept.free)
  counts_taken free taken =
      let less = one_free_less image n old e was is (ap is_free_entry was ∙ free) taken in (
        counts-set image (with_entry image n e) kept n (count_at kept n - 1) counts (elsewhere image n old e was is) within (omega (arith, less, counted)),
        omega (arith, sum_by-set (λ (x : ℕ). x) kept.free (n / 64) (count_at kept n - 1) 0 (omega (arith, within)), less, counted),
      )

  -- a block is Free again
  pub counts_given : is_free old ≡ false → is_free e ≡ true → AreCounts (with_entry image n e) (after_giving kept n 1) × (sum (after_giving kept n 1).free ≡ sum kept.free + 1)
  counts_given held free =
      let more = one_free_more image n old e was is (ap is_free_entry was ∙ held) free in
      let most = cylinder-most (with_entry image n e) (n / 64) in
      let one : min 64 (count_at kept n + 1) ≡ count_at kept n + 1 = omega (arith, more, most, counted) in (
        counts-set image (with_entry image n e) kept n (min 64 (count_at kept n + 1)) counts (elsewhere image n old e was is) within (omega (arith, one, more, counted)),
        omega (arith, sum_by-set (λ (x : ℕ). x) kept.free (n / 64) (min 64 (count_at kept n + 1)) 0 (omega (arith, within)), one),
      )

  -- Free or not, the block stays so
  pub counts_same : is_free e ≡ is_free old → AreCounts (with_entry image n e) kept
  unfolding free_in_cylinder
  counts_same same = record {
    size = length-with_entry image n e ∙ counts.size;
    each = λ j less. counts.each j less ∙ sym (same_count (is_free_in (with_entry image n e)) (is_free_in image) (64 * j) 64 (λ m _ _. alike image n old e was is same m));
  }

-- a block that is no map was written
pub counts_content : (image : Image) (kept : Kept) (n : ℕ) (block : List ℕ) → n % 64 ≢ 0 → AreCounts image kept → AreCounts (set image n block) kept
unfolding free_in_cylinder
counts_content image kept n block no_map counts =
    let same : is_free_in (set image n block) ≡ is_free_in image = fun_ext (λ m. ap is_free_entry (entry_in-set image n block m no_map)) in
    record { size = length-set image n block ∙ counts.size; each = λ j below. counts.each j below ∙ ap (λ (P : ℕ → Bool). count_by P (range_with_len (64 * j) 64)) (sym same) }

-- the same of what is equal to both
pub counts_along : (image other : Image) (kept new : Kept) → AreCounts image kept → other ≡ image → new ≡ kept → AreCounts other new
counts_along image other kept new counts is same = subst (AreCounts other) (sym same) (subst (λ (i : Image). AreCounts i kept) (sym is) counts)

pub counts_one : (image : Image) (kept other : Kept) → AreCounts image kept → AreCounts image other → kept.free ≡ other.free
counts_one image kept other one two =
    let long : length kept.free ≡ length other.free = omega (arith, one.size, two.size) in
    same_lists kept.free other.free long (λ j d less. get_or_default kept.free j d 0 less ∙ one.each j less ∙ sym (two.each j (omega (arith, long))) ∙ get_or_default other.free j 0 d (omega (arith, long)))

-- ---- the least-numbered Free block

-- cylinder j is the first that counts a Free block, and its map has the first Free entry at k
pub is_least : (image : Image) (kept : Kept) (j k : ℕ) (map : List MapEntry) → AreCounts image kept → IsFirstAbove kept.free (Some j) → IsMapOf image (64 * j) map → position is_free map ≡ Some k → IsLeastFree image (64 * j + k)
is_least image kept j k map counts first is at =
    let found = position-Some is_free map k unheld_entry at in
    let place : (64 * j + k) % 64 ≡ k = omega (arith, found.0, is.is_map.long) in
    record {
      free =
          free_is image (64 * j) map is (64 * j + k) unheld_entry (omega (arith, found.0, is.is_map.long))
          ∙ ap (λ (i : ℕ). is_free (get_or map i unheld_entry)) place
          ∙ found.1;
      least = λ m before. elim (cases_lt (m / 64) j) [
        | inl earlier ↦ none_free image (m / 64) m (sym (counts.each (m / 64) (omega (arith, first.0))) ∙ first.2 (m / 64) earlier) refl
        | inr here ↦
            free_is image (64 * j) map is m unheld_entry (omega (arith, found.0, is.is_map.long))
            ∙ found.2 (m % 64) (omega (arith, found.0, is.is_map.long))
      ];
    }

-- where the map has no Free entry, its cylinder has no Free block
pub none_in_map : (image : Image) (n : ℕ) (map : List MapEntry) → IsMapOf image n map → free_entries map ≡ 0 → free_in_cylinder image (n / 64) ≡ 0
none_in_map image n map is none = sym (free_count image n map is) ∙ none
