-- The entries of a volume whose maps a disk holds.
use Rattle.std.proofs.Common.{◌≡◌, ◌≢◌, inl, inr, ℕ, ◌+◌, ◌*◌, ◌/◌, ◌%◌, ◌<◌, true, false, List, replicate, get_or, set, Option, Some, None, refl, sym, ◌∙◌, ap, subst, arith}
use Rattle.cyl_alloc.proofs.Words.{All-replicate, Image, IsBadMap, IsEntry, IsFirstBadEntry, IsFreeElsewhere, IsGoodMap, IsMap-set, IsMapOf, IsSome, MapEntry, SpellsMap, block_at, cases_eq, entries_of, entry_at, entry_at-map_spelling, entry_in, entry_in-with_entry_other, entry_in-with_entry_same, entry_of_bad, free_entries, unheld_entry, free_in_cylinder, is_free, is_free_entry, is_free_in, length-entries_of, length-with_entry, map_of, map_spelling, map_spelling-set, spelling, spells_these, with_bytes, with_entry}
use Rattle.cyl_alloc.proofs.Ranges.{listed, one_less, count_in}

-- ---- a map that was read

module _ (image : Image) (n : ℕ) (map : List MapEntry) (is : IsMapOf image n map) where
  pub entry_is : (m : ℕ) (d : MapEntry) → map_of m ≡ map_of n → entry_in image m ≡ Some (get_or map (m % 64) d)
  unfolding entry_in
  entry_is m d same =
      ap (λ (at : ℕ). entry_at (block_at image at) (m % 64)) same
      ∙ entry_at-map_spelling (block_at image (map_of n)) map is.is_map is.spelled (m % 64) d (omega arith)

  pub free_is : (m : ℕ) (d : MapEntry) → map_of m ≡ map_of n → is_free_in image m ≡ is_free (get_or map (m % 64) d)
  free_is m d same = ap is_free_entry (entry_is m d same)

  pub is_good : IsGoodMap image n
  is_good k lt = subst IsSome (sym (entry_is (map_of n + k) unheld_entry (omega arith))) refl

  -- as many are Free as the map has Free entries
  pub free_count : free_entries map ≡ free_in_cylinder image (n / 64)
  unfolding free_in_cylinder
  free_count =
      listed is_free (is_free_in image) (map_of n) map (λ k d lt. sym (free_is (map_of n + k) d (omega (arith, is.is_map.long)) ∙ ap (λ (i : ℕ). is_free (get_or map i d)) (omega (arith, is.is_map.long))))
      ∙ ap (count_in (is_free_in image) (map_of n)) is.is_map.long

-- 512 zero bytes are those of a map
zeros : replicate 512 0 ≡ map_spelling (replicate 64 unheld_entry)
unfolding spelling
zeros = refl

pub zeros_spell : (bytes : List ℕ) → bytes ≡ replicate 512 0 → SpellsMap bytes
zeros_spell bytes is = (spells_these bytes (replicate 64 unheld_entry) (record { long = refl; each = All-replicate IsEntry 64 unheld_entry (record { in_table = refl }) }) (is ∙ zeros)).1

-- a map with one entry put into it is one
pub spells_with : (bytes : List ℕ) (k : ℕ) (e : MapEntry) → SpellsMap bytes → k < 64 → IsEntry e → SpellsMap (with_bytes bytes k (spelling e))
spells_with bytes k e spells below is =
    let was = entries_of bytes in
    let put = ap (λ (b : List ℕ). with_bytes b k (spelling e)) spells.spelled ∙ sym (map_spelling-set was k e (omega (arith, length-entries_of bytes))) in
    (spells_these (with_bytes bytes k (spelling e)) (set was k e) (IsMap-set was k e spells.entries is) put).1

-- a block that spells no map has a bad entry
pub is_bad : (image : Image) (n entry byte : ℕ) (block : List ℕ) → block ≡ block_at image (map_of n) → IsFirstBadEntry block entry byte → IsBadMap image n
unfolding entry_in
is_bad image n entry byte block read first = (
  entry,
  first.within,
  ap (λ (at : ℕ). entry_at (block_at image at) ((map_of n + entry) % 64)) (omega (arith, first.within))
      ∙ ap (entry_at (block_at image (map_of n))) (omega (arith, first.within))
      ∙ ap (λ (b : List ℕ). entry_at b entry) (sym read)
      ∙ entry_of_bad _ byte first.bad,
)

-- ---- one entry changed

module _ (image : Image) (n : ℕ) (old e : MapEntry) (was : entry_in image n ≡ Some old) (is : IsEntry e) where
  pub elsewhere : IsFreeElsewhere image n (with_entry image n e)
  elsewhere = record {
    size = length-with_entry image n e;
    same = λ m apart. ap is_free_entry (entry_in-with_entry_other image n e old m was (λ (same : m ≡ n). apart (ap map_of same)));
  }

  now : is_free_in (with_entry image n e) n ≡ is_free e
  now = ap is_free_entry (entry_in-with_entry_same image n e old was is)

  others : (m : ℕ) → m ≢ n → is_free_in (with_entry image n e) m ≡ is_free_in image m
  others m apart = ap is_free_entry (entry_in-with_entry_other image n e old m was apart)

  pub alike : is_free e ≡ is_free old → (m : ℕ) → is_free_in (with_entry image n e) m ≡ is_free_in image m
  alike same m = elim (cases_eq m n) [
    | inl here ↦ rw here (now ∙ same ∙ sym (ap is_free_entry was))
    | inr apart ↦ others m apart
  ]

  pub one_free_less : is_free_in image n ≡ true → is_free e ≡ false → free_in_cylinder (with_entry image n e) (n / 64) + 1 ≡ free_in_cylinder image (n / 64)
  unfolding free_in_cylinder
  one_free_less free taken = one_less (is_free_in image) (is_free_in (with_entry image n e)) n (64 * (n / 64)) 64 free (now ∙ taken) (λ m apart. sym (others m apart)) (omega arith) (omega arith)

  pub one_free_more : is_free_in image n ≡ false → is_free e ≡ true → free_in_cylinder (with_entry image n e) (n / 64) ≡ free_in_cylinder image (n / 64) + 1
  unfolding free_in_cylinder
  one_free_more held given = sym (one_less (is_free_in (with_entry image n e)) (is_free_in image) n (64 * (n / 64)) 64 (now ∙ given) held (λ m apart. others m apart) (omega arith) (omega arith))

-- an entry that stands, where its map is good
pub some_entry : (image : Image) (n : ℕ) → IsGoodMap image n → (old : MapEntry) × (entry_in image n ≡ Some old)
some_entry image n good = at (entry_in image n) refl (subst (λ (m : ℕ). IsSome (entry_in image m)) (omega arith) (good (n % 64) (omega arith)))
  where
    at : (o : Option MapEntry) → entry_in image n ≡ o → IsSome o → (old : MapEntry) × (entry_in image n ≡ Some old)
    at None is some = cc
    at (Some old) is some = (old, is)
