-- A map that is made entry by entry.
use Rattle.std.proofs.Common.{◌≡◌, ℕ, ◌+◌, ◌*◌, ◌<◌, ◌≤◌, List, [], ◌∷◌, ◌++◌, length, take, drop, get_or, refl, sym, ◌∙◌, ap, arith, append_assoc, length-append, length-drop}
use Rattle.std.proofs.lemmas.Grind.{flat_map-append}
use Rattle.std.proofs.lemmas.List.{append-nil, length-take-le, take_all, take_at}
use Rattle.std.proofs.lemmas.List.FromFn.{map-range_with_len_more}
use Rattle.cyl_map.proofs.Maps.{length-spelling}
use Rattle.cyl_map.specs.Entry.{spelling}
use Rattle.cyl_map.specs.Map.{map_spelling}
use Rattle.cyl_map.specs.declared.entry.MapEntry.{MapEntry}
unfoldable use Rattle.cyl_map.specs.Volume.{with_bytes}
use Rattle.cfs_check.specs.Repair.{mended_entry, mended_map}
unfoldable use Rattle.cfs_check.specs.Repair.{entries_below}
use Rattle.cfs_check.specs.Uses.{Use}
use Rattle.cfs_check.specs.declared.uses.Use.TheVariants as uses

module _ (block bytes : List ℕ) (k : ℕ) (long : length block ≡ 512) (small : k < 64) (eight : length bytes ≡ 8) where
  first_long : length (take (8 * k) block) ≡ 8 * k
  first_long = length-take-le (8 * k) block (omega (arith, long, small))

  pub put_long : length (with_bytes block k bytes) ≡ 512
  unfolding with_bytes
  put_long = omega (
    arith,
    length-append (take (8 * k) block) (bytes ++ drop (8 * k + 8) block),
    length-append bytes (drop (8 * k + 8) block),
    length-drop (8 * k + 8) block,
    first_long,
    long,
    small,
    eight,
  )

  put_first : take (8 * (k + 1)) (with_bytes block k bytes) ≡ take (8 * k) block ++ bytes
  unfolding with_bytes
  put_first =
      ap (take (8 * (k + 1))) (sym (append_assoc (take (8 * k) block) bytes (drop (8 * k + 8) block)))
      ∙ take_at (take (8 * k) block ++ bytes) (drop (8 * k + 8) block) (8 * (k + 1)) (omega (arith, length-append (take (8 * k) block) bytes, first_long, eight))

-- none yet
pub none_spelled : (of : List Use) (j : ℕ) (block : List ℕ) → take (8 * 0) block ≡ map_spelling (entries_below of j 0)
unfolding entries_below
none_spelled of j block = refl

-- one more
pub more_spelled : (of : List Use) (j k : ℕ) (block : List ℕ) → length block ≡ 512 → k < 64 → take (8 * k) block ≡ map_spelling (entries_below of j k)
    → take (8 * (k + 1)) (with_bytes block k (spelling (mended_entry (get_or of (64 * j + k) uses.Free)))) ≡ map_spelling (entries_below of j (k + 1))
unfolding entries_below
more_spelled of j k block long small before =
    let entry : ℕ → MapEntry = λ (i : ℕ). mended_entry (get_or of (64 * j + i) uses.Free) in
    let last = entry k ∷ [] in
    put_first block (spelling (entry k)) k long small (length-spelling (entry k))
    ∙ ap (λ (bs : List ℕ). bs ++ spelling (entry k)) before
    ∙ ap (λ (bs : List ℕ). map_spelling (entries_below of j k) ++ bs) (sym (append-nil (spelling (entry k))))
    ∙ sym (flat_map-append spelling (entries_below of j k) last)
    ∙ ap map_spelling (sym (map-range_with_len_more entry 0 k k (omega arith)))

-- all
pub all_spelled : (of : List Use) (j k : ℕ) (block : List ℕ) → k ≡ 64 → length block ≡ 512 → take (8 * k) block ≡ map_spelling (entries_below of j k) → block ≡ mended_map of j
all_spelled of j k block end long all =
    sym (take_all (8 * k) block (omega (arith, end, long))) ∙ all ∙ ap (λ (n : ℕ). map_spelling (entries_below of j n)) end
