-- Entries of an image, by its maps in memory.
use Rattle.std.proofs.Common.{◌≡◌, ℕ, ◌/◌, ◌%◌, ◌<◌, List, [], length, get_or, Some, sym, ◌∙◌, ap, arith}
use Rattle.cfs_recover.proofs.Words.{AreMapsOf, Image, MapEntry, block_at, entries_read, entry_in, map_of, part_at, part_of, slice_get}

module _ (image : Image) (maps : List (List MapEntry)) (are : AreMapsOf image maps) (n : ℕ) (inside : n < length image) where
  pub entry_is : entry_in image n ≡ slice_get (get_or maps (n / 64) []) (n % 64)
  unfolding entry_in
  entry_is =
      let j : n / 64 < length maps = omega (arith, are.size) in
      entries_read (block_at image (map_of n)) (get_or maps (n / 64) []) (are.map (n / 64) j) (are.spelled (n / 64) j) (n % 64) (omega arith)

  pub part_is : (e : MapEntry) → slice_get (get_or maps (n / 64) []) (n % 64) ≡ Some e → part_of (Some e) ≡ part_at image n
  part_is e at = sym (ap part_of (entry_is ∙ at))
