-- The entry of a block in its map, which was read into memory.
use Rattle.std.proofs.Common.{◌≡◌, ℕ, ◌%◌, List, Some, set, refl, sym, ◌∙◌, ap, subst, arith}
use Rattle.cyl_map.specs.Entry.{spelling}
use Rattle.cyl_map.specs.Map.{SpellsMap, bytes_at}
use Rattle.cyl_map.specs.Reading.{said_by}
use Rattle.cyl_map.specs.Volume.{with_bytes}
use Rattle.intentions.proofs.Words.{Image, IsEntry, MapEntry, block_at, entries_of, entry_in, entry_is, get_or-entries_of, length-entries_of, map_of, with_entry}

module _ (bytes : List ℕ) (n : ℕ) (e : MapEntry) (spells : SpellsMap bytes) (read : e ≡ said_by (bytes_at bytes (n % 64))) where
  pub loaded_valid : IsEntry e
  loaded_valid = subst IsEntry (get_or-entries_of bytes (n % 64) e (omega arith) ∙ sym read) (spells.entries.each (n % 64) e (omega (arith, length-entries_of bytes)))

  module _ (image : Image) (same : block_at image (map_of n) ≡ bytes) where
    pub loaded_entry : entry_in image n ≡ Some e
    loaded_entry =
        entry_is image n (entries_of bytes) (record { is_map = spells.entries; spelled = same ∙ spells.spelled }) n e refl
        ∙ ap Some (get_or-entries_of bytes (n % 64) e (omega arith) ∙ sym read)

-- the image with the map changed is that with the entry changed
pub put_in_map : (bytes : List ℕ) (n : ℕ) (image : Image) → block_at image (map_of n) ≡ bytes → (now : List ℕ) (f : MapEntry) → now ≡ with_bytes bytes (n % 64) (spelling f) → set image (map_of n) now ≡ with_entry image n f
unfolding with_entry
put_in_map bytes n image same now f is = ap (set image (map_of n)) (is ∙ ap (λ (b : List ℕ). with_bytes b (n % 64) (spelling f)) (sym same))
