-- The 512 bytes of a map: 64 entries, one after another.
use Rattle.std.specs.Prelude.{◌≡◌, ℕ, ◌*◌, ◌<◌, Bool, true, false, List, take, drop, length, map, All, count_by, Option}
use Rattle.std.specs.Prelude.{IsSome}
use Rattle.std.specs.List.{flat_map}
use Rattle.std.specs.Simd.{first_chunks}
use Rattle.cyl_map.specs.declared.state.BlockState.{BlockState}
use Rattle.cyl_map.specs.declared.state.BlockState.TheVariants.{Free, Allocated, IntendAllocate, IntendDeallocate}
use Rattle.cyl_map.specs.declared.entry.MapEntry.{MapEntry}
use Rattle.cyl_map.specs.Entry.{IsEntry, spelling}
use Rattle.cyl_map.specs.Reading.{IsFirstBad, entry_of, said_by}

-- the entries of a map
pub record IsMap (entries : List MapEntry) : Type 0 where
  pub long : length entries ≡ 64
  pub each : All IsEntry entries

-- the bytes of a map
abbrev pub map_spelling : List MapEntry → List ℕ
map_spelling entries = flat_map spelling entries

-- the eight bytes of one entry
abbrev pub bytes_at : List ℕ → ℕ → List ℕ
bytes_at block entry = take 8 (drop (8 * entry) block)

-- the entry that these bytes spell, if they spell one
abbrev pub entry_at : List ℕ → ℕ → Option MapEntry
entry_at block entry = entry_of (bytes_at block entry)

-- each eight bytes spell an entry
abbrev pub AreEntries : List ℕ → Type 0
AreEntries block = (k : ℕ) → k < 64 → IsSome (entry_at block k)

-- the first entry that is invalid, and the least bad place of its bytes
pub record IsFirstBadEntry (block : List ℕ) (entry byte : ℕ) : Type 0 where
  pub within : entry < 64
  pub before : (k : ℕ) → k < entry → IsSome (entry_at block k)
  pub bad : IsFirstBad (bytes_at block entry) byte

-- the eight bytes of each entry
unfoldable pub eights : List ℕ → List (List ℕ)
eights block = first_chunks 8 64 block

-- the entries that the bytes of a map say
abbrev pub entries_of : List ℕ → List MapEntry
entries_of bytes = map said_by (eights bytes)

-- the bytes spell a map
pub record SpellsMap (bytes : List ℕ) : Type 0 where
  pub entries : IsMap (entries_of bytes)
  pub spelled : bytes ≡ map_spelling (entries_of bytes)

abbrev pub is_free_state : BlockState → Bool
is_free_state Free = true
is_free_state Allocated = false
is_free_state IntendAllocate = false
is_free_state IntendDeallocate = false

abbrev pub is_free : MapEntry → Bool
is_free e = is_free_state e.state

-- how many blocks of the cylinder are Free
abbrev pub free_entries : List MapEntry → ℕ
free_entries entries = count_by is_free entries
