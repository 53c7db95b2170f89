-- The table of a new directory: zeros, and then the header before them.
use Rattle.std.proofs.Common.{◌≡◌, ℕ, zero, suc, ◌+◌, ◌-◌, ◌*◌, ◌<◌, ◌≤◌, true, false, Option, Some, None, List, [], ◌∷◌, ◌++◌, length, map, take, replicate, get_or, refl, sym, ◌∙◌, ap, arith}
use Rattle.std.specs.List.{list_all, range_with_len}
use Rattle.std.specs.Str.{bytes_eq}
use Rattle.std.proofs.lemmas.Bool.{and_from}
use Rattle.std.proofs.lemmas.List.{drop-replicate, length-replicate, take-replicate, take_all}
use Rattle.std.proofs.lemmas.Option.{unwrap_or-slice_get}
use Rattle.cfs_base.specs.declared.identifier.Puid.{Puid}
use Rattle.ufs_model.specs.declared.object.File.{File}
use Rattle.ufs_model.specs.declared.object.Index.{Index}
use Rattle.ufs_model.specs.Object.{filled, new_index, resized, slot_of, written}
use Rattle.name_dirs.specs.Changing.{new_table}
use Rattle.name_dirs.specs.Directory.{empty_entry, is_table, places, row_at, table_entries, table_entry}
use Rattle.name_dirs.specs.Names.{id_under}
use Rattle.name_dirs.specs.Text.{are_distinct, header, is_row, name_in, spelled}
use Rattle.name_dirs.proofs.Entries.{map_same}
use Rattle.name_dirs.proofs.Rows.{unless, written_here, written_length, written_other}
use Rattle.name_dirs.proofs.Tables.{as_many, slot_other, special_table, table_whole}

-- a file of no bytes is no table
pub new_none : (slots : ℕ) → 1 ≤ slots → is_table slots new_table ≡ false
new_none slots some = unless (is_table slots new_table) (λ is. let size = (special_table slots new_table is).1.size in absurd (omega (arith, size, some)))

-- a new index has empty slots
pub empty_slot : (n k : ℕ) → slot_of (new_index n) k ≡ None
empty_slot n k = unwrap_or-slice_get (replicate n None) k None ∙ at n k
  where
    at : (n k : ℕ) → get_or {A = Option Puid} (replicate n None) k None ≡ None
    at zero k = refl
    at (suc n) zero = refl
    at (suc n) (suc k) = at n k

-- so many rows of zeros
module _ (slots : ℕ) (some : 1 ≤ slots) where
  bytes_are : (resized new_table (64 * slots)).bytes ≡ replicate (64 * slots) 0
  bytes_are = ap (λ (l : List ℕ). l ++ replicate (64 * slots - 0) 0) (take_all {A = ℕ} (64 * slots) [] (omega arith)) ∙ ap (λ (n : ℕ). replicate n 0) (omega arith)

  long : length (resized new_table (64 * slots)).bytes ≡ 64 * slots
  long = ap (λ (l : List ℕ). length l) bytes_are ∙ length-replicate (64 * slots) 0

  row_is : (s : ℕ) → s < slots → row_at (resized new_table (64 * slots)).bytes s ≡ spelled []
  row_is s less =
      ap (λ l. row_at l s) bytes_are ∙ ap (take 64) (drop-replicate (64 * s) (64 * slots) 0) ∙ take-replicate 64 (64 * slots - 64 * s) 0 (omega (arith, less))

  -- they are no table, for want of the header
  pub zeros_none : is_table slots (resized new_table (64 * slots)) ≡ false
  zeros_none = unless (is_table slots (resized new_table (64 * slots))) (λ is.
      let head = (special_table slots (resized new_table (64 * slots)) is).1.header in
      let both : false ≡ true = sym (ap (λ b. bytes_eq b header) (row_is 0 (omega (arith, some)))) ∙ head in cc both)

  abbrev headed : File
  headed = written (resized new_table (64 * slots)) (64 * 0) header

  within : 64 * 0 + 64 ≤ length (resized new_table (64 * slots)).bytes
  within = omega (arith, long, some)

  headed_row : (s : ℕ) → 1 ≤ s → s < slots → row_at headed.bytes s ≡ spelled []
  headed_row s from to = written_other (resized new_table (64 * slots)) header 0 refl within s (λ e. absurd (omega (arith, e, from))) ∙ row_is s to

  same_names : (a n : ℕ) → ((m : ℕ) → a ≤ m → m < a + n → row_at headed.bytes m ≡ spelled []) → are_distinct (map (λ s. name_in (row_at headed.bytes s)) (range_with_len a n)) ≡ true
  same_names a n each = ap are_distinct (map_same (λ s. name_in (row_at headed.bytes s)) (λ s. None) a n (λ m from to. ap name_in (each m from to))) ∙ nones (range_with_len a n)
    where
      all_other : (ks : List ℕ) → list_all (λ (o : Option (List ℕ)). true) (map (λ s. None) ks) ≡ true
      all_other [] = refl
      all_other (k ∷ ks) = all_other ks

      nones : (ks : List ℕ) → are_distinct (map (λ s. None) ks) ≡ true
      nones [] = refl
      nones (k ∷ ks) = and_from _ _ (all_other ks) (nones ks)

  pub headed_table : is_table slots (written (resized new_table (64 * slots)) (64 * 0) header) ≡ true
  headed_table = table_whole headed.bytes slots (record {
    size = written_length (resized new_table (64 * slots)) header 0 refl within ∙ long;
    header = ap (λ b. bytes_eq b header) (written_here (resized new_table (64 * slots)) header 0 refl within);
    rows = λ s from to. ap is_row (headed_row s from to);
    distinct = same_names 1 (slots - 1) (λ m from to. headed_row m from (omega (arith, to, some)));
  })

  -- ---- its entries, in an index of empty slots but the first

  module _ (t : Puid) where
    abbrev made : Index
    made = filled (new_index slots) 0 (Some t)

    pub made_slots : length (filled (new_index slots) 0 (Some t)).slots ≡ slots
    made_slots = as_many (new_index slots) 0 (Some t) ∙ length-replicate slots None

    pub made_entries : table_entries (filled (new_index slots) 0 (Some t)) (written (resized new_table (64 * slots)) (64 * 0) header) ≡ replicate (slots - 1) empty_entry
    made_entries =
        ap (λ (n : ℕ). map (table_entry made headed) (places n)) made_slots
        ∙ map_same (table_entry made headed) (λ s. empty_entry) 1 (slots - 1) (λ m from to. entry m from (omega (arith, to, some)))
        ∙ alike 1 (slots - 1)
      where
        entry : (m : ℕ) → 1 ≤ m → m < slots → table_entry made headed m ≡ empty_entry
        entry m from to =
            ap (λ r. record { name = name_in r; id = slot_of made m }) (headed_row m from to)
            ∙ ap (λ (o : Option Puid). record { name = None; id = o }) (slot_other (new_index slots) 0 (Some t) m (λ e. absurd (omega (arith, e, from))) ∙ empty_slot slots m)

        alike : (a n : ℕ) → map (λ s. empty_entry) (range_with_len a n) ≡ replicate n empty_entry
        alike a zero = refl
        alike a (suc n) = ap (λ l. empty_entry ∷ l) (alike (a + 1) n)

    pub made_nameless : (w : List ℕ) → id_under w (table_entries (filled (new_index slots) 0 (Some t)) (written (resized new_table (64 * slots)) (64 * 0) header)) ≡ None
    made_nameless w = ap (id_under w) made_entries ∙ none (slots - 1)
      where
        none : (n : ℕ) → id_under w (replicate n empty_entry) ≡ None
        none zero = refl
        none (suc n) = none n
