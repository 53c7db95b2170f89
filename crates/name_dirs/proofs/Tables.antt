-- Tables by their rows, of which one is written anew, and the entries that they tell.
use Rattle.std.proofs.Common.{◌≡◌, ◌≢◌, ℕ, zero, suc, ◌+◌, ◌-◌, ◌*◌, ◌<◌, ◌≤◌, Bool, true, false, Option, Some, None, List, [], length, map, set, get_or, refl, sym, ◌∙◌, ap, subst, arith, ◌&&◌, ◌==◌}
use Rattle.std.specs.Prelude.{is_none}
use Rattle.std.specs.List.{list_all, position, range_with_len}
use Rattle.std.specs.Str.{bytes_eq}
use Rattle.std.proofs.lemmas.Bool.{and_from, and_parts, eqb-false, eqb-true}
use Rattle.std.proofs.lemmas.Bool.Decides.{nat_tests}
use Rattle.std.proofs.lemmas.List.{get_or-set_other, get_or-set_same, length-set}
use Rattle.std.proofs.lemmas.Option.{unwrap_or-slice_get}
use Rattle.std.proofs.lemmas.Slice.Eq.{bytes_eq-Decides}
use Rattle.cfs_base.specs.declared.identifier.Puid.{Puid}
use Rattle.ufs_model.specs.declared.object.File.{File}
use Rattle.ufs_model.specs.declared.object.Index.{Index}
use Rattle.ufs_model.specs.Object.{filled, slot_of, written}
use Rattle.name_dirs.specs.Directory.{Entry, are_rows, empty_entry, is_special, is_table, places, row_at, row_names, table_entries, table_entry}
use Rattle.name_dirs.specs.Names.{has_name, is_called, is_nameless}
use Rattle.name_dirs.specs.Opening.{HasNoRow, IsFirstRow}
use Rattle.name_dirs.specs.Text.{are_distinct, header, is_other, is_row, is_text, letters_in, name_in, row_size, spelled}
use Rattle.name_dirs.proofs.Entries.{distinct_at, distinct_set, found_at, found_none, length_map, map_at, map_set, other_from}
use Rattle.name_dirs.proofs.Rows.{differ, eq_is, letters_spelled, name_spelled, named_row, nameless_row, text_parts, written_here, written_length, written_other}

-- ---- a table by its rows

pub record TableParts (bytes : List ℕ) (slots : ℕ) : Type 0 where
  pub size : length bytes ≡ 64 * slots
  pub header : bytes_eq (row_at bytes 0) header ≡ true
  pub rows : (s : ℕ) → 1 ≤ s → s < slots → is_row (row_at bytes s) ≡ true
  pub distinct : are_distinct (row_names bytes slots) ≡ true

all_at : (P : ℕ → Bool) (a n m : ℕ) → list_all P (range_with_len a n) ≡ true → a ≤ m → m < a + n → P m ≡ true
all_at P a zero m all from to = absurd (omega (arith, from, to))
all_at P a (suc n) m all from to = by (a == m) refl (and_parts (P a) _ all) (λ rest more. all_at P (a + 1) n m rest more (omega (arith, to)))
  where
    by : (b : Bool) → (a == m) ≡ b → (P a ≡ true) × (list_all P (range_with_len (a + 1) n) ≡ true) → (list_all P (range_with_len (a + 1) n) ≡ true → a + 1 ≤ m → P m ≡ true) → P m ≡ true
    by true is two on = subst (λ (x : ℕ). P x ≡ true) (eqb-true a m is) two.0
    by false is two on = on two.1 (let ne = eqb-false a m is in past a m from ne)
      where
        past : (x y : ℕ) → x ≤ y → x ≢ y → x + 1 ≤ y
        past x y le ne = omega (arith, le, ne)

pub all_from : (P : ℕ → Bool) (a n : ℕ) → ((m : ℕ) → a ≤ m → m < a + n → P m ≡ true) → list_all P (range_with_len a n) ≡ true
all_from P a zero each = refl
all_from P a (suc n) each = and_from (P a) _ (each a (omega arith) (omega arith)) (all_from P (a + 1) n (λ m from to. each m (omega (arith, from)) (omega (arith, to))))

pub table_parts : (bytes : List ℕ) (slots : ℕ) → are_rows bytes slots ≡ true → TableParts bytes slots
table_parts bytes slots is =
    let a = and_parts ((length bytes == row_size * slots) && bytes_eq (row_at bytes 0) header && list_all (λ s. is_row (row_at bytes s)) (places slots)) (are_distinct (row_names bytes slots)) is in
    let b = and_parts ((length bytes == row_size * slots) && bytes_eq (row_at bytes 0) header) (list_all (λ s. is_row (row_at bytes s)) (places slots)) a.0 in
    let c = and_parts (length bytes == row_size * slots) (bytes_eq (row_at bytes 0) header) b.0 in
    record {
      size = eqb-true (length bytes) (64 * slots) c.0;
      header = c.1;
      rows = λ s from to. all_at (λ m. is_row (row_at bytes m)) 1 (slots - 1) s b.1 from (omega (arith, to, from));
      distinct = a.1;
    }

pub table_whole : (bytes : List ℕ) (slots : ℕ) → TableParts bytes slots → are_rows bytes slots ≡ true
table_whole bytes slots p =
    let size : (length bytes == 64 * slots) ≡ true = let h = p.size in grind (arith, nat_tests) in
    and_from _ _ (and_from _ _ (and_from _ _ size p.header) (all_from (λ s. is_row (row_at bytes s)) 1 (slots - 1) (λ m from to. p.rows m from (omega (arith, to, from))))) p.distinct

pub special_table : (slots : ℕ) (f : File) → is_table slots f ≡ true → (is_special f.kind ≡ true) × TableParts f.bytes slots
special_table slots f is = let two = and_parts (is_special f.kind) (are_rows f.bytes slots) is in (two.0, table_parts f.bytes slots two.1)

-- ---- the entries that it tells

pub entry_at : (i : Index) (f : File) (m : ℕ) → m < length i.slots - 1 → get_or (table_entries i f) m empty_entry ≡ table_entry i f (m + 1)
entry_at i f m less = map_at (table_entry i f) empty_entry 1 (length i.slots - 1) m less ∙ ap (table_entry i f) (omega arith)

pub entries_length : (i : Index) (f : File) → length (table_entries i f) ≡ length i.slots - 1
entries_length i f = length_map (table_entry i f) 1 (length i.slots - 1)

name_at : (bytes : List ℕ) (slots m : ℕ) → m < slots - 1 → get_or (row_names bytes slots) m None ≡ name_in (row_at bytes (m + 1))
name_at bytes slots m less = map_at (λ s. name_in (row_at bytes s)) None 1 (slots - 1) m less ∙ ap (λ (s : ℕ). name_in (row_at bytes s)) (omega arith)

-- a row has the name that it spells, and no other
pub row_called : (row w : List ℕ) → is_row row ≡ true → is_text w ≡ true → is_called w (name_in row) ≡ bytes_eq row (spelled w)
row_called row w is text = by (name_in row) refl
  where
    by : (name : Option (List ℕ)) → name_in row ≡ name → is_called w name ≡ bytes_eq row (spelled w)
    by None named = sym (differ row (spelled w) (λ same. let none : None ≡ Some w = sym named ∙ ap name_in same ∙ name_spelled w (text_parts w text).some in cc none))
    by (Some v) named =
        let spells = named_row row v is named in
        sym (eq_is row (spelled w) (bytes_eq w v) (λ same. spells ∙ ap spelled (sym ((bytes_eq-Decides w v).0 same)))
        (λ same. (bytes_eq-Decides w v).1 (sym (letters_spelled w) ∙ ap letters_in (sym same) ∙ ap letters_in spells ∙ letters_spelled v)))

pub row_nameless : (row : List ℕ) → is_row row ≡ true → is_none (name_in row) ≡ bytes_eq row (spelled [])
row_nameless row is = by (name_in row) refl
  where
    by : (name : Option (List ℕ)) → name_in row ≡ name → is_none name ≡ bytes_eq row (spelled [])
    by None named = sym ((bytes_eq-Decides row (spelled [])).1 (nameless_row row is named))
    by (Some v) named = sym (differ row (spelled []) (λ same. let none : Some v ≡ None = sym named ∙ ap name_in same in cc none))

-- ---- where a row stands among the entries

module _ (i : Index) (f : File) (p : Entry → Bool) (row : List ℕ) (told : (s : ℕ) → 1 ≤ s → s < length i.slots → p (table_entry i f s) ≡ bytes_eq (row_at f.bytes s) row) where
  off : (s : ℕ) → 1 ≤ s → s < length i.slots → row_at f.bytes s ≢ row → p (table_entry i f s) ≡ false
  off s from to other = told s from to ∙ differ (row_at f.bytes s) row other

  pub stands_at : (place : ℕ) → IsFirstRow f.bytes (length i.slots) row place → position p (table_entries i f) ≡ Some (place - 1)
  stands_at place first =
      let some = first.some in
      let late = first.within in
      let less : place - 1 < length i.slots - 1 = omega (arith, some, late) in
      let here : place - 1 + 1 ≡ place = omega (arith, some) in
      found_at p (table_entries i f) (place - 1) (omega (arith, less, entries_length i f))
      (ap p (entry_at i f (place - 1) less) ∙ ap (λ (s : ℕ). p (table_entry i f s)) here ∙ told place some late ∙ (bytes_eq-Decides (row_at f.bytes place) row).1 first.here)
      (λ m before. let within : m < length i.slots - 1 = omega (arith, before, less) in
      ap p (entry_at i f m within) ∙ off (m + 1) (omega arith) (omega (arith, within)) (first.before (m + 1) (omega arith) (omega (arith, before, some))))

  pub each_off : HasNoRow f.bytes (length i.slots) row → (m : ℕ) → m < length (table_entries i f) → p (get_or (table_entries i f) m empty_entry) ≡ false
  each_off none m less =
      let within : m < length i.slots - 1 = omega (arith, less, entries_length i f) in
      ap p (entry_at i f m within) ∙ off (m + 1) (omega arith) (omega (arith, within)) (none (m + 1) (omega arith) (omega (arith, within)))

  pub stands_nowhere : HasNoRow f.bytes (length i.slots) row → position p (table_entries i f) ≡ None
  stands_nowhere none = found_none p (table_entries i f) (each_off none)

module _ (i : Index) (f : File) (is : is_table (length i.slots) f ≡ true) where
  parts : TableParts f.bytes (length i.slots)
  parts = (special_table (length i.slots) f is).1

  pub calls_by_row : (w : List ℕ) → is_text w ≡ true → (s : ℕ) → 1 ≤ s → s < length i.slots → has_name w (table_entry i f s) ≡ bytes_eq (row_at f.bytes s) (spelled w)
  calls_by_row w text s from to = row_called (row_at f.bytes s) w (parts.rows s from to) text

  pub free_by_row : (s : ℕ) → 1 ≤ s → s < length i.slots → is_nameless (table_entry i f s) ≡ bytes_eq (row_at f.bytes s) (spelled [])
  free_by_row s from to = row_nameless (row_at f.bytes s) (parts.rows s from to)

  -- a name that stands here stands nowhere else
  pub only_here : (w : List ℕ) (k : ℕ) → 1 ≤ k → k < length i.slots → name_in (row_at f.bytes k) ≡ Some w → (s : ℕ) → 1 ≤ s → s < length i.slots → s ≢ k → name_in (row_at f.bytes s) ≢ Some w
  only_here w k some late named s from to other same =
      distinct_at (row_names f.bytes (length i.slots)) (k - 1) (s - 1) w parts.distinct (λ e. other (omega (arith, e, some, from)))
      (name_at f.bytes (length i.slots) (k - 1) (omega (arith, some, late)) ∙ ap (λ (m : ℕ). name_in (row_at f.bytes m)) (omega (arith, some)) ∙ named)
      (name_at f.bytes (length i.slots) (s - 1) (omega (arith, from, to)) ∙ ap (λ (m : ℕ). name_in (row_at f.bytes m)) (omega (arith, from)) ∙ same)

  -- so no other entry is called so
  pub only_entry : (w : List ℕ) (k : ℕ) → 1 ≤ k → ((s : ℕ) → 1 ≤ s → s < length i.slots → s ≢ k → name_in (row_at f.bytes s) ≢ Some w) → (m : ℕ) → m < length (table_entries i f) → m ≢ k - 1 → has_name w (get_or (table_entries i f) m empty_entry) ≡ false
  only_entry w k some others m less other =
      let within : m < length i.slots - 1 = omega (arith, less, entries_length i f) in
      ap (has_name w) (entry_at i f m within) ∙ (other_from (name_in (row_at f.bytes (m + 1))) w (others (m + 1) (omega arith) (omega (arith, within)) (λ e. other (omega (arith, e, some))))).2

  -- ---- one row written anew

  module _ (k : ℕ) (row : List ℕ) (some : 1 ≤ k) (late : k < length i.slots) (row_is : is_row row ≡ true) (size : length row ≡ 64)
      (apart : (s : ℕ) → 1 ≤ s → s < length i.slots → s ≢ k → (is_other (name_in (row_at f.bytes s)) (name_in row) ≡ true) × (is_other (name_in row) (name_in (row_at f.bytes s)) ≡ true)) where
    abbrev now : File
    now = written f (64 * k) row

    pub within_bytes : 64 * k + 64 ≤ length f.bytes
    within_bytes = let long = parts.size in omega (arith, long, late)

    here : row_at now.bytes k ≡ row
    here = written_here f row k size within_bytes

    other : (s : ℕ) → s ≢ k → row_at now.bytes s ≡ row_at f.bytes s
    other s off = written_other f row k size within_bytes s off

    names_now : row_names now.bytes (length i.slots) ≡ set (row_names f.bytes (length i.slots)) (k - 1) (name_in row)
    names_now =
        map_set (λ s. name_in (row_at now.bytes s)) (λ s. name_in (row_at f.bytes s)) k 1 (length i.slots - 1) some (omega (arith, some, late)) (λ m from to off. ap name_in (other m off))
        ∙ ap (set (row_names f.bytes (length i.slots)) (k - 1)) (ap name_in here)

    pub is_now : is_table (length i.slots) now ≡ true
    is_now = and_from (is_special f.kind) _ (special_table (length i.slots) f is).0 (table_whole now.bytes (length i.slots) (record {
      size = written_length f row k size within_bytes ∙ parts.size;
      header = ap (λ b. bytes_eq b header) (other 0 (λ e. absurd (omega (arith, e, some)))) ∙ parts.header;
      rows = λ s from to. each s from to (s == k) refl;
      distinct = ap are_distinct names_now ∙ distinct_set (row_names f.bytes (length i.slots)) (k - 1) (name_in row) parts.distinct differs;
    }))
      where
        each : (s : ℕ) → 1 ≤ s → s < length i.slots → (b : Bool) → (s == k) ≡ b → is_row (row_at now.bytes s) ≡ true
        each s from to true same = ap (λ (m : ℕ). is_row (row_at now.bytes m)) (eqb-true s k same) ∙ ap is_row here ∙ row_is
        each s from to false same = ap is_row (other s (eqb-false s k same)) ∙ parts.rows s from to

        differs : (m : ℕ) → m < length (row_names f.bytes (length i.slots)) → m ≢ k - 1 → (is_other (get_or (row_names f.bytes (length i.slots)) m None) (name_in row) ≡ true) × (is_other (name_in row) (get_or (row_names f.bytes (length i.slots)) m None) ≡ true)
        differs m less off =
            let within : m < length i.slots - 1 = omega (arith, less, length_map (λ s. name_in (row_at f.bytes s)) 1 (length i.slots - 1)) in
            subst (λ n. (is_other n (name_in row) ≡ true) × (is_other (name_in row) n ≡ true)) (sym (name_at f.bytes (length i.slots) m within)) (apart (m + 1) (omega arith) (omega (arith, within)) (λ e. off (omega (arith, e, some))))

    pub entries_written : table_entries i now ≡ set (table_entries i f) (k - 1) (record { name = name_in row; id = slot_of i k })
    entries_written =
        map_set (table_entry i now) (table_entry i f) k 1 (length i.slots - 1) some (omega (arith, some, late)) (λ m from to off. ap (λ (r : List ℕ). record { name = name_in r; id = slot_of i m }) (other m off))
        ∙ ap (λ (r : List ℕ). set (table_entries i f) (k - 1) (record { name = name_in r; id = slot_of i k })) here

-- ---- a slot filled

pub slot_here : (i : Index) (k : ℕ) (what : Option Puid) → k < length i.slots → slot_of (filled i k what) k ≡ what
slot_here i k what late = unwrap_or-slice_get (set i.slots k what) k None ∙ get_or-set_same i.slots k what None late

pub slot_other : (i : Index) (k : ℕ) (what : Option Puid) (m : ℕ) → m ≢ k → slot_of (filled i k what) m ≡ slot_of i m
slot_other i k what m other = unwrap_or-slice_get (set i.slots k what) m None ∙ get_or-set_other i.slots k m what None other ∙ sym (unwrap_or-slice_get i.slots m None)

pub as_many : (i : Index) (k : ℕ) (what : Option Puid) → length (filled i k what).slots ≡ length i.slots
as_many i k what = length-set i.slots k what

pub entries_filled : (i : Index) (f : File) (k : ℕ) (what : Option Puid) → 1 ≤ k → k < length i.slots → table_entries (filled i k what) f ≡ set (table_entries i f) (k - 1) (record { name = name_in (row_at f.bytes k); id = what })
entries_filled i f k what some late =
    ap (λ (n : ℕ). map (table_entry (filled i k what) f) (places n)) (as_many i k what)
    ∙ map_set (table_entry (filled i k what) f) (table_entry i f) k 1 (length i.slots - 1) some (omega (arith, some, late)) (λ m from to off. ap (λ (id : Option Puid). record { name = name_in (row_at f.bytes m); id = id }) (slot_other i k what m off))
    ∙ ap (λ (id : Option Puid). set (table_entries i f) (k - 1) (record { name = name_in (row_at f.bytes k); id = id })) (slot_here i k what late)
