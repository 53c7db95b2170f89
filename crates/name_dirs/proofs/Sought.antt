-- A name looked up, and the names that are listed.
use Rattle.std.proofs.Common.{◌≡◌, ◌⊎◌, inl, inr, ℕ, suc, ◌+◌, ◌-◌, ◌*◌, ◌<◌, ◌≤◌, Bool, true, false, ◌&&◌, ◌||◌, Option, Some, None, List, [], ◌∷◌, ◌++◌, length, map, drop, get_or, refl, sym, ◌∙◌, ap, subst, arith}
use Rattle.std.specs.Option.{ok_or}
use Rattle.std.specs.Prelude.{Err, Ok, Result, is_none, is_some, option_and_then, slice_get, unwrap_or, if◌then◌else◌}
use Rattle.std.specs.List.{list_all, range_with_len}
use Rattle.std.specs.Str.{bytes_eq}
use Rattle.std.proofs.lemmas.Bool.{and_from, or_cases, or_left, or_right}
use Rattle.std.proofs.lemmas.List.{length-drop, length-take-le, map-append}
use Rattle.std.proofs.lemmas.Slice.Eq.{bytes_eq-Decides}
use Rattle.cfs_base.specs.declared.identifier.Puid.{Puid}
use Rattle.ufs_model.specs.declared.asker.Asker.{Ghosts}
use Rattle.ufs_model.specs.declared.object.File.{File}
use Rattle.ufs_model.specs.declared.object.Index.{Index}
use Rattle.ufs_model.specs.Graph.{Graph}
use Rattle.ufs_model.specs.Object.{slot_of}
use Rattle.ufs_model.specs.State.{State, is_running}
use Rattle.ufs_model.proofs.Rising.{numbers_more}
use Rattle.name_dirs.specs.declared.fault.DirFault.{DirFault}
use Rattle.name_dirs.specs.declared.fault.DirFault.TheVariants as faults
use Rattle.name_dirs.specs.declared.table.Table.{Table}
use Rattle.name_dirs.specs.Calls.{AreListed, Lists, LooksUp, ReadsOn}
use Rattle.name_dirs.specs.Directory.{Entry, empty_entry, entries_in, is_table, row_at, table_entries, table_entry}
use Rattle.name_dirs.specs.Faults.{IsDirFault, IsReadTrouble, StopsWith, due_name, due_of}
use Rattle.name_dirs.specs.Names.{has_name, id_under, is_called}
use Rattle.name_dirs.specs.Opening.{HasNoRow, IsFirstRow, IsTableOf, Opens}
use Rattle.name_dirs.specs.Reading.{IsLookFault, IsReadFault, Looks, LooksAtSlot}
use Rattle.name_dirs.specs.Text.{AddsText, has_text, is_row, is_text, name_in, names_rise, spelled}
use Rattle.name_dirs.proofs.Entries.{length_map, map_at, other_from}
use Rattle.name_dirs.proofs.Found.{fault_with, under_no_row, under_row}
use Rattle.name_dirs.proofs.Heard.{runs_on}
use Rattle.name_dirs.proofs.Looked.{looks_err, looks_ok, looks_on, looks_own, looks_stop}
use Rattle.name_dirs.proofs.Opened.{read_fault}
use Rattle.name_dirs.proofs.Rows.{text_named, unless}
use Rattle.name_dirs.proofs.Tables.{TableParts, only_here, special_table}
use Rattle.name_dirs.proofs.Told.{HasOpened, due_now, entries_now, first_row_of, looks_slot, no_row_of, slot_told}

-- ---- what is told, as the contracts say it

abbrev pub IsUp : State → Puid → List ℕ → Puid → Type 0
IsUp s dir w id = option_and_then (id_under w) (entries_in s.graph dir) ≡ Some id

abbrev pub UpFault : State → Puid → List ℕ → DirFault → Type 0
UpFault s dir w fault = IsDirFault (due_of s dir (due_name w)) (IsReadTrouble s dir) (λ reply. ⊥) fault

abbrev pub AreNames : State → Puid → List (List ℕ) → Type 0
AreNames s dir names = (es : List Entry) × (entries_in s.graph dir ≡ Some es) × AreListed es names

module _ {A : Type 0} (g : Ghosts A) (who : ℕ) (dir : Puid) (s : State) (a b : A) where
  pub looked_up : (w : List ℕ) (r : Result Puid DirFault) → Looks g who s (IsUp s dir w) (UpFault s dir w) a b r → (t : State) × ReadsOn g who a b s t × StopsWith s t r × LooksUp s t dir w r
  looked_up w (Ok id) looks = (looks.after, looks.calls, looks_stop g who s (IsUp s dir w) (UpFault s dir w) a b (Ok id) looks, (looks.told.0, looks.told.2))
  looked_up w (Err fault) looks = (looks.after, looks.calls, looks_stop g who s (IsUp s dir w) (UpFault s dir w) a b (Err fault) looks, looks.told.2)

  pub listed_all : (r : Result (List (List ℕ)) DirFault) → Looks g who s (AreNames s dir) (IsReadFault s dir) a b r → (t : State) × ReadsOn g who a b s t × StopsWith s t r × Lists s t dir r
  listed_all (Ok names) looks = (looks.after, looks.calls, looks_stop g who s (AreNames s dir) (IsReadFault s dir) a b (Ok names) looks, (looks.told.0, looks.told.2))
  listed_all (Err fault) looks = (looks.after, looks.calls, looks_stop g who s (AreNames s dir) (IsReadFault s dir) a b (Err fault) looks, looks.told.2)

-- ---- a name looked up

module _ {A : Type 0} (g : Ghosts A) (who : ℕ) (dir : Puid) (s : State) (w : List ℕ) (a b : A) where
  abbrev Up : A → Result Puid DirFault → Type 0
  Up c r = Looks g who s (IsUp s dir w) (UpFault s dir w) a c r

  pub look_unread : (fault : DirFault) → g.stands a s → Opens g who dir a b (Err fault) → Looks g who s (IsUp s dir w) (UpFault s dir w) a b (Err fault)
  look_unread fault stands went = looks_err g who s _ (IsReadFault s dir) (IsUp s dir w) (UpFault s dir w) a b fault (went s stands) (fault_with s dir (due_name w) (λ reply. ⊥) fault)

  module _ (table : Table) (o : HasOpened g who dir a b s table) (text : is_text w ≡ true) (row : List ℕ) (is : row ≡ spelled w) where
    abbrev entries : List Entry
    entries = table_entries o.of.index o.of.file

    no_name : id_under w entries ≡ None → due_of s dir (due_name w) ≡ Some faults.NoName
    no_name none = due_now g who dir a b s table o (due_name w) ∙ ap (λ (id : Option Puid). if is_none id then Some faults.NoName else None) none

    pub look_none : HasNoRow table.bytes table.slots row → Looks g who s (IsUp s dir w) (UpFault s dir w) a b (Err faults.NoName)
    look_none none = looks_own g who s (IsUp s dir w) (UpFault s dir w) a b faults.NoName o.reads refl (runs_on s faults.NoName o.runs)
        (no_name (under_no_row o.of.index o.of.file o.of.has.is w text (no_row_of s.graph dir table o.of row w is none)))

    module _ (place : ℕ) (stands_there : IsFirstRow table.bytes table.slots row place) (c : A) where
      first : IsFirstRow o.of.file.bytes (length o.of.index.slots) (spelled w) place
      first = first_row_of s.graph dir table o.of row w place is stands_there

      pub look_fault : (fault : DirFault) → LooksAtSlot g who dir place b c (Err fault) → Looks g who s (IsUp s dir w) (UpFault s dir w) a c (Err fault)
      look_fault fault went = looks_on g who s (IsUp s dir w) (UpFault s dir w) a b c (Err fault) o.reads
          (looks_err g who s _ (IsLookFault s dir) (IsUp s dir w) (UpFault s dir w) b c fault (looks_slot g who dir a b s table o place c (Err fault) first.within went)
          (λ cause. fault_with s dir (due_name w) (λ reply. ⊥) fault (read_fault s dir dir fault (λ bars. inl bars) cause)))

      under : id_under w entries ≡ slot_of o.of.index place
      under = under_row o.of.index o.of.file o.of.has.is w text place first

      pub look_slot : (what : Option Puid) → LooksAtSlot g who dir place b c (Ok what) → Looks g who s (IsUp s dir w) (UpFault s dir w) a c (ok_or what faults.NoName)
      look_slot None went =
          let told = slot_told g who dir a b s table o place c None first.within went in
          looks_own g who s (IsUp s dir w) (UpFault s dir w) a c faults.NoName told.0 refl (runs_on s faults.NoName o.runs) (no_name (under ∙ sym told.1))
      look_slot (Some id) went =
          let told = slot_told g who dir a b s table o place c (Some id) first.within went in
          looks_ok g who s (IsUp s dir w) (UpFault s dir w) a c id told.0 o.runs (ap (option_and_then (id_under w)) (entries_now g who dir a b s table o) ∙ under ∙ sym told.1)

-- ---- the entries so far

abbrev entries_to : Index → File → ℕ → List Entry
entries_to i f n = map (table_entry i f) (range_with_len 1 n)

-- the names are those of the entries below this place that lead somewhere
pub record AreListedTo (i : Index) (f : File) (names : List (List ℕ)) (place : ℕ) : Type 0 where
  pub has : (w : List ℕ) → has_text w names ≡ is_some (id_under w (entries_to i f (place - 1)))
  pub texts : (w : List ℕ) → has_text w names ≡ true → is_text w ≡ true

pub list_begin : (i : Index) (f : File) → AreListedTo i f [] 1
list_begin i f = record { has = λ w. refl; texts = λ w has. cc has }

or_false : (b : Bool) → (b || false) ≡ b
or_false true = refl
or_false false = refl

and_false : (b : Bool) → (b && false) ≡ false
and_false true = refl
and_false false = refl

and_true : (b : Bool) → (b && true) ≡ b
and_true true = refl
and_true false = refl

-- one entry more, whose name no other has
under_push : (w : List ℕ) (es : List Entry) (e : Entry) → (has_name w e ≡ true → (m : ℕ) → m < length es → has_name w (get_or es m empty_entry) ≡ false) → is_some (id_under w (es ++ e ∷ [])) ≡ (is_some (id_under w es) || (has_name w e && is_some e.id))
under_push w [] e alone = by (has_name w e)
  where
    by : (b : Bool) → is_some (if b then e.id else None) ≡ (false || (b && is_some e.id))
    by true = refl
    by false = refl
under_push w (x ∷ es) e alone = by (has_name w x) refl (under_push w es e (λ has m less. alone has (suc m) (omega (arith, less))))
  where
    by : (b : Bool) → has_name w x ≡ b → is_some (id_under w (es ++ e ∷ [])) ≡ (is_some (id_under w es) || (has_name w e && is_some e.id))
        → is_some (if b then x.id else id_under w (es ++ e ∷ [])) ≡ (is_some (if b then x.id else id_under w es) || (has_name w e && is_some e.id))
    by true is rest =
        let none : has_name w e ≡ false = unless (has_name w e) (λ has. let both : true ≡ false = sym is ∙ alone has 0 (omega arith) in cc both) in
        sym (ap (λ b. is_some x.id || (b && is_some e.id)) none ∙ or_false (is_some x.id))
    by false is rest = rest

called_is : (w : List ℕ) (name : Option (List ℕ)) → is_called w name ≡ true → name ≡ Some w
called_is w None is = cc is
called_is w (Some v) is = ap Some (sym ((bytes_eq-Decides w v).0 is))

texts_all : (ws : List (List ℕ)) → ((w : List ℕ) → has_text w ws ≡ true → is_text w ≡ true) → list_all is_text ws ≡ true
texts_all [] each = refl
texts_all (v ∷ ws) each = and_from (is_text v) _ (each v (or_left (bytes_eq v v) (has_text v ws) ((bytes_eq-Decides v v).1 refl))) (texts_all ws (λ w has. each w (or_right (bytes_eq w v) (has_text w ws) has)))

module _ (i : Index) (f : File) (is : is_table (length i.slots) f ≡ true) where
  parts : TableParts f.bytes (length i.slots)
  parts = (special_table (length i.slots) f is).1

  module _ (names : List (List ℕ)) (place : ℕ) (some : 1 ≤ place) (late : place < length i.slots) (so_far : AreListedTo i f names place) where
    entries_more : entries_to i f (place + 1 - 1) ≡ entries_to i f (place - 1) ++ table_entry i f place ∷ []
    entries_more =
        let next : place + 1 - 1 ≡ suc (place - 1) = omega (arith, some) in
        ap (entries_to i f) next ∙ ap (map (table_entry i f)) (numbers_more 1 (place - 1) place (omega (arith, some)))
        ∙ map-append (table_entry i f) (range_with_len 1 (place - 1)) (place ∷ [])

    alone : (w : List ℕ) → has_name w (table_entry i f place) ≡ true → (m : ℕ) → m < length (entries_to i f (place - 1)) → has_name w (get_or (entries_to i f (place - 1)) m empty_entry) ≡ false
    alone w has m less =
        let low : m < place - 1 = omega (arith, less, length_map (table_entry i f) 1 (place - 1)) in
        let named = called_is w (name_in (row_at f.bytes place)) has in
        let off = only_here i f is w place some late named (1 + m) (omega arith) (omega (arith, low, late)) (λ same. absurd (omega (arith, same, low))) in
        ap (has_name w) (map_at (table_entry i f) empty_entry 1 (place - 1) m low) ∙ (other_from (name_in (row_at f.bytes (1 + m))) w off).2

    grown : (w : List ℕ) → is_some (id_under w (entries_to i f (place + 1 - 1))) ≡ (has_text w names || (has_name w (table_entry i f place) && is_some (slot_of i place)))
    grown w =
        ap (λ es. is_some (id_under w es)) entries_more ∙ under_push w (entries_to i f (place - 1)) (table_entry i f place) (alone w)
        ∙ ap (λ b. b || (has_name w (table_entry i f place) && is_some (slot_of i place))) (sym (so_far.has w))

    -- it has no name
    pub list_nameless : name_in (row_at f.bytes place) ≡ None → AreListedTo i f names (place + 1)
    list_nameless none = record {
      has = λ w. sym (grown w ∙ ap (λ o. has_text w names || (is_called w o && is_some (slot_of i place))) none ∙ or_false (has_text w names));
      texts = so_far.texts;
    }

    -- or it leads nowhere
    pub list_empty : slot_of i place ≡ None → AreListedTo i f names (place + 1)
    list_empty none = record {
      has = λ w. sym (grown w ∙ ap (λ (o : Option Puid). has_text w names || (has_name w (table_entry i f place) && is_some o)) none ∙ ap (λ b. has_text w names || b) (and_false (has_name w (table_entry i f place))) ∙ or_false (has_text w names));
      texts = so_far.texts;
    }

    -- or its name is one more
    pub list_more : (v : List ℕ) (id : Puid) (new : List (List ℕ)) (was_new : Bool) → name_in (row_at f.bytes place) ≡ Some v → slot_of i place ≡ Some id → AddsText names new v was_new → AreListedTo i f new (place + 1)
    list_more v id new was_new named held adds = record {
      has = λ w. adds.has w ∙ turned (bytes_eq w v) (has_text w names)
          ∙ sym (grown w ∙ ap (λ o. has_text w names || (is_called w o && is_some (slot_of i place))) named ∙ ap (λ (o : Option Puid). has_text w names || (bytes_eq w v && is_some o)) held ∙ ap (λ b. has_text w names || b) (and_true (bytes_eq w v)));
      texts = λ w has. by w (or_cases (bytes_eq w v) (has_text w names) (sym (adds.has w) ∙ has));
    }
      where
        turned : (a b : Bool) → (a || b) ≡ (b || a)
        turned true true = refl
        turned true false = refl
        turned false true = refl
        turned false false = refl

        row_long : length (row_at f.bytes place) ≡ 64
        row_long = let size = parts.size in length-take-le 64 (drop (64 * place) f.bytes) (omega (arith, size, late, length-drop (64 * place) f.bytes))

        by : (w : List ℕ) → (bytes_eq w v ≡ true) ⊎ (has_text w names ≡ true) → is_text w ≡ true
        by w (inl same) = subst (λ (l : List ℕ). is_text l ≡ true) (sym ((bytes_eq-Decides w v).0 same)) (text_named (row_at f.bytes place) v row_long (parts.rows place some late) named)
        by w (inr before) = so_far.texts w before

  pub list_end : (names : List (List ℕ)) → AreListedTo i f names (length i.slots) → names_rise names ≡ true → AreListed (table_entries i f) names
  list_end names so_far rise = record { rise = rise; texts = texts_all names so_far.texts; all = λ w text. so_far.has w }

-- the name that was copied out of a row
pub name_told : (g : Graph) (dir : Puid) (table : Table) (of : IsTableOf g dir table) (place : ℕ) (name : Option (List ℕ)) → 1 ≤ place → place < table.slots → (is_row (row_at table.bytes place) ≡ true → name ≡ name_in (row_at table.bytes place)) → name_in (row_at of.file.bytes place) ≡ name
name_told g dir table of place name some late told =
    let slots = of.slots in
    let row = (special_table (length of.index.slots) of.file of.has.is).1.rows place some (omega (arith, late, slots)) in
    let same = ap (λ (l : List ℕ). row_at l place) of.bytes in
    sym (told (ap is_row same ∙ row) ∙ ap name_in same)

-- a table has a header
pub some_slots : (g : Graph) (dir : Puid) (table : Table) (of : IsTableOf g dir table) → 1 ≤ table.slots
some_slots g dir table of = let slots = of.slots in omega (arith, slots, by of.index.slots of.has.first)
  where
    by : (l : List (Option Puid)) → unwrap_or (slice_get l 0) None ≡ Some table.file → 1 ≤ length l
    by [] is = cc is
    by (x ∷ l) is = omega arith

-- ---- faults in listing

module _ {A : Type 0} (g : Ghosts A) (who : ℕ) (dir : Puid) (s : State) (a b : A) where
  pub list_unread : (fault : DirFault) → g.stands a s → Opens g who dir a b (Err fault) → Looks g who s (AreNames s dir) (IsReadFault s dir) a b (Err fault)
  list_unread fault stands went = looks_err g who s _ (IsReadFault s dir) (AreNames s dir) (IsReadFault s dir) a b fault (went s stands) (λ cause. cause)

  pub list_starved : ReadsOn g who a b s s → is_running s ≡ true → Looks g who s (AreNames s dir) (IsReadFault s dir) a b (Err faults.Memory)
  list_starved reads runs = looks_own g who s (AreNames s dir) (IsReadFault s dir) a b faults.Memory reads refl (runs_on s faults.Memory runs) tt

  module _ (table : Table) (o : HasOpened g who dir a b s table) where
    pub list_fault : (place : ℕ) (c : A) (fault : DirFault) → place < table.slots → LooksAtSlot g who dir place b c (Err fault) → Looks g who s (AreNames s dir) (IsReadFault s dir) a c (Err fault)
    list_fault place c fault late went =
        let slots = o.of.slots in
        looks_on g who s (AreNames s dir) (IsReadFault s dir) a b c (Err fault) o.reads
        (looks_err g who s _ (IsLookFault s dir) (AreNames s dir) (IsReadFault s dir) b c fault (looks_slot g who dir a b s table o place c (Err fault) (omega (arith, late, slots)) went) (read_fault s dir dir fault (λ bars. inl bars)))

    pub list_done : (names : List (List ℕ)) → AreListedTo o.of.index o.of.file names table.slots → names_rise names ≡ true → Looks g who s (AreNames s dir) (IsReadFault s dir) a b (Ok names)
    list_done names so_far rise = looks_ok g who s (AreNames s dir) (IsReadFault s dir) a b names o.reads o.runs
        (entries_of, entries_now g who dir a b s table o, list_end o.of.index o.of.file o.of.has.is names (subst (AreListedTo o.of.index o.of.file names) o.of.slots so_far) rise)
      where
        entries_of : List Entry
        entries_of = table_entries o.of.index o.of.file
