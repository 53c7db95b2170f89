-- What each change of a directory makes of its entries, and of all names.
use Rattle.std.proofs.Common.{◌≡◌, ◌≢◌, ℕ, ◌-◌, ◌*◌, ◌<◌, ◌≤◌, Bool, true, false, Option, Some, None, List, [], length, set, get_or, refl, sym, ◌∙◌, ap, subst, arith}
use Rattle.std.specs.Prelude.{if◌then◌else◌}
use Rattle.std.specs.Str.{bytes_eq}
use Rattle.std.proofs.lemmas.Slice.Eq.{bytes_eq-Decides}
use Rattle.cfs_base.specs.declared.identifier.Puid.{Puid}
use Rattle.ufs_model.specs.declared.object.File.{File}
use Rattle.ufs_model.specs.declared.object.Index.{Index}
use Rattle.ufs_model.specs.declared.object.Object.TheVariants as objects
use Rattle.ufs_model.specs.Graph.{Graph, with_object}
use Rattle.ufs_model.specs.Object.{filled, slot_of, written}
use Rattle.name_dirs.specs.Directory.{Entry, empty_entry, entries_in, is_table, row_at, table_entries, table_entry}
use Rattle.name_dirs.specs.Names.{AreApart, Change, ChangesNames, Nothing, Put, changed_name, has_name, id_under, is_called}
use Rattle.name_dirs.specs.Opening.{HasNoRow}
use Rattle.name_dirs.specs.Reading.{HasTable}
use Rattle.name_dirs.specs.Text.{is_other, is_row, is_text, name_in, row_size, spelled}
use Rattle.name_dirs.proofs.Entries.{leads_alike, leads_nowhere, leads_to, other_from}
use Rattle.name_dirs.proofs.Moves.{else_put, file_others, file_tables, has_entries, index_others, index_tables}
use Rattle.name_dirs.proofs.Named.{alone_by, has_filled, has_written, put_here, renamed}
use Rattle.name_dirs.proofs.Rows.{length_spelled, name_spelled, named_row, row_spelled, text_parts}
use Rattle.name_dirs.proofs.Tables.{calls_by_row, each_off, entries_filled, entries_length, entries_written, entry_at, is_now, only_entry, only_here, special_table}

-- ---- an entry that may have a name, which no other has, and has no second

pub record IsAlone (w : List ℕ) (es : List Entry) (k : ℕ) : Type 0 where
  pub within : k < length es
  pub only : (m : ℕ) → m < length es → m ≢ k → has_name w (get_or es m empty_entry) ≡ false
  pub was : (v : List ℕ) → bytes_eq v w ≡ false → has_name v (get_or es k empty_entry) ≡ false

module _ (d : Puid) (w : List ℕ) (es : List Entry) (k : ℕ) (what : Option Puid) (alone : IsAlone w es k) (v : List ℕ) where
  -- the name is put there
  pub put_named : id_under v (set es k (record { name = Some w; id = what })) ≡ changed_name (Put d w what) (id_under v es) d v
  put_named = leads_to w es k (record { name = Some w; id = what }) alone.within alone.only alone.was (λ u other. other) ((bytes_eq-Decides w w).1 refl) v ∙ sym (put_here d w v what (id_under v es))

  -- or taken out
  pub put_nameless : id_under v (set es k (record { name = None; id = what })) ≡ changed_name (Put d w None) (id_under v es) d v
  put_nameless = leads_nowhere w es k (record { name = None; id = what }) alone.within alone.only alone.was (λ u other. refl) refl v ∙ sym (put_here d w v None (id_under v es))

  -- which is nothing where it led nowhere
  pub put_nothing : id_under w es ≡ None → id_under v (set es k (record { name = None; id = what })) ≡ id_under v es
  put_nothing none = leads_nowhere w es k (record { name = None; id = what }) alone.within alone.only alone.was (λ u other. refl) refl v ∙ by (bytes_eq v w) refl
    where
      by : (b : Bool) → bytes_eq v w ≡ b → (if b then None else id_under v es) ≡ id_under v es
      by true same = sym none ∙ ap (λ (u : List ℕ). id_under u es) (sym ((bytes_eq-Decides v w).0 same))
      by false other = refl

-- ---- in a table

is_other_none : (o : Option (List ℕ)) → is_other o None ≡ true
is_other_none None = refl
is_other_none (Some v) = refl

module _ (i : Index) (f : File) (is : is_table (length i.slots) f ≡ true) (w : List ℕ) (text : is_text w ≡ true) (k : ℕ) (some : 1 ≤ k) (late : k < length i.slots) where
  pub named_at : row_at f.bytes k ≡ spelled w → name_in (row_at f.bytes k) ≡ Some w
  named_at here = ap name_in here ∙ name_spelled w (text_parts w text).some

  entry_here : get_or (table_entries i f) (k - 1) empty_entry ≡ table_entry i f k
  entry_here = entry_at i f (k - 1) (omega (arith, some, late)) ∙ ap (table_entry i f) (omega (arith, some))

  pub alone_named : row_at f.bytes k ≡ spelled w → IsAlone w (table_entries i f) (k - 1)
  alone_named here = record {
    within = omega (arith, entries_length i f, some, late);
    only = only_entry i f is w k some (only_here i f is w k some late (named_at here));
    was = λ v other. ap (has_name v) entry_here ∙ ap (is_called v) (named_at here) ∙ other;
  }

  pub alone_free : name_in (row_at f.bytes k) ≡ None → HasNoRow f.bytes (length i.slots) (spelled w) → IsAlone w (table_entries i f) (k - 1)
  alone_free free none = record {
    within = omega (arith, entries_length i f, some, late);
    only = λ m less other. each_off i f (has_name w) (spelled w) (calls_by_row i f is w text) none m less;
    was = λ v other. ap (has_name v) entry_here ∙ ap (is_called v) free;
  }

  -- ---- beside which a row may be written

  abbrev AreBeside : List ℕ → Type 0
  AreBeside row = (s : ℕ) → 1 ≤ s → s < length i.slots → s ≢ k → (is_other (name_in (row_at f.bytes s)) (name_in row) ≡ true) × (is_other (name_in row) (name_in (row_at f.bytes s)) ≡ true)

  beside_none : AreBeside (spelled [])
  beside_none s from to other = (is_other_none (name_in (row_at f.bytes s)), refl)

  beside_named : HasNoRow f.bytes (length i.slots) (spelled w) → AreBeside (spelled w)
  beside_named none s from to other =
      let off : name_in (row_at f.bytes s) ≢ Some w = λ same. none s from to (named_row (row_at f.bytes s) w ((special_table (length i.slots) f is).1.rows s from to) same) in
      let three = other_from (name_in (row_at f.bytes s)) w off in
      subst (λ name. (is_other (name_in (row_at f.bytes s)) name ≡ true) × (is_other name (name_in (row_at f.bytes s)) ≡ true)) (sym (name_spelled w (text_parts w text).some)) (three.0, three.1)

-- ---- a slot of a directory that holds something else

module _ (g : Graph) (d t : Puid) (i : Index) (f : File) (has : HasTable g d t i f) (k : ℕ) (what : Option Puid) (some : 1 ≤ k) (late : k < length i.slots) (name : Option (List ℕ)) (named : name_in (row_at f.bytes k) ≡ name) where
  abbrev with_slot : Graph
  with_slot = with_object g d (objects.Index (filled i k what))

  abbrev slotted : List Entry
  slotted = set (table_entries i f) (k - 1) (record { name = name; id = what })

  pub entries_slotted : table_entries (filled i k what) f ≡ set (table_entries i f) (k - 1) (record { name = name; id = what })
  entries_slotted = entries_filled i f k what some late ∙ ap (λ (n : Option (List ℕ)). set (table_entries i f) (k - 1) (record { name = n; id = what })) named

  pub slot_entries : entries_in (with_object g d (objects.Index (filled i k what))) d ≡ Some (set (table_entries i f) (k - 1) (record { name = name; id = what }))
  slot_entries = has_entries with_slot d t (filled i k what) f (has_filled g d t i f k what has some) ∙ ap Some entries_slotted

  slot_names : (change : Change) → ((x : Puid) (w : List ℕ) (before : Option Puid) → x ≢ d → changed_name change before x w ≡ before) → ((v : List ℕ) → id_under v slotted ≡ changed_name change (id_under v (table_entries i f)) d v) → AreApart g → ChangesNames d change g with_slot
  slot_names change else_ names apart =
      renamed g d t i f has apart change else_ with_slot (filled i k what) f (has_filled g d t i f k what has some) refl (index_others g d i (filled i k what) has.index) (index_tables g d i (filled i k what) has.index)
      (λ v. ap (id_under v) entries_slotted ∙ names v)

  -- of an entry with a name
  pub slot_bound : (w : List ℕ) → is_text w ≡ true → name ≡ Some w → row_at f.bytes k ≡ spelled w → AreApart g → ChangesNames d (Put d w what) g (with_object g d (objects.Index (filled i k what)))
  slot_bound w text is here = slot_names (Put d w what) (else_put d w what)
      (λ v. ap (λ (n : Option (List ℕ)). id_under v (set (table_entries i f) (k - 1) (record { name = n; id = what }))) is ∙ put_named d w (table_entries i f) (k - 1) what (alone_named i f has.is w text k some late here) v)

  -- of one without
  pub slot_quiet : name ≡ None → AreApart g → ChangesNames d Nothing g (with_object g d (objects.Index (filled i k what)))
  slot_quiet is = slot_names Nothing (λ x w before other. refl) (λ v. leads_alike (table_entries i f) (k - 1) (record { name = name; id = what })
      (ap (λ (e : Entry). e.name) (entry_at i f (k - 1) (omega (arith, some, late)) ∙ ap (table_entry i f) (omega (arith, some))) ∙ named ∙ is) is v)

-- ---- a row of its table that is another

module _ (g : Graph) (d t : Puid) (i : Index) (f : File) (has : HasTable g d t i f) (w : List ℕ) (text : is_text w ≡ true) (k : ℕ) (some : 1 ≤ k) (late : k < length i.slots) where
  abbrev with_row : List ℕ → Graph
  with_row row = with_object g t (objects.File (written f (row_size * k) row))

  module _ (row : List ℕ) (row_is : is_row row ≡ true) (size : length row ≡ 64) (beside : AreBeside i f has.is w text k some late row) (name : Option (List ℕ)) (named : name_in row ≡ name) where
    is_still : is_table (length i.slots) (written f (row_size * k) row) ≡ true
    is_still = is_now i f has.is k row some late row_is size beside

    has_row : HasTable (with_row row) d t i (written f (row_size * k) row)
    has_row = has_written g d t i f (written f (row_size * k) row) has is_still

    entries_row : table_entries i (written f (row_size * k) row) ≡ set (table_entries i f) (k - 1) (record { name = name; id = slot_of i k })
    entries_row = entries_written i f has.is k row some late row_is size beside ∙ ap (λ (n : Option (List ℕ)). set (table_entries i f) (k - 1) (record { name = n; id = slot_of i k })) named

    row_names : (change : Change) → ((x : Puid) (v : List ℕ) (before : Option Puid) → x ≢ d → changed_name change before x v ≡ before)
        → ((v : List ℕ) → id_under v (set (table_entries i f) (k - 1) (record { name = name; id = slot_of i k })) ≡ changed_name change (id_under v (table_entries i f)) d v) → AreApart g → ChangesNames d change g (with_row row)
    row_names change else_ names apart =
        renamed g d t i f has apart change else_ (with_row row) i (written f (row_size * k) row) has_row refl
        (file_others g t f (written f (row_size * k) row) has.table d (alone_by g d t i f (written f (row_size * k) row) has is_still apart))
        (λ x other there. file_tables g t f (written f (row_size * k) row) has.table x) (λ v. ap (id_under v) entries_row ∙ names v)

  -- zeros over the name
  module _ (here : row_at f.bytes k ≡ spelled w) where
    pub has_zeros : HasTable (with_object g t (objects.File (written f (row_size * k) (spelled [])))) d t i (written f (row_size * k) (spelled []))
    has_zeros = has_row (spelled []) (row_spelled [] refl) refl (beside_none i f has.is w text k some late) None refl

    pub entries_zeros : table_entries i (written f (row_size * k) (spelled [])) ≡ set (table_entries i f) (k - 1) (record { name = None; id = slot_of i k })
    entries_zeros = entries_row (spelled []) (row_spelled [] refl) refl (beside_none i f has.is w text k some late) None refl

    pub zeros_out : AreApart g → ChangesNames d (Put d w None) g (with_object g t (objects.File (written f (row_size * k) (spelled []))))
    zeros_out = row_names (spelled []) (row_spelled [] refl) refl (beside_none i f has.is w text k some late) None refl (Put d w None) (else_put d w None) (put_nameless d w (table_entries i f) (k - 1) (slot_of i k) (alone_named i f has.is w text k some late here))

    pub zeros_quiet : id_under w (table_entries i f) ≡ None → AreApart g → ChangesNames d Nothing g (with_object g t (objects.File (written f (row_size * k) (spelled []))))
    zeros_quiet none = row_names (spelled []) (row_spelled [] refl) refl (beside_none i f has.is w text k some late) None refl Nothing (λ x v before other. refl)
        (λ v. put_nothing d w (table_entries i f) (k - 1) (slot_of i k) (alone_named i f has.is w text k some late here) v none)

  -- the name over zeros
  module _ (free : row_at f.bytes k ≡ spelled []) (none : HasNoRow f.bytes (length i.slots) (spelled w)) where
    size : length (spelled w) ≡ 64
    size = length_spelled w (text_parts w text).few

    pub has_name_row : HasTable (with_object g t (objects.File (written f (row_size * k) (spelled w)))) d t i (written f (row_size * k) (spelled w))
    has_name_row = has_row (spelled w) (row_spelled w (text_parts w text).bytes) size (beside_named i f has.is w text k some late none) (Some w) (name_spelled w (text_parts w text).some)

    pub entries_name : table_entries i (written f (row_size * k) (spelled w)) ≡ set (table_entries i f) (k - 1) (record { name = Some w; id = slot_of i k })
    entries_name = entries_row (spelled w) (row_spelled w (text_parts w text).bytes) size (beside_named i f has.is w text k some late none) (Some w) (name_spelled w (text_parts w text).some)

    pub name_in_place : AreApart g → ChangesNames d (Put d w (slot_of i k)) g (with_object g t (objects.File (written f (row_size * k) (spelled w))))
    name_in_place = row_names (spelled w) (row_spelled w (text_parts w text).bytes) size (beside_named i f has.is w text k some late none) (Some w) (name_spelled w (text_parts w text).some) (Put d w (slot_of i k)) (else_put d w (slot_of i k))
        (put_named d w (table_entries i f) (k - 1) (slot_of i k) (alone_free i f has.is w text k some late (ap name_in free) none))
