-- The names of all directories after each change that a call makes.
use Rattle.std.proofs.Common.{◌≡◌, ◌≢◌, ◌⊎◌, inl, inr, ℕ, zero, suc, ◌*◌, ◌<◌, ◌≤◌, Bool, true, false, Option, Some, None, List, [], ◌∷◌, length, refl, sym, ◌∙◌, ap, arith}
use Rattle.std.specs.Prelude.{is_some, option_and_then, slice_get, if◌then◌else◌, unwrap_or}
use Rattle.std.specs.List.{filter_map}
use Rattle.std.specs.Str.{bytes_eq}
use Rattle.std.proofs.lemmas.Bool.{and_parts, or_left, or_right}
use Rattle.cfs_base.specs.declared.identifier.Puid.{Puid}
use Rattle.ufs_model.specs.declared.object.File.{File}
use Rattle.ufs_model.specs.declared.object.Index.{Index}
use Rattle.ufs_model.specs.declared.object.Object.{Object}
use Rattle.ufs_model.specs.declared.object.Object.TheVariants as objects
use Rattle.ufs_model.specs.Graph.{Graph, IsGraph, is_there, object_at, with_object}
use Rattle.ufs_model.specs.Identifier.{is_among, same_puid}
use Rattle.ufs_model.specs.Object.{filled, slot_of}
use Rattle.ufs_model.proofs.Graphs.{refers}
use Rattle.ufs_model.proofs.Reached.{same_puid_itself}
use Rattle.ufs_model.proofs.WellGraphs.{graph_refers}
use Rattle.name_dirs.specs.Directory.{Entry, are_rows, entries_in, entries_of_index, entries_with, file_at, file_in, index_at, index_in, is_directory, is_table, table_entries, table_in}
use Rattle.name_dirs.specs.Names.{AreApart, Change, ChangesNames, Nothing, Put, changed_name, id_under, name_at}
use Rattle.name_dirs.specs.Reading.{HasTable}
use Rattle.name_dirs.proofs.Altered.{apart_from, at_here, at_other}
use Rattle.name_dirs.proofs.Heard.{index_is}
use Rattle.name_dirs.proofs.Moves.{entries_by_file, file_here, file_others, file_tables, has_directory, has_entries, has_table_in, index_here, index_others, index_tables, mine_still, named_so, same_entries, same_file, same_index, same_table_in}
use Rattle.name_dirs.proofs.Tables.{as_many, slot_here, slot_other, table_parts}

pub put_here : (d : Puid) (w v : List ℕ) (what before : Option Puid) → changed_name (Put d w what) before d v ≡ (if bytes_eq v w then what else before)
put_here d w v what before = rw (same_puid_itself d) refl

-- ---- a directory with another slot or another table

module _ (g : Graph) (d t : Puid) (i : Index) (f : File) (has : HasTable g d t i f) (apart : AreApart g) (change : Change) (elsewhere : (x : Puid) (w : List ℕ) (before : Option Puid) → x ≢ d → changed_name change before x w ≡ before) where
  named_was : (w : List ℕ) → name_at g d w ≡ id_under w (table_entries i f)
  named_was w = ap (option_and_then (id_under w)) (has_entries g d t i f has)

  module _ (h : Graph) (j : Index) (n : File) (now : HasTable h d t j n) (root : h.root ≡ g.root) (others : (x : Puid) → x ≢ d → entries_in h x ≡ entries_in g x)
      (tables : (x : Puid) → x ≢ d → is_directory g x ≡ true → table_in h x ≡ table_in g x) (names : (w : List ℕ) → id_under w (table_entries j n) ≡ changed_name change (id_under w (table_entries i f)) d w) where
    pub renamed : ChangesNames d change g h
    renamed = named_so d change g h apart root others tables (λ there. has_directory h d t j n now)
        (λ there. mine_still d t g h apart (has_directory g d t i f has) (has_table_in g d t i f has) (has_table_in h d t j n now))
        (λ w. ap (option_and_then (id_under w)) (has_entries h d t j n now) ∙ names w ∙ ap (λ o. changed_name change o d w) (sym (named_was w))) elsewhere

pub has_filled : (g : Graph) (d t : Puid) (i : Index) (f : File) (k : ℕ) (what : Option Puid) → HasTable g d t i f → 1 ≤ k → HasTable (with_object g d (objects.Index (filled i k what))) d t (filled i k what) f
has_filled g d t i f k what has some = record {
  index = index_here g d i (filled i k what) has.index;
  first = slot_other i k what 0 (λ e. absurd (omega (arith, e, some))) ∙ has.first;
  table = same_file g d i (filled i k what) has.index t ∙ has.table;
  is = ap (λ (n : ℕ). is_table n f) (as_many i k what) ∙ has.is;
}

-- an index that has the table isn't the table
table_apart : (g : Graph) (d t : Puid) (i : Index) (f : File) → HasTable g d t i f → d ≢ t
table_apart g d t i f has same = no (object_at g d) has.index (ap file_at_ same ∙ has.table)
  where
    file_at_ : Puid → Option File
    file_at_ x = file_at g x

    no : (o : Option Object) → index_in o ≡ Some i → file_in o ≡ Some f → ⊥
    no None one two = cc one
    no (Some (objects.File e)) one two = cc one
    no (Some (objects.Index e)) one two = cc two

pub has_written : (g : Graph) (d t : Puid) (i : Index) (f n : File) → HasTable g d t i f → is_table (length i.slots) n ≡ true → HasTable (with_object g t (objects.File n)) d t i n
has_written g d t i f n has is = record { index = same_index g t f n has.table d ∙ has.index; first = has.first; table = file_here g t f n has.table; is = is }

-- the table of a directory is no other's, so no other index has entries by it, before or after
pub alone_by : (g : Graph) (d t : Puid) (i : Index) (f n : File) → HasTable g d t i f → is_table (length i.slots) n ≡ true → AreApart g → (x : Puid) (j : Index) → x ≢ d → index_at g x ≡ Some j → slot_of j 0 ≡ Some t → entries_with j n ≡ entries_with j f
alone_by g d t i f n has is apart x j other there first = by (is_table (length j.slots) f) (is_table (length j.slots) n) refl refl
  where
    long : (slots : ℕ) (e : File) → is_table slots e ≡ true → length e.bytes ≡ 64 * slots
    long slots e so = (table_parts e.bytes slots (and_parts _ (are_rows e.bytes slots) so).1).size

    same : (e : File) → is_table (length j.slots) e ≡ true → is_table (length i.slots) e ≡ true → is_table (length j.slots) f ≡ true
    same e one two =
        let slots : length j.slots ≡ length i.slots = omega (arith, long (length j.slots) e one, long (length i.slots) e two) in
        ap (λ (m : ℕ). is_table m f) slots ∙ has.is

    never : is_table (length j.slots) f ≡ true → ⊥
    never so =
        let entries : entries_in g x ≡ Some (table_entries j f) = rw (there, first, has.table, so) refl in
        let table : table_in g x ≡ Some t = rw there first in
        other (apart.apart x d t (ap is_some entries) (has_directory g d t i f has) table (has_table_in g d t i f has))

    by : (a b : Bool) → is_table (length j.slots) f ≡ a → is_table (length j.slots) n ≡ b → entries_with j n ≡ entries_with j f
    by true b so is_n = absurd (never so)
    by false true so is_n = absurd (never (same n is_n is))
    by false false so is_n = rw (so, is_n) refl

-- ---- an index that is no directory before and after

module _ (g : Graph) (d : Puid) (h : Graph) (apart : AreApart g) (root : h.root ≡ g.root) (others : (x : Puid) → x ≢ d → entries_in h x ≡ entries_in g x) (tables : (x : Puid) → x ≢ d → is_directory g x ≡ true → table_in h x ≡ table_in g x)
    (was : entries_in g d ≡ None) (now : entries_in h d ≡ None) where
  pub unnamed_still : ChangesNames d Nothing g h
  unnamed_still = named_so d Nothing g h apart root others tables (λ there. let both : true ≡ false = sym there ∙ ap is_some was in cc both) (λ there. let both : true ≡ false = sym there ∙ ap is_some now in cc both)
      (λ w. ap (option_and_then (id_under w)) (now ∙ sym was)) (λ x w before other. refl)

no_entries : (o : Option (List Entry)) → is_some o ≡ false → o ≡ None
no_entries None is = refl
no_entries (Some es) is = cc is

pub by_index : (h : Graph) (d : Puid) (j : Index) → index_at h d ≡ Some j → entries_in h d ≡ entries_of_index h j
by_index h d j at = ap (option_and_then (entries_of_index h)) at

pub by_first : (h : Graph) (j : Index) (o : Option Puid) → slot_of j 0 ≡ o → entries_of_index h j ≡ option_and_then (entries_with j) (option_and_then (file_at h) o)
by_first h j o first = ap (λ (x : Option Puid). option_and_then (entries_with j) (option_and_then (file_at h) x)) first

-- filled with what is no file, or past its first slot
module _ (g : Graph) (d : Puid) (i : Index) (k : ℕ) (id : Puid) (apart : AreApart g) (at : index_at g d ≡ Some i) (late : k < length i.slots) (none : is_directory g d ≡ false) (no_file : file_at g id ≡ None) where
  abbrev j : Index
  j = filled i k (Some id)

  abbrev h : Graph
  h = with_object g d (objects.Index j)

  none_with : (o : Option File) → option_and_then (entries_with i) o ≡ None → option_and_then (entries_with j) o ≡ None
  none_with None is = refl
  none_with (Some f) is = by (is_table (length i.slots) f) refl
    where
      by : (b : Bool) → is_table (length i.slots) f ≡ b → entries_with j f ≡ None
      by true so = let entries : entries_with i f ≡ Some (table_entries i f) = rw so refl in let both : Some (table_entries i f) ≡ None = sym entries ∙ is in cc both
      by false so = let now : is_table (length j.slots) f ≡ false = ap (λ (n : ℕ). is_table n f) (as_many i k (Some id)) ∙ so in rw now refl

  files : (o : Option Puid) → option_and_then (file_at h) o ≡ option_and_then (file_at g) o
  files None = refl
  files (Some x) = same_file g d i j at x

  was : entries_in g d ≡ None
  was = no_entries (entries_in g d) none

  index_now : (k ≡ 0) ⊎ (k ≢ 0) → entries_in h d ≡ None
  index_now (inl zero_) = by_index h d j (index_here g d i j at) ∙ by_first h j (Some id) (ap (λ (n : ℕ). slot_of (filled i n (Some id)) 0) zero_ ∙ slot_here i 0 (Some id) (omega (arith, late))) ∙ ap (option_and_then (entries_with j)) (files (Some id) ∙ no_file)
  index_now (inr other) =
      by_index h d j (index_here g d i j at) ∙ by_first h j (slot_of i 0) (slot_other i k (Some id) 0 (λ e. other (sym e)))
      ∙ none_with (option_and_then (file_at h) (slot_of i 0)) (ap (option_and_then (entries_with i)) (files (slot_of i 0)) ∙ sym (by_index g d i at) ∙ was)

  pub filled_index : ChangesNames d Nothing g h
  filled_index = unnamed_still g d h apart refl (index_others g d i j at) (index_tables g d i j at) was (index_now (zero_or k))
    where
      zero_or : (n : ℕ) → (n ≡ 0) ⊎ (n ≢ 0)
      zero_or zero = inl refl
      zero_or (suc n) = inr (λ e. absurd (omega (arith, e)))

-- ---- a new object

slot_among : (slots : List (Option Puid)) (k : ℕ) (x : Puid) → unwrap_or (slice_get slots k) None ≡ Some x → is_among x (filter_map (λ slot. slot) slots) ≡ true
slot_among [] k x is = cc is
slot_among (None ∷ slots) zero x is = cc is
slot_among (Some y ∷ slots) zero x is = let same : y ≡ x = cc is in or_left (same_puid x y) (is_among x (filter_map (λ slot. slot) slots)) (ap (same_puid x) same ∙ same_puid_itself x)
slot_among (None ∷ slots) (suc k) x is = slot_among slots k x is
slot_among (Some y ∷ slots) (suc k) x is = or_right (same_puid x y) (is_among x (filter_map (λ slot. slot) slots)) (slot_among slots k x is)

-- what a slot holds is there
pub held_there : (g : Graph) (d : Puid) (i : Index) (k : ℕ) (x : Puid) → IsGraph g → index_at g d ≡ Some i → slot_of i k ≡ Some x → is_there g x ≡ true
held_there g d i k x well at held =
    graph_refers g well d x (ap (λ (o : Option Object). refers o x) (index_is (object_at g d) i at) ∙ slot_among i.slots k x held)

pub absent_object : (g : Graph) (x : Puid) → is_there g x ≡ false → object_at g x ≡ None
absent_object g x none = by (object_at g x) none
  where
    by : (o : Option Object) → is_some o ≡ false → o ≡ None
    by None is = refl
    by (Some o) is = cc is

pub index_there : (g : Graph) (x : Puid) (i : Index) → index_at g x ≡ Some i → is_there g x ≡ true
index_there g x i at = ap is_some (index_is (object_at g x) i at)

module _ (g : Graph) (id : Puid) (o : Object) (apart : AreApart g) (well : IsGraph g) (new : is_there g id ≡ false) (bare : (j : Index) → index_in (Some o) ≡ Some j → slot_of j 0 ≡ None) where
  abbrev with_new : Graph
  with_new = with_object g id o

  new_others : (x : Puid) → x ≢ id → entries_in with_new x ≡ entries_in g x
  new_others x other = by (index_at g x) refl
    where
      by : (i : Option Index) → index_at g x ≡ i → entries_in with_new x ≡ entries_in g x
      by None at = same_entries g with_new x (ap index_in (at_other g id o x other)) (λ t first. let both : None ≡ Some t = sym (ap (option_and_then (λ (k : Index). slot_of k 0)) at) ∙ first in cc both)
      by (Some i) at = same_entries g with_new x (ap index_in (at_other g id o x other)) (λ t first.
          let held : slot_of i 0 ≡ Some t = sym (ap (option_and_then (λ (k : Index). slot_of k 0)) at) ∙ first in
          ap file_in (at_other g id o t (apart_from g t id (held_there g x i 0 t well at held) new)))

  pub new_object : ChangesNames id Nothing g with_new
  new_object = unnamed_still g id with_new apart refl new_others (λ x other there. same_table_in g with_new x (ap index_in (at_other g id o x other)))
      (ap (λ (p : Option Object). option_and_then (entries_of_index g) (index_in p)) (absent_object g id new)) now
    where
      by : (i : Option Index) → index_in (Some o) ≡ i → option_and_then (entries_of_index with_new) i ≡ None
      by None is = refl
      by (Some j) is = by_first with_new j None (bare j is)

      now : entries_in with_new id ≡ None
      now = ap (λ (p : Option Object). option_and_then (entries_of_index with_new) (index_in p)) (at_here g id o) ∙ by (index_in (Some o)) refl

-- ---- a file that is in slot 0 of one index alone

pub record IsLone (g : Graph) (d t : Puid) : Type 0 where
  pub lone : (x : Puid) (j : Index) → x ≢ d → index_at g x ≡ Some j → slot_of j 0 ≢ Some t

module _ (g : Graph) (d t : Puid) (j : Index) (f n : File) (apart : AreApart g) (at : index_at g d ≡ Some j) (first : slot_of j 0 ≡ Some t) (table : file_at g t ≡ Some f) (alone : IsLone g d t) where
  abbrev with_table : Graph
  with_table = with_object g t (objects.File n)

  others_stay : (x : Puid) → x ≢ d → entries_in with_table x ≡ entries_in g x
  others_stay = file_others g t f n table d (λ x k other there is. absurd (alone.lone x k other there is))

  pub lone_still : IsLone with_table d t
  lone_still = record { lone = λ x k other there is. alone.lone x k other (sym (same_index g t f n table x) ∙ there) is }

  none_of : (slots : ℕ) (e : File) → is_table slots e ≡ false → slots ≡ length j.slots → entries_with j e ≡ None
  none_of slots e off same = let so : is_table (length j.slots) e ≡ false = ap (λ (m : ℕ). is_table m e) (sym same) ∙ off in rw so refl

  pub table_none : is_table (length j.slots) f ≡ false → is_table (length j.slots) n ≡ false → ChangesNames d Nothing g with_table
  table_none was now =
      let two = entries_by_file g t f n table d j at first in
      unnamed_still g d with_table apart refl others_stay (λ x other there. file_tables g t f n table x) (two.1 ∙ none_of (length j.slots) f was refl) (two.0 ∙ none_of (length j.slots) n now refl)

  -- it becomes the table of a directory without names
  pub table_new : is_table (length j.slots) f ≡ false → is_table (length j.slots) n ≡ true → g.root ≢ d → ((w : List ℕ) → id_under w (table_entries j n) ≡ None) → ChangesNames d Nothing g with_table
  table_new was now root nameless =
      let two = entries_by_file g t f n table d j at first in
      let none : entries_in g d ≡ None = two.1 ∙ none_of (length j.slots) f was refl in
      let some : entries_in with_table d ≡ Some (table_entries j n) = two.0 ∙ (let e : entries_with j n ≡ Some (table_entries j n) = rw now refl in e) in
      named_so d Nothing g with_table apart refl others_stay (λ x other there. file_tables g t f n table x) (λ there. let both : true ≡ false = sym there ∙ ap is_some none in cc both)
      (λ there. (λ x other is same. not_its x other is (same ∙ same_table_in g with_table d (same_index g t f n table d) ∙ rw at first), root))
      (λ w. ap (option_and_then (id_under w)) some ∙ nameless w ∙ sym (ap (option_and_then (id_under w)) none)) (λ x w before other. refl)
    where
      not_its : (x : Puid) → x ≢ d → is_directory g x ≡ true → table_in g x ≢ Some t
      not_its x other is same = by (index_at g x) refl
        where
          by : (o : Option Index) → index_at g x ≡ o → ⊥
          by None there = let both : None ≡ Some t = sym (ap (option_and_then (λ (k : Index). slot_of k 0)) there) ∙ same in cc both
          by (Some k) there = alone.lone x k other there (sym (ap (option_and_then (λ (m : Index). slot_of m 0)) there) ∙ same)
