-- The entries of all directories once one object is another, or new.
use Rattle.std.proofs.Common.{◌≡◌, ◌≢◌, ◌⊎◌, inl, inr, ℕ, Bool, true, false, Option, Some, None, List, refl, sym, ◌∙◌, ap, subst}
use Rattle.std.specs.Prelude.{is_some, option_and_then}
use Rattle.cfs_base.specs.declared.identifier.Puid.{Puid}
use Rattle.ufs_model.specs.declared.object.File.{File}
use Rattle.ufs_model.specs.declared.object.Index.{Index}
use Rattle.ufs_model.specs.declared.object.Object.{Object}
use Rattle.ufs_model.specs.declared.object.Object.TheVariants as objects
use Rattle.ufs_model.specs.Graph.{Graph, is_there, object_at, with_object}
use Rattle.ufs_model.specs.Identifier.{same_puid}
use Rattle.ufs_model.specs.Object.{slot_of}
use Rattle.ufs_model.proofs.Reached.{same_puid_is, same_puid_itself}
use Rattle.name_dirs.specs.Directory.{entries_in, entries_of_index, entries_with, file_at, file_in, index_at, index_in, is_directory, table_entries, table_in}
use Rattle.name_dirs.specs.Names.{AreApart, Change, ChangesNames, Nothing, Put, changed_name, id_under, name_at}
use Rattle.name_dirs.specs.Reading.{HasTable}
use Rattle.name_dirs.proofs.Altered.{at_here, at_other, elsewhere}

-- ---- one or another

pub same_or_not : (x y : Puid) → (x ≡ y) ⊎ (x ≢ y)
same_or_not x y = by (same_puid x y) refl
  where
    by : (b : Bool) → same_puid x y ≡ b → (x ≡ y) ⊎ (x ≢ y)
    by true is = inl (same_puid_is x y is)
    by false is = inr (λ same. let both : true ≡ false = sym (same_puid_itself y) ∙ ap (λ z. same_puid z y) (sym same) ∙ is in cc both)

-- ---- entries hang on an index and on the file in its slot 0

pub same_entries : (g h : Graph) (x : Puid) → index_at h x ≡ index_at g x → ((t : Puid) → table_in g x ≡ Some t → file_at h t ≡ file_at g t) → entries_in h x ≡ entries_in g x
same_entries g h x index files = ap (option_and_then (entries_of_index h)) index ∙ by (index_at g x) files
  where
    first : (i : Index) (o : Option Puid) → ((t : Puid) → o ≡ Some t → file_at h t ≡ file_at g t) → option_and_then (entries_with i) (option_and_then (file_at h) o) ≡ option_and_then (entries_with i) (option_and_then (file_at g) o)
    first i None files = refl
    first i (Some t) files = ap (option_and_then (entries_with i)) (files t refl)

    by : (o : Option Index) → ((t : Puid) → option_and_then (λ i. slot_of i 0) o ≡ Some t → file_at h t ≡ file_at g t) → option_and_then (entries_of_index h) o ≡ option_and_then (entries_of_index g) o
    by None files = refl
    by (Some i) files = first i (slot_of i 0) files

pub same_table_in : (g h : Graph) (x : Puid) → index_at h x ≡ index_at g x → table_in h x ≡ table_in g x
same_table_in g h x index = ap (option_and_then (λ i. slot_of i 0)) index

pub has_entries : (g : Graph) (d t : Puid) (i : Index) (f : File) → HasTable g d t i f → entries_in g d ≡ Some (table_entries i f)
has_entries g d t i f has = rw (has.index, has.first, has.table, has.is) refl

pub has_directory : (g : Graph) (d t : Puid) (i : Index) (f : File) → HasTable g d t i f → is_directory g d ≡ true
has_directory g d t i f has = ap is_some (has_entries g d t i f has)

pub has_table_in : (g : Graph) (d t : Puid) (i : Index) (f : File) → HasTable g d t i f → table_in g d ≡ Some t
has_table_in g d t i f has = rw has.index has.first

-- ---- what one change leaves of all names

-- It is made in d. All others stay; and d was a directory with this table, or has one alone.
pub named_so : (d : Puid) (change : Change) (g h : Graph) → AreApart g → h.root ≡ g.root → ((x : Puid) → x ≢ d → entries_in h x ≡ entries_in g x) → ((x : Puid) → x ≢ d → is_directory g x ≡ true → table_in h x ≡ table_in g x)
    → (is_directory g d ≡ true → is_directory h d ≡ true) → (is_directory h d ≡ true → ((x : Puid) → x ≢ d → is_directory g x ≡ true → table_in g x ≢ table_in h d) × (g.root ≢ d)) → ((w : List ℕ) → name_at h d w ≡ changed_name change (name_at g d w) d w)
    → ((x : Puid) (w : List ℕ) (before : Option Puid) → x ≢ d → changed_name change before x w ≡ before) → ChangesNames d change g h
named_so d change g h apart root others tables stay mine named else_ = record {
  apart = record { apart = apart_now; root = root_now };
  names = record { names = λ x w text. names_now x w (same_or_not x d); stay = λ x there. stays x there (same_or_not x d) };
  others = λ x there other. others x other;
}
  where
    was : (x : Puid) → x ≢ d → is_directory h x ≡ true → is_directory g x ≡ true
    was x other there = ap is_some (sym (others x other)) ∙ there

    stays : (x : Puid) → is_directory g x ≡ true → (x ≡ d) ⊎ (x ≢ d) → is_directory h x ≡ true
    stays x there (inl same) = subst (λ (y : Puid). is_directory h y ≡ true) (sym same) (stay (ap (is_directory g) (sym same) ∙ there))
    stays x there (inr other) = ap is_some (others x other) ∙ there

    names_now : (x : Puid) (w : List ℕ) → (x ≡ d) ⊎ (x ≢ d) → name_at h x w ≡ changed_name change (name_at g x w) x w
    names_now x w (inl same) = subst (λ (y : Puid). name_at h y w ≡ changed_name change (name_at g y w) y w) (sym same) (named w)
    names_now x w (inr other) = ap (option_and_then (id_under w)) (others x other) ∙ sym (else_ x w (name_at g x w) other)

    by : (a b t : Puid) → is_directory h a ≡ true → is_directory h b ≡ true → table_in h a ≡ Some t → table_in h b ≡ Some t → (a ≡ d) ⊎ (a ≢ d) → (b ≡ d) ⊎ (b ≢ d) → a ≡ b
    by a b t one two first second (inl here) (inl there) = here ∙ sym there
    by a b t one two first second (inl here) (inr off) =
        let b_was = was b off two in
        absurd ((mine (ap (is_directory h) (sym here) ∙ one)).0 b off b_was (sym (tables b off b_was) ∙ second ∙ sym first ∙ ap (table_in h) here))
    by a b t one two first second (inr off) (inl there) =
        let a_was = was a off one in
        absurd ((mine (ap (is_directory h) (sym there) ∙ two)).0 a off a_was (sym (tables a off a_was) ∙ first ∙ sym second ∙ ap (table_in h) there))
    by a b t one two first second (inr off) (inr away) =
        let a_was = was a off one in
        let b_was = was b away two in
        apart.apart a b t a_was b_was (sym (tables a off a_was) ∙ first) (sym (tables b away b_was) ∙ second)

    apart_now : (a b t : Puid) → is_directory h a ≡ true → is_directory h b ≡ true → table_in h a ≡ Some t → table_in h b ≡ Some t → a ≡ b
    apart_now a b t one two first second = by a b t one two first second (same_or_not a d) (same_or_not b d)

    root_now : is_directory h h.root ≡ false
    root_now = ap (is_directory h) root ∙ at (same_or_not g.root d)
      where
        no : (b : Bool) → is_directory h g.root ≡ b → g.root ≡ d → is_directory h g.root ≡ false
        no true is same = absurd ((mine (ap (is_directory h) (sym same) ∙ is)).1 same)
        no false is same = is

        at : (g.root ≡ d) ⊎ (g.root ≢ d) → is_directory h g.root ≡ false
        at (inl same) = no (is_directory h g.root) refl same
        at (inr other) = ap is_some (others g.root other) ∙ apart.root

-- nothing changes elsewhere
pub else_nothing : (d x : Puid) (w : List ℕ) (before : Option Puid) → x ≢ d → changed_name Nothing before x w ≡ before
else_nothing d x w before other = refl

pub else_put : (d : Puid) (v : List ℕ) (what : Option Puid) (x : Puid) (w : List ℕ) (before : Option Puid) → x ≢ d → changed_name (Put d v what) before x w ≡ before
else_put d v what x w before other = rw (elsewhere x d other) refl

-- d was a directory with the same table
pub mine_still : (d t : Puid) (g h : Graph) → AreApart g → is_directory g d ≡ true → table_in g d ≡ Some t → table_in h d ≡ Some t → ((x : Puid) → x ≢ d → is_directory g x ≡ true → table_in g x ≢ table_in h d) × (g.root ≢ d)
mine_still d t g h apart there was now = (
  λ x other is same. other (apart.apart x d t is there (same ∙ now) was),
  λ same. let both : true ≡ false = sym there ∙ ap (is_directory g) (sym same) ∙ apart.root in cc both,
)

-- one change and then another in the same object, or in one that is new
pub named_on : (d e : Puid) (change : Change) (g m h : Graph) → ((x : Puid) → is_there g x ≡ true → is_there m x ≡ true) → (e ≡ d) ⊎ (is_there g e ≡ false) → ChangesNames d Nothing g m → ChangesNames e change m h → ChangesNames d change g h
named_on d e change g m h there same first then_ = record {
  apart = then_.apart;
  names = record {
    names = λ x w text. then_.names.names x w text ∙ ap (λ o. changed_name change o x w) (first.names.names x w text);
    stay = λ x is. then_.names.stay x (first.names.stay x is);
  };
  others = λ x is other. then_.others x (there x is) (off x is other same) ∙ first.others x is other;
}
  where
    off : (x : Puid) → is_there g x ≡ true → x ≢ d → (e ≡ d) ⊎ (is_there g e ≡ false) → x ≢ e
    off x is other (inl here) at = other (at ∙ here)
    off x is other (inr none) at = let both : true ≡ false = sym is ∙ ap (is_there g) at ∙ none in cc both

pub named_same : (d : Puid) (g h : Graph) → h ≡ g → AreApart g → ChangesNames d Nothing g h
named_same d g h same apart = record {
  apart = subst AreApart (sym same) apart;
  names = record { names = λ x w text. ap (λ k. name_at k x w) same; stay = λ x there. ap (λ k. is_directory k x) same ∙ there };
  others = λ x there other. ap (λ k. entries_in k x) same;
}

-- ---- an index put in the place of one

module _ (g : Graph) (d : Puid) (i j : Index) (at : index_at g d ≡ Some i) where
  abbrev with_index : Graph
  with_index = with_object g d (objects.Index j)

  pub index_here : index_at with_index d ≡ Some j
  index_here = ap index_in (at_here g d (objects.Index j))

  pub index_other : (x : Puid) → x ≢ d → index_at with_index x ≡ index_at g x
  index_other x other = ap index_in (at_other g d (objects.Index j) x other)

  no_file : (o : Option Object) → index_in o ≡ Some i → file_in o ≡ None
  no_file None is = refl
  no_file (Some (objects.File f)) is = cc is
  no_file (Some (objects.Index k)) is = refl

  pub same_file : (x : Puid) → file_at with_index x ≡ file_at g x
  same_file x = by (same_or_not x d)
    where
      by : (x ≡ d) ⊎ (x ≢ d) → file_at with_index x ≡ file_at g x
      by (inl same) = ap (file_at with_index) same ∙ ap file_in (at_here g d (objects.Index j)) ∙ sym (no_file (object_at g d) at) ∙ ap (file_at g) (sym same)
      by (inr other) = ap file_in (at_other g d (objects.Index j) x other)

  pub index_others : (x : Puid) → x ≢ d → entries_in with_index x ≡ entries_in g x
  index_others x other = same_entries g with_index x (index_other x other) (λ t first. same_file t)

  pub index_tables : (x : Puid) → x ≢ d → is_directory g x ≡ true → table_in with_index x ≡ table_in g x
  index_tables x other there = same_table_in g with_index x (index_other x other)

-- ---- a file put in the place of one

module _ (g : Graph) (t : Puid) (f n : File) (at : file_at g t ≡ Some f) where
  abbrev with_file : Graph
  with_file = with_object g t (objects.File n)

  pub file_here : file_at with_file t ≡ Some n
  file_here = ap file_in (at_here g t (objects.File n))

  pub file_other : (x : Puid) → x ≢ t → file_at with_file x ≡ file_at g x
  file_other x other = ap file_in (at_other g t (objects.File n) x other)

  no_index : (o : Option Object) → file_in o ≡ Some f → index_in o ≡ None
  no_index None is = refl
  no_index (Some (objects.File e)) is = refl
  no_index (Some (objects.Index k)) is = cc is

  pub same_index : (x : Puid) → index_at with_file x ≡ index_at g x
  same_index x = by (same_or_not x t)
    where
      by : (x ≡ t) ⊎ (x ≢ t) → index_at with_file x ≡ index_at g x
      by (inl same) = ap (index_at with_file) same ∙ ap index_in (at_here g t (objects.File n)) ∙ sym (no_index (object_at g t) at) ∙ ap (index_at g) (sym same)
      by (inr other) = ap index_in (at_other g t (objects.File n) x other)

  pub file_tables : (x : Puid) → table_in with_file x ≡ table_in g x
  file_tables x = same_table_in g with_file x (same_index x)

  -- of an index that has it in slot 0
  pub entries_by_file : (x : Puid) (j : Index) → index_at g x ≡ Some j → slot_of j 0 ≡ Some t → (entries_in with_file x ≡ entries_with j n) × (entries_in g x ≡ entries_with j f)
  entries_by_file x j there first = (rw (same_index x, there, first, file_here) refl, rw (there, first, at) refl)

  -- all stay but what it is the table of
  pub file_others : (d : Puid) → ((x : Puid) (j : Index) → x ≢ d → index_at g x ≡ Some j → slot_of j 0 ≡ Some t → entries_with j n ≡ entries_with j f) → (x : Puid) → x ≢ d → entries_in with_file x ≡ entries_in g x
  file_others d alone x other = by (index_at g x) refl
    where
      at_first : (j : Index) → index_at g x ≡ Some j → (o : Option Puid) → slot_of j 0 ≡ o → entries_in with_file x ≡ entries_in g x
      at_first j there None first = same_entries g with_file x (same_index x) (λ u is. let both : None ≡ Some u = sym first ∙ sym (ap (option_and_then (λ (k : Index). slot_of k 0)) there) ∙ is in cc both)
      at_first j there (Some u) first = or (same_or_not u t)
        where
          or : (u ≡ t) ⊎ (u ≢ t) → entries_in with_file x ≡ entries_in g x
          or (inl same) = let two = entries_by_file x j there (first ∙ ap Some same) in two.0 ∙ alone x j other there (first ∙ ap Some same) ∙ sym two.1
          or (inr off) = same_entries g with_file x (same_index x) (λ v is. let same : u ≡ v = cc (sym first ∙ sym (ap (option_and_then (λ (k : Index). slot_of k 0)) there) ∙ is) in file_other v (λ e. off (same ∙ e)))

      by : (o : Option Index) → index_at g x ≡ o → entries_in with_file x ≡ entries_in g x
      by None there = same_entries g with_file x (same_index x) (λ u is. let both : None ≡ Some u = sym (ap (option_and_then (λ (k : Index). slot_of k 0)) there) ∙ is in cc both)
      by (Some j) there = at_first j there (slot_of j 0) refl
