-- A directory without names that is made: an index, its table, zeros in it, and the header.
use Rattle.std.proofs.Common.{◌≡◌, ◌≢◌, ◌⊎◌, inl, inr, ℕ, ◌+◌, ◌-◌, ◌*◌, ◌<◌, ◌≤◌, Bool, true, false, ◌||◌, Option, Some, None, List, [], ◌∷◌, length, length-append, replicate, take, refl, sym, ◌∙◌, ap, subst, arith}
use Rattle.std.specs.Prelude.{Err, Ok, Result, is_some, option_and_then}
use Rattle.std.specs.List.{list_all, list_any}
use Rattle.std.proofs.lemmas.Bool.{and_parts, or_cases}
use Rattle.std.proofs.lemmas.List.{length-replicate, take_all}
use Rattle.cfs_base.specs.declared.identifier.Puid.{Puid}
use Rattle.ufs_model.specs.declared.asked.Reply.TheVariants as replies
use Rattle.ufs_model.specs.declared.asker.Asker.{Ghosts}
use Rattle.ufs_model.specs.declared.object.Draft.{Draft}
use Rattle.ufs_model.specs.declared.object.File.{File}
use Rattle.ufs_model.specs.declared.object.Grant.{Grant}
use Rattle.ufs_model.specs.declared.object.Index.{Index}
use Rattle.ufs_model.specs.declared.object.Object.{Object}
use Rattle.ufs_model.specs.declared.object.Object.TheVariants as objects
use Rattle.ufs_model.specs.Graph.{Graph, IsGraph, is_there, object_at, with_object}
use Rattle.ufs_model.specs.Identifier.{is_among, same_puid}
use Rattle.ufs_model.specs.Object.{filled, new_index, resized, slot_of, written}
use Rattle.ufs_model.specs.Refusal.{is_open}
use Rattle.ufs_model.specs.State.{State, is_running}
use Rattle.ufs_model.specs.WellFormed.{IsState, is_grant_in, is_open_so}
use Rattle.ufs_model.proofs.Reached.{same_puid_is}
use Rattle.ufs_model.proofs.WellGraphs.{closed_graph}
use Rattle.name_dirs.specs.declared.fault.DirFault.{DirFault}
use Rattle.name_dirs.specs.declared.fault.DirFault.TheVariants as faults
use Rattle.name_dirs.specs.Changing.{Alters, IsAlterFault, IsPutNew, Lengthens, PutsNew, WritesRow, new_table}
use Rattle.name_dirs.specs.Directory.{empty_entry, entries_in, entries_with, file_at, file_in, index_at, index_in, is_table}
use Rattle.name_dirs.specs.Making.{CallsQuietly, IsNameless, TellsMaking}
use Rattle.name_dirs.specs.Names.{AreApart, ChangesNames, IfApart, Nothing}
use Rattle.name_dirs.specs.Reading.{HasTable}
use Rattle.name_dirs.specs.Text.{header, row_size}
use Rattle.name_dirs.proofs.Altered.{apart_from, at_here, at_other, elsewhere}
use Rattle.name_dirs.proofs.Chains.{calls_then, chain_last, reads_first}
use Rattle.name_dirs.proofs.Faulted.{same_open, stop_since}
use Rattle.name_dirs.proofs.Fresh.{empty_slot, headed_table, made_entries, made_nameless, made_slots, new_none, zeros_none}
use Rattle.name_dirs.proofs.Looked.{reads_itself}
use Rattle.name_dirs.proofs.Moves.{has_entries, has_table_in, index_here, index_other, index_others, index_tables, file_here, named_on, named_same, same_file, same_index, same_or_not}
use Rattle.name_dirs.proofs.Named.{IsLone, by_first, by_index, filled_index, held_there, index_there, new_object, table_new, table_none, unnamed_still}
use Rattle.name_dirs.proofs.Stepped.{slot_quiet}
use Rattle.name_dirs.proofs.Tables.{slot_here}

-- ---- what is new is open to nobody

open_there : (g : Graph) (x : Puid) (grants : List Grant) → list_all (is_grant_in g) grants ≡ true → list_any (λ grant. same_puid x grant.id) grants ≡ true → is_there g x ≡ true
open_there g x [] all any = cc any
open_there g x (grant ∷ grants) all any = by (or_cases (same_puid x grant.id) (list_any (λ grant. same_puid x grant.id) grants) any) (and_parts (is_grant_in g grant) (list_all (is_grant_in g) grants) all) (open_there g x grants)
  where
    opened : (o : Option Object) (draft : Option Draft) → is_open_so o draft ≡ true → is_some o ≡ true
    opened None draft is = cc is
    opened (Some o) draft is = refl

    by : (same_puid x grant.id ≡ true) ⊎ (list_any (λ grant. same_puid x grant.id) grants ≡ true) → (is_grant_in g grant ≡ true) × (list_all (is_grant_in g) grants ≡ true)
        → (list_all (is_grant_in g) grants ≡ true → list_any (λ grant. same_puid x grant.id) grants ≡ true → is_there g x ≡ true) → is_there g x ≡ true
    by (inl here) two on = ap (is_there g) (same_puid_is x grant.id here) ∙ opened (object_at g grant.id) grant.draft two.0
    by (inr later) two on = on two.1 later

new_shut : (s m : State) (x : Puid) → IsState s → m.grants ≡ s.grants → is_there s.graph x ≡ false → is_open m x ≡ true → ⊥
new_shut s m x well same new open_ =
    let there = open_there s.graph x s.grants well.grants (same_open s m x same open_) in let both : true ≡ false = sym there ∙ new in cc both

-- so a fault of a request on what is new is none of a lock
new_fault : (cylinders most : ℕ) (s m u : State) (x y : Puid) (fault : DirFault) → most ≤ 5 → (is_open m y ≡ true → ⊥) → IsAlterFault cylinders most None m y u fault → IsAlterFault cylinders 5 None s x u fault
new_fault cylinders most s m u x y faults.Memory less shut is = tt
new_fault cylinders most s m u x y (faults.Asked replies.NoObject) less shut is = absurd is
new_fault cylinders most s m u x y (faults.Asked replies.Locked) less shut is = absurd (shut is)
new_fault cylinders most s m u x y (faults.Asked (replies.Full n)) less shut is = record { few = is.few; within = let fits = is.within in omega (arith, fits, less); room = is.room }
new_fault cylinders most s m u x y (faults.Asked (replies.Disk doubt)) less shut is = tt
new_fault cylinders most s m u x y fault less shut is = absurd is

-- it was none of the objects that were there
other_new : (g : Graph) (x y z : Puid) → is_there g y ≡ false → is_there g z ≡ true → is_among z (x ∷ []) ≡ false → is_among z (y ∷ []) ≡ false
other_new g x y z new there none = ap (λ b. b || false) (elsewhere z y (apart_from g z y there new))

pub was_new : (g h : Graph) (x : Puid) → ((y : Puid) → is_there g y ≡ true → is_there h y ≡ true) → is_there h x ≡ false → is_there g x ≡ false
was_new g h x stays new = by (is_there g x) refl
  where
    by : (b : Bool) → is_there g x ≡ b → b ≡ false
    by true is = let both : true ≡ false = sym (stays x is) ∙ new in cc both
    by false is = refl

-- so many zeros
zeros_long : (slots : ℕ) → length (resized new_table (64 * slots)).bytes ≡ 64 * slots
zeros_long slots =
    length-append (take (64 * slots) new_table.bytes) (replicate (64 * slots - 0) new_table.fill)
    ∙ omega (arith, length-replicate {A = ℕ} (64 * slots - 0) 0, ap (λ (l : List ℕ). length l) (take_all {A = ℕ} (64 * slots) [] (omega arith)))

-- names that stay but for a new object stay
but_new : (d e : Puid) (g h : Graph) → is_there g e ≡ false → ChangesNames e Nothing g h → ChangesNames d Nothing g h
but_new d e g h new changes = record { apart = changes.apart; names = changes.names; others = λ x there other. changes.others x there (apart_from g x e there new) }

-- ---- a new index in a slot

module _ (g : Graph) (x : Puid) (i : Index) (at : index_at g x ≡ Some i) (slot : ℕ) (late : slot < length i.slots) (nameless : IsNameless g x i slot) (well : IsGraph g) (slots : ℕ) (made : Puid) (new : is_there g made ≡ false) where
  abbrev o : Object
  o = objects.Index (new_index slots)

  abbrev m : Graph
  m = with_object g made o

  abbrev j : Index
  j = filled i slot (Some made)

  abbrev h : Graph
  h = with_object m x (objects.Index j)

  there : is_there g x ≡ true
  there = index_there g x i at

  other : x ≢ made
  other = apart_from g x made there new

  bare : (k : Index) → index_in (Some o) ≡ Some k → slot_of k 0 ≡ None
  bare k is = let same : new_index slots ≡ k = cc is in ap (λ (k : Index). slot_of k 0) (sym same) ∙ empty_slot slots 0

  at_m : index_at m x ≡ Some i
  at_m = ap index_in (at_other g made o x other) ∙ at

  kept_there : (y : Puid) → is_there g y ≡ true → is_there m y ≡ true
  kept_there y is = ap is_some (at_other g made o y (apart_from g y made is new)) ∙ is

  added : AreApart g → ChangesNames x Nothing g m
  added apart = but_new x made g m new (new_object g made o apart well new bare)

  put_in : AreApart g → AreApart m → entries_in m x ≡ entries_in g x → IsNameless g x i slot → ChangesNames x Nothing m h
  put_in apart still same (inl none) = filled_index m x i slot made still at_m late (ap is_some same ∙ none apart) (ap file_in (at_here g made o))
  put_in apart still same (inr (t, (f, has, some, none))) = slot_quiet m x t i f now slot (Some made) some late None none refl still
    where
      first_there : is_there g t ≡ true
      first_there = held_there g x i 0 t well at has.first

      now : HasTable m x t i f
      now = record { index = at_m; first = has.first; table = ap file_in (at_other g made o t (apart_from g t made first_there new)) ∙ has.table; is = has.is }

  pub index_quiet : AreApart g → ChangesNames x Nothing g (with_object (with_object g made (objects.Index (new_index slots))) x (objects.Index (filled i slot (Some made))))
  index_quiet apart =
      let first = added apart in
      let same = (new_object g made o apart well new bare).others x there other in
      named_on x x Nothing g m h kept_there (inl refl) first (put_in apart first.apart same nameless)

-- ---- a new file in its first slot

module _ (g : Graph) (d : Puid) (slots : ℕ) (some : 1 ≤ slots) (at : index_at g d ≡ Some (new_index slots)) (well : IsGraph g) (t : Puid) (new : is_there g t ≡ false) where
  abbrev file : Object
  file = objects.File new_table

  abbrev mid : Graph
  mid = with_object g t file

  abbrev index : Index
  index = filled (new_index slots) 0 (Some t)

  abbrev done : Graph
  done = with_object mid d (objects.Index index)

  d_there : is_there g d ≡ true
  d_there = index_there g d (new_index slots) at

  apart_t : d ≢ t
  apart_t = apart_from g d t d_there new

  at_mid : index_at mid d ≡ Some (new_index slots)
  at_mid = ap index_in (at_other g t file d apart_t) ∙ at

  file_mid : file_at mid t ≡ Some new_table
  file_mid = ap file_in (at_here g t file)

  in_range : 0 < length (new_index slots).slots
  in_range = omega (arith, some, length-replicate {A = Option Puid} slots None)

  pub first_now : slot_of (filled (new_index slots) 0 (Some t)) 0 ≡ Some t
  first_now = slot_here (new_index slots) 0 (Some t) in_range

  pub index_now : index_at (with_object (with_object g t (objects.File new_table)) d (objects.Index (filled (new_index slots) 0 (Some t)))) d ≡ Some (filled (new_index slots) 0 (Some t))
  index_now = index_here mid d (new_index slots) index at_mid

  pub file_now : file_at (with_object (with_object g t (objects.File new_table)) d (objects.Index (filled (new_index slots) 0 (Some t)))) t ≡ Some new_table
  file_now = same_file mid d (new_index slots) index at_mid t ∙ file_mid

  none_yet : (n : ℕ) → n ≡ slots → is_table n new_table ≡ false
  none_yet n same = ap (λ (k : ℕ). is_table k new_table) same ∙ new_none slots some

  no_entries : entries_with index new_table ≡ None
  no_entries = let off = none_yet (length index.slots) (made_slots slots some t) in rw off refl

  pub table_quiet : AreApart g → (ChangesNames t Nothing g (with_object g t (objects.File new_table))) × ((x : Puid) → is_there g x ≡ true → is_there (with_object g t (objects.File new_table)) x ≡ true)
      × ChangesNames d Nothing (with_object g t (objects.File new_table)) (with_object (with_object g t (objects.File new_table)) d (objects.Index (filled (new_index slots) 0 (Some t))))
  table_quiet apart =
      let first = new_object g t file apart well new (λ k is. cc is) in (
        first,
        (λ y is. ap is_some (at_other g t file y (apart_from g y t is new)) ∙ is),
        unnamed_still mid d done first.apart refl (index_others mid d (new_index slots) index at_mid) (index_tables mid d (new_index slots) index at_mid)
            (by_index mid d (new_index slots) at_mid ∙ by_first mid (new_index slots) None (empty_slot slots 0))
            (by_index done d index index_now ∙ by_first done index (Some t) first_now ∙ ap (option_and_then (entries_with index)) file_now ∙ no_entries),
      )

  -- no other index has it there
  pub table_lone : IsLone (with_object (with_object g t (objects.File new_table)) d (objects.Index (filled (new_index slots) 0 (Some t)))) d t
  table_lone = record { lone = λ x k other there is. by x k other (sym (index_other mid d (new_index slots) index at_mid x other) ∙ there) is (same_or_not x t) }
    where
      by : (x : Puid) (k : Index) → x ≢ d → index_at mid x ≡ Some k → slot_of k 0 ≡ Some t → (x ≡ t) ⊎ (x ≢ t) → ⊥
      by x k other there is (inl same) = let none : None ≡ Some k = sym (ap index_in (at_here g t file)) ∙ ap (index_at mid) (sym same) ∙ there in cc none
      by x k other there is (inr off) =
          let has = held_there g x k 0 t well (sym (ap index_in (at_other g t file x off)) ∙ there) is in let both : true ≡ false = sym has ∙ new in cc both

-- ---- request by request

module _ {A : Type 0} (g : Ghosts A) (who : ℕ) (s : State) (a : A) (stands : g.stands a s) (runs : is_running s ≡ true) (x : Puid) (i : Index) (at : index_at s.graph x ≡ Some i) (slot : ℕ) (late : slot < length i.slots) (nameless : IsNameless s.graph x i slot)
    (slots capacity : ℕ) (some : 1 ≤ slots) (sized : slots ≡ capacity + 1) where
  well : IsState s
  well = (g.formed a s stands runs).0

  abbrev Quiet : Graph → Type 0
  Quiet h = IfApart s.graph (ChangesNames x Nothing s.graph h)

  abbrev Outcome : A → Result Puid DirFault → Type 0
  Outcome b r = (u : State) × CallsQuietly g who x (x ∷ []) a b s u × TellsMaking (g.cylinders a) s u x i slot capacity r

  begin : CallsQuietly g who x (x ∷ []) a a s s
  begin = reads_first g who Quiet (x ∷ []) a a s s (reads_itself g who a s stands) (λ apart. named_same x s.graph s.graph refl apart)

  -- ---- the index

  abbrev MadeIndex : Puid → Graph → Type 0
  MadeIndex id h = IsPutNew s.graph x i slot (objects.Index (new_index slots)) id h

  abbrev IndexMade : A → Result Puid DirFault → Type 0
  IndexMade b r = Alters g who s x MadeIndex (IsAlterFault (g.cylinders a) 5 None s x) a b r

  quiet_index : (id : Puid) (h : Graph) → MadeIndex id h → Quiet h
  quiet_index id h is apart = subst (ChangesNames x Nothing s.graph) (sym is.1) (index_quiet s.graph x i at slot late nameless well.graph slots id is.0 apart)

  calls_index : (b : A) (r : Result Puid DirFault) (al : IndexMade b r) → CallsQuietly g who x (x ∷ []) a b s al.after
  calls_index b r al = calls_then g who Quiet MadeIndex (x ∷ []) (x ∷ []) a a b s s al.after begin al.calls quiet_index (λ z there none. none)

  pub index_refused : (b : A) (fault : DirFault) → PutsNew g who (objects.Index (new_index slots)) x slot a b (Err fault) → (u : State) × CallsQuietly g who x (x ∷ []) a b s u × TellsMaking (g.cylinders a) s u x i slot capacity (Err fault)
  index_refused b fault went = let al = went s i stands runs at late in (al.after, calls_index b (Err fault) al, (ap (λ (u : State). u.stopped) al.told.0, al.told.1))

  module _ (made : Puid) where
    -- so far, with this file for a table
    pub record IsMaking (t : Puid) (f : File) (b : A) : Type 0 where
      pub after : State
      pub calls : CallsQuietly g who x (x ∷ []) a b s after
      pub runs_on : is_running after ≡ true
      pub new : is_there s.graph made ≡ false
      pub new_file : is_there s.graph t ≡ false
      pub holder : index_at after.graph x ≡ Some (filled i slot (Some made))
      pub made_index : index_at after.graph made ≡ Some (filled (new_index slots) 0 (Some t))
      pub table : file_at after.graph t ≡ Some f
      pub alone : IsLone after.graph made t

    module _ (b : A) (first : IndexMade b (Ok made)) where
      abbrev m1 : State
      m1 = first.after

      new : is_there s.graph made ≡ false
      new = first.told.1.0

      x_off : x ≢ made
      x_off = apart_from s.graph x made (index_there s.graph x i at) new

      holder1 : index_at m1.graph x ≡ Some (filled i slot (Some made))
      holder1 = ap (λ h. index_at h x) first.told.1.1 ∙ ap index_in (at_here (with_object s.graph made (objects.Index (new_index slots))) x (objects.Index (filled i slot (Some made))))

      index1 : index_at m1.graph made ≡ Some (new_index slots)
      index1 = ap (λ h. index_at h made) first.told.1.1 ∙ ap index_in (at_other (with_object s.graph made (objects.Index (new_index slots))) x (objects.Index (filled i slot (Some made))) made (λ same. x_off (sym same)))
          ∙ ap index_in (at_here s.graph made (objects.Index (new_index slots)))

      well1 : IsGraph m1.graph
      well1 = (g.formed b m1 first.calls.stands first.told.0).0.graph

      -- ---- the table

      abbrev MadeTable : Puid → Graph → Type 0
      MadeTable id h = IsPutNew m1.graph made (new_index slots) 0 (objects.File new_table) id h

      abbrev TableMade : A → Result Puid DirFault → Type 0
      TableMade c r = Alters g who m1 made MadeTable (IsAlterFault (g.cylinders b) 5 None m1 made) b c r

      quiet_table : (t : Puid) (h : Graph) → MadeTable t h → Quiet h
      quiet_table t h is apart =
          let one = quiet_index made m1.graph first.told.1 apart in
          let two = table_quiet m1.graph made slots some index1 well1 t is.0 one.apart in
          let mid = with_object m1.graph t (objects.File new_table) in
          let absent = was_new s.graph m1.graph t first.calls.graph.there is.0 in
          let on = named_on x t Nothing s.graph m1.graph mid first.calls.graph.there (inr absent) one two.0 in
          subst (ChangesNames x Nothing s.graph) (sym is.1) (named_on x made Nothing s.graph mid (with_object mid made (objects.Index (filled (new_index slots) 0 (Some t)))) (λ y there. two.1 y (first.calls.graph.there y there)) (inr new) on two.2)

      calls_table : (c : A) (r : Result Puid DirFault) (al : TableMade c r) → CallsQuietly g who x (x ∷ []) a c s al.after
      calls_table c r al = calls_then g who Quiet MadeTable (x ∷ []) (made ∷ []) a b c s m1 al.after (calls_index b (Ok made) first) al.calls quiet_table (λ z there none. other_new s.graph x made z new there none)

      table_made : (c : A) (r : Result Puid DirFault) → PutsNew g who (objects.File new_table) made 0 b c r → TableMade c r
      table_made c r went = went m1 (new_index slots) first.calls.stands first.told.0 index1 (omega (arith, some, length-replicate {A = Option Puid} slots None))

      table_refused_so : g.cylinders b ≡ g.cylinders a → (c : A) (fault : DirFault) → TableMade c (Err fault) → Outcome c (Err fault)
      table_refused_so cylinders c fault al = (
        al.after,
        calls_table c (Err fault) al,
        (
          stop_since fault s m1 al.after runs first.told.0 al.told.0,
          new_fault (g.cylinders a) 5 s m1 al.after x made fault (omega arith) (new_shut s m1 made well first.calls.grants new) (subst (λ (n : ℕ). IsAlterFault n 5 None m1 made al.after fault) cylinders al.told.1),
        ),
      )

      table_making : (c : A) (t : Puid) → TableMade c (Ok t) → IsMaking t new_table c
      table_making c t al =
          let fresh = al.told.1.0 in
          let is = al.told.1.1 in
          let mid = with_object m1.graph t (objects.File new_table) in
          let x_there = first.calls.graph.there x (index_there s.graph x i at) in
          record {
            after = al.after;
            calls = calls_table c (Ok t) al;
            runs_on = al.told.0;
            new = new;
            new_file = was_new s.graph m1.graph t first.calls.graph.there fresh;
            holder = ap (λ h. index_at h x) is ∙ ap index_in (at_other mid made (objects.Index (filled (new_index slots) 0 (Some t))) x x_off) ∙ ap index_in (at_other m1.graph t (objects.File new_table) x (apart_from m1.graph x t x_there fresh)) ∙ holder1;
            made_index = ap (λ h. index_at h made) is ∙ index_now m1.graph made slots some index1 well1 t fresh;
            table = ap (λ h. file_at h t) is ∙ file_now m1.graph made slots some index1 well1 t fresh;
            alone = subst (λ h. IsLone h made t) (sym is) (table_lone m1.graph made slots some index1 well1 t fresh);
          }

    pub table_refused : (b : A) → PutsNew g who (objects.Index (new_index slots)) x slot a b (Ok made) → g.cylinders b ≡ g.cylinders a → (c : A) (fault : DirFault) → PutsNew g who (objects.File new_table) made 0 b c (Err fault)
        → (u : State) × CallsQuietly g who x (x ∷ []) a c s u × TellsMaking (g.cylinders a) s u x i slot capacity (Err fault)
    table_refused b one cylinders c fault two = let first = one s i stands runs at late in table_refused_so b first cylinders c fault (table_made b first c (Err fault) two)

    pub making : (b : A) → PutsNew g who (objects.Index (new_index slots)) x slot a b (Ok made) → (c : A) (t : Puid) → PutsNew g who (objects.File new_table) made 0 b c (Ok t) → IsMaking t new_table c
    making b one c t two = let first = one s i stands runs at late in table_making b first c t (table_made b first c (Ok t) two)

    -- ---- its bytes

    module _ (t : Puid) (f : File) (b : A) (k : IsMaking t f b) (n : File) (quiet : AreApart k.after.graph → ChangesNames made Nothing k.after.graph (with_object k.after.graph t (objects.File n))) where
      abbrev mk : State
      mk = k.after

      abbrev Put : Unit {0} → Graph → Type 0
      Put u h = h ≡ with_object mk.graph t (objects.File n)

      quiet_on : (h : Graph) → Put tt h → Quiet h
      quiet_on h is apart =
          let one = chain_last g who Quiet k.calls.chain apart in
          subst (ChangesNames x Nothing s.graph) (sym is) (named_on x made Nothing s.graph mk.graph (with_object mk.graph t (objects.File n)) k.calls.graph.there (inr k.new) one (quiet one.apart))

      abbrev Written : A → Result (Unit {0}) DirFault → Type 0
      Written c r = Alters g who mk t Put (IsAlterFault (g.cylinders b) 4 None mk t) b c r

      calls_on_it : (c : A) (r : Result (Unit {0}) DirFault) (al : Written c r) → CallsQuietly g who x (x ∷ []) a c s al.after
      calls_on_it c r al = calls_then g who Quiet Put (x ∷ []) (t ∷ []) a b c s mk al.after k.calls al.calls (λ u. quiet_on) (λ z there none. other_new s.graph x t z k.new_file there none)

      pub bytes_refused : g.cylinders b ≡ g.cylinders a → (c : A) (fault : DirFault) → Alters g who k.after t (λ (u : Unit {0}) h. h ≡ with_object k.after.graph t (objects.File n)) (IsAlterFault (g.cylinders b) 4 None k.after t) b c (Err fault)
          → (u : State) × CallsQuietly g who x (x ∷ []) a c s u × TellsMaking (g.cylinders a) s u x i slot capacity (Err fault)
      bytes_refused cylinders c fault al = (
        al.after,
        calls_on_it c (Err fault) al,
        (
          stop_since fault s mk al.after runs k.runs_on al.told.0,
          new_fault (g.cylinders a) 4 s mk al.after x t fault (omega arith) (new_shut s mk t well k.calls.grants k.new_file) (subst (λ (n : ℕ). IsAlterFault n 4 None mk t al.after fault) cylinders al.told.1),
        ),
      )

      pub bytes_on : (c : A) → Alters g who k.after t (λ (u : Unit {0}) h. h ≡ with_object k.after.graph t (objects.File n)) (IsAlterFault (g.cylinders b) 4 None k.after t) b c (Ok tt) → IsMaking t n c
      bytes_on c al = record {
        after = al.after;
        calls = calls_on_it c (Ok tt) al;
        runs_on = al.told.0;
        new = k.new;
        new_file = k.new_file;
        holder = ap (λ h. index_at h x) al.told.1 ∙ same_index mk.graph t f n k.table x ∙ k.holder;
        made_index = ap (λ h. index_at h made) al.told.1 ∙ same_index mk.graph t f n k.table made ∙ k.made_index;
        table = ap (λ h. file_at h t) al.told.1 ∙ file_here mk.graph t f n k.table;
        alone = subst (λ h. IsLone h made t) (sym al.told.1) (record { lone = λ y j off there is. k.alone.lone y j off (sym (same_index mk.graph t f n k.table y) ∙ there) is });
      }

    module _ (t : Puid) (b : A) where
      abbrev zeros : File
      zeros = resized new_table (64 * slots)

      abbrev headed : File
      headed = written (resized new_table (64 * slots)) (row_size * 0) header

      abbrev made_of : Index
      made_of = filled (new_index slots) 0 (Some t)

      as_slots : length made_of.slots ≡ slots
      as_slots = made_slots slots some t

      in_range0 : 0 < length (new_index slots).slots
      in_range0 = omega (arith, some, length-replicate {A = Option Puid} slots None)

      first_is : slot_of made_of 0 ≡ Some t
      first_is = slot_here (new_index slots) 0 (Some t) in_range0

      off_new : is_table (length made_of.slots) new_table ≡ false
      off_new = ap (λ (n : ℕ). is_table n new_table) as_slots ∙ new_none slots some

      off_zeros : is_table (length made_of.slots) zeros ≡ false
      off_zeros = ap (λ (n : ℕ). is_table n zeros) as_slots ∙ zeros_none slots some

      on_headed : is_table (length made_of.slots) headed ≡ true
      on_headed = ap (λ (n : ℕ). is_table n headed) as_slots ∙ headed_table slots some

      module _ (k : IsMaking t new_table b) where
        quiet_zeros : AreApart k.after.graph → ChangesNames made Nothing k.after.graph (with_object k.after.graph t (objects.File zeros))
        quiet_zeros apart = table_none k.after.graph made t made_of new_table zeros apart k.made_index first_is k.table k.alone off_new off_zeros

        lengthened : (c : A) (r : Result (Unit {0}) DirFault) → slots ≤ 4096 → Lengthens g who t (64 * slots) b c r → Alters g who k.after t (λ (u : Unit {0}) h. h ≡ with_object k.after.graph t (objects.File zeros)) (IsAlterFault (g.cylinders b) 4 None k.after t) b c r
        lengthened c r few went = went k.after k.calls.stands k.runs_on k.table (omega (arith, few))

        pub zeros_refused : slots ≤ 4096 → g.cylinders b ≡ g.cylinders a → (c : A) (fault : DirFault) → Lengthens g who t (64 * slots) b c (Err fault) → (u : State) × CallsQuietly g who x (x ∷ []) a c s u × TellsMaking (g.cylinders a) s u x i slot capacity (Err fault)
        zeros_refused few cylinders c fault went = bytes_refused t new_table b k zeros quiet_zeros cylinders c fault (lengthened c (Err fault) few went)

        pub zeros_on : slots ≤ 4096 → (c : A) → Lengthens g who t (64 * slots) b c (Ok tt) → IsMaking t (resized new_table (64 * slots)) c
        zeros_on few c went = bytes_on t new_table b k zeros quiet_zeros c (lengthened c (Ok tt) few went)

      module _ (k : IsMaking t (resized new_table (64 * slots)) b) where
        root_apart : k.after.graph.root ≢ made
        root_apart same = apart_from s.graph s.graph.root made (ap is_some (closed_graph s.graph well.graph).root.1) k.new (sym k.calls.graph.root ∙ same)

        quiet_header : AreApart k.after.graph → ChangesNames made Nothing k.after.graph (with_object k.after.graph t (objects.File headed))
        quiet_header apart = table_new k.after.graph made t made_of zeros headed apart k.made_index first_is k.table k.alone off_zeros on_headed root_apart (made_nameless slots some t)

        headed_so : (c : A) (r : Result (Unit {0}) DirFault) → WritesRow g who t 0 header b c r → Alters g who k.after t (λ (u : Unit {0}) h. h ≡ with_object k.after.graph t (objects.File headed)) (IsAlterFault (g.cylinders b) 4 None k.after t) b c r
        headed_so c r went = went k.after zeros k.calls.stands k.runs_on k.table refl (omega (arith, some, zeros_long slots)) refl

        pub header_refused : g.cylinders b ≡ g.cylinders a → (c : A) (fault : DirFault) → WritesRow g who t 0 header b c (Err fault) → (u : State) × CallsQuietly g who x (x ∷ []) a c s u × TellsMaking (g.cylinders a) s u x i slot capacity (Err fault)
        header_refused cylinders c fault went = bytes_refused t zeros b k headed quiet_header cylinders c fault (headed_so c (Err fault) went)

        pub made_done : (c : A) → WritesRow g who t 0 header b c (Ok tt) → (u : State) × CallsQuietly g who x (x ∷ []) a c s u × TellsMaking (g.cylinders a) s u x i slot capacity (Ok made)
        made_done c went =
            let done = bytes_on t zeros b k headed quiet_header c (headed_so c (Ok tt) went) in
            let has : HasTable done.after.graph made t made_of headed = record { index = done.made_index; first = first_is; table = done.table; is = on_headed } in
            let few : slots - 1 ≡ capacity = omega (arith, sized) in (
              done.after,
              done.calls,
              (
                done.runs_on,
                record {
                  new = done.new;
                  entries = has_entries done.after.graph made t made_of headed has ∙ ap Some (made_entries slots some t ∙ ap (λ (n : ℕ). replicate n empty_entry) few);
                  table = λ y is. let same : t ≡ y = cc (sym (has_table_in done.after.graph made t made_of headed has) ∙ is) in ap (is_there s.graph) (sym same) ∙ done.new_file;
                },
                done.holder,
              ),
            )
