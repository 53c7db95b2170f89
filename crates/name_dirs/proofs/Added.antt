-- A directory that is made under a name, and in slot 0 of the root index.
use Rattle.std.proofs.Common.{◌≡◌, ◌≢◌, inl, inr, ℕ, ◌+◌, ◌-◌, ◌*◌, ◌<◌, ◌≤◌, true, false, ◌||◌, Option, Some, None, List, [], ◌∷◌, length, set, refl, sym, ◌∙◌, ap, subst, arith}
use Rattle.std.specs.Prelude.{Err, Ok, Result, is_some, option_and_then}
use Rattle.std.proofs.lemmas.List.{set-set}
use Rattle.cfs_base.specs.declared.identifier.Puid.{Puid}
use Rattle.ufs_model.specs.declared.asked.Reply.{Reply}
use Rattle.ufs_model.specs.declared.asked.Reply.TheVariants as replies
use Rattle.ufs_model.specs.declared.asker.Asker.{Ghosts}
use Rattle.ufs_model.specs.declared.object.File.{File}
use Rattle.ufs_model.specs.declared.object.Index.{Index}
use Rattle.ufs_model.specs.declared.object.Object.{Object}
use Rattle.ufs_model.specs.declared.object.Object.TheVariants as objects
use Rattle.ufs_model.specs.Graph.{Graph, is_there, object_at, with_object}
use Rattle.ufs_model.specs.Identifier.{is_among}
use Rattle.ufs_model.specs.Object.{filled, written}
use Rattle.ufs_model.specs.Refusal.{is_open}
use Rattle.ufs_model.specs.Room.{IsRoom}
use Rattle.ufs_model.specs.State.{State, is_running}
use Rattle.name_dirs.specs.declared.fault.DirFault.{DirFault}
use Rattle.name_dirs.specs.declared.fault.DirFault.TheVariants as faults
use Rattle.name_dirs.specs.declared.table.Table.{Table}
use Rattle.name_dirs.specs.Calls.{IsNewDirectory, MakesIn, MakesNamed, MakesOnTop, MakesTop, NamesNew, ReadsOn, parts_in}
use Rattle.name_dirs.specs.Chain.{Calls}
use Rattle.name_dirs.specs.Changing.{Alters, IsAlterFault, WritesRow}
use Rattle.name_dirs.specs.Directory.{Entry, entries_in, file_at, file_in, index_at, index_in, is_directory, is_table, row_at, table_entries, table_in}
use Rattle.name_dirs.specs.Faults.{IsChangeTrouble, IsDirFault, IsReadTrouble, IsTopTrouble, StaysAfter, StopsWith, after_fault, due_new, due_of, due_top}
use Rattle.name_dirs.specs.Making.{CallsQuietly, IsNameless, IsPlaceIn, IsTopFault, LooksAtTop, MakesDirectory, TakesPlace, TellsMaking, TellsPlace, has_top}
use Rattle.name_dirs.specs.Names.{ChangesNames, IfApart, Nothing, Put}
use Rattle.name_dirs.specs.Opening.{HasNoRow, Opens}
use Rattle.name_dirs.specs.Reading.{HasTable}
use Rattle.name_dirs.specs.Text.{is_text, name_in, row_size, spelled}
use Rattle.name_dirs.proofs.Altered.{elsewhere}
use Rattle.name_dirs.proofs.Begun.{unread, within_dir, within_table}
use Rattle.name_dirs.proofs.Chains.{calls_on, calls_then, chain_last, reads_first}
use Rattle.name_dirs.proofs.Faulted.{alter_fault, fault_graph, same_open, stays_altered, stop_of, stop_since, stops_running}
use Rattle.name_dirs.proofs.Found.{fault_with}
use Rattle.name_dirs.proofs.Heard.{file_is}
use Rattle.name_dirs.proofs.Looked.{looked, stops_with}
use Rattle.name_dirs.proofs.Made.{was_new}
use Rattle.name_dirs.proofs.Moves.{file_other, file_tables, has_entries, has_table_in, named_on, named_same, same_entries, same_index}
use Rattle.name_dirs.proofs.Rows.{length_spelled, text_parts}
use Rattle.name_dirs.proofs.Stepped.{entries_name, has_name_row, name_in_place}
use Rattle.name_dirs.proofs.Tables.{as_many, entries_filled, slot_here, slot_other, special_table}
use Rattle.name_dirs.proofs.Told.{HasOpened, due_now, entries_now}
use Rattle.name_dirs.proofs.Topped.{at_root, root_index}

-- an index that has the table isn't the table
table_apart : (g : Graph) (d t : Puid) (i : Index) (f : File) → HasTable g d t i f → t ≢ d
table_apart g d t i f has same = no (object_at g d) has.index (ap (file_at g) (sym same) ∙ has.table)
  where
    no : (o : Option Object) → index_in o ≡ Some i → file_in o ≡ Some f → ⊥
    no None one two = cc one
    no (Some (objects.File e)) one two = cc one
    no (Some (objects.Index e)) one two = cc two

-- a fault of a part of a call is one of the call, whose limits are wider
wider : (cylinders more : ℕ) (s u : State) (dir : Puid) (due due_now : Option DirFault) (fault : DirFault) → more ≡ cylinders → due ≡ due_now → IsDirFault due (IsReadTrouble s dir) (IsChangeTrouble more 4 None s u dir) fault
    → IsDirFault due_now (IsReadTrouble s dir) (IsChangeTrouble cylinders 5 None s u dir) fault
wider cylinders more s u dir due due_now faults.NotDirectory same is cause = sym is ∙ cause
wider cylinders more s u dir due due_now faults.NoName same is cause = sym is ∙ cause
wider cylinders more s u dir due due_now faults.Exists same is cause = sym is ∙ cause
wider cylinders more s u dir due due_now (faults.DirFull n) same is cause = sym is ∙ cause
wider cylinders more s u dir due due_now (faults.Asked r) same is (inl reads) = inl reads
wider cylinders more s u dir due due_now (faults.Asked r) same is (inr (none, changes)) = inr (sym is ∙ none, by r changes)
  where
    by : (r : Reply) → IsChangeTrouble more 4 None s u dir r → IsChangeTrouble cylinders 5 None s u dir r
    by replies.NoObject cause = absurd cause
    by replies.Locked cause = cause
    by (replies.Full n) cause = record { few = cause.few; within = let fits = cause.within in omega (arith, fits); room = λ calm room is_room. cause.room calm room (subst (λ (k : ℕ). IsRoom k u room) (sym same) is_room) }
    by (replies.Disk doubt) cause = tt
    by r cause = absurd cause
wider cylinders more s u dir due due_now faults.Memory same is cause = tt

-- ---- under a name

pub make_unread : {A : Type 0} (g : Ghosts A) (who : ℕ) (dir : Puid) (s : State) (a b : A) (w : List ℕ) (capacity : ℕ) (fault : DirFault) → g.stands a s → Opens g who dir a b (Err fault) → (u : State) × MakesIn g who dir w a b s u × StopsWith {E = Puid} s u (Err fault) × MakesNamed (g.cylinders a) s u dir w capacity (Err fault)
make_unread g who dir s a b w capacity fault stands went =
    let k = unread Puid g who (NamesNew dir w s.graph) (parts_in s.graph dir) dir a b s fault (λ apart. inl (named_same dir s.graph s.graph refl apart)) stands went in
    (k.after, k.calls, k.stops, (λ apart. named_same dir s.graph k.after.graph k.graph apart, fault_with s dir (due_new w) (IsChangeTrouble (g.cylinders a) 5 None s k.after dir) fault k.cause))

module _ {A : Type 0} (g : Ghosts A) (who : ℕ) (dir : Puid) (s : State) (a b : A) (w : List ℕ) (text : is_text w ≡ true) (capacity : ℕ) where
  abbrev Made : A → Result Puid DirFault → Type 0
  Made c r = (u : State) × MakesIn g who dir w a c s u × StopsWith s u r × MakesNamed (g.cylinders a) s u dir w capacity r

  module _ (table : Table) (o : HasOpened g who dir a b s table) where
    abbrev i : Index
    i = o.of.index

    abbrev f : File
    f = o.of.file

    abbrev t : Puid
    t = table.file

    abbrev es : List Entry
    es = table_entries i f

    abbrev Quiet : Graph → Type 0
    Quiet h = IfApart s.graph (ChangesNames dir Nothing s.graph h)

    abbrev New : Graph → Type 0
    New h = NamesNew dir w s.graph h

    abbrev parts : List Puid
    parts = parts_in s.graph dir

    due_is : due_of s dir (due_new w) ≡ due_new w es
    due_is = due_now g who dir a b s table o (due_new w)

    refused : (c : A) (u : State) (fault : DirFault) → MakesIn g who dir w a c s u → u.stopped ≡ (after_fault fault s).stopped → StaysAfter fault s u → IfApart s.graph (ChangesNames dir Nothing s.graph u.graph)
        → IsDirFault (due_of s dir (due_new w)) (IsReadTrouble s dir) (IsChangeTrouble (g.cylinders a) 5 None s u dir) fault → Made c (Err fault)
    refused c u fault calls stop stay names cause = (u, calls, stops_running Puid s u fault o.runs stop stay, (names, cause))

    begun : Calls g who New parts a b s s
    begun = reads_first g who New parts a b s s o.reads (λ apart. inl (named_same dir s.graph s.graph refl apart))

    -- its place

    calls_placed : (c : A) (u : State) → CallsQuietly g who dir parts b c s u → Calls g who New parts a c s u
    calls_placed c u quiet = calls_on g who New Quiet New parts parts a b c s s u begun quiet (λ h holds. holds) (λ h holds apart. inl (holds apart)) (λ x there none. none)

    placing : (c : A) (r : Result ℕ DirFault) → TakesPlace g who dir table.file table.bytes (spelled w) b c r → (u : State) × CallsQuietly g who dir parts b c s u × TellsPlace (g.cylinders b) s u dir t i f w r
    placing c r went = went s i f w o.reads.stands o.runs o.of.has o.of.bytes refl text

    pub make_unplaced : (c : A) (fault : DirFault) → TakesPlace g who dir table.file table.bytes (spelled w) b c (Err fault) → (u : State) × MakesIn g who dir w a c s u × StopsWith {E = Puid} s u (Err fault) × MakesNamed (g.cylinders a) s u dir w capacity (Err fault)
    make_unplaced c fault went =
        let p = placing c (Err fault) went in
        refused c p.0 fault (calls_placed c p.0 p.1) p.2.0 p.2.1 (chain_last g who Quiet p.1.chain) (wider (g.cylinders a) (g.cylinders b) s p.0 dir (due_new w es) (due_of s dir (due_new w)) fault o.cylinders (sym due_is) p.2.2)

    module _ (c : A) (place : ℕ) (placed : (u : State) × CallsQuietly g who dir (parts_in s.graph dir) b c s u × TellsPlace (g.cylinders b) s u dir table.file o.of.index o.of.file w (Ok place)) (still : g.cylinders c ≡ g.cylinders b) where
      abbrev p : State
      p = placed.0

      abbrev at : IsPlaceIn s p dir t i f w place
      at = placed.2.1

      abbrev now : File
      now = at.now

      quiet_p : Quiet p.graph
      quiet_p = chain_last g who Quiet placed.1.chain

      none_due : due_of s dir (due_new w) ≡ None
      none_due = due_is ∙ at.due

      nameless : IsNameless p.graph dir i place
      nameless = inr (t, (now, at.has, at.is.some, ap name_in at.is.free))

      -- the directory

      making : (d : A) (r : Result Puid DirFault) → MakesDirectory g who dir place capacity c d r → (v : State) × CallsQuietly g who dir (dir ∷ []) c d p v × TellsMaking (g.cylinders c) p v dir i place capacity r
      making d r went = went p i placed.1.stands placed.2.0 at.has.index at.is.within nameless

      quiet_on : (h : Graph) → IfApart p.graph (ChangesNames dir Nothing p.graph h) → Quiet h
      quiet_on h holds apart = let first = quiet_p apart in named_on dir dir Nothing s.graph p.graph h placed.1.graph.there (inl refl) first (holds first.apart)

      calls_made : (d : A) (v : State) → CallsQuietly g who dir (dir ∷ []) c d p v → Calls g who New parts a d s v
      calls_made d v quiet = calls_on g who New (λ h. IfApart p.graph (ChangesNames dir Nothing p.graph h)) New parts (dir ∷ []) a c d s p v (calls_placed c p placed.1) quiet (λ h holds. holds) (λ h holds apart. inl (quiet_on h holds apart)) (within_dir s.graph dir)

      unmade : (d : A) (fault : DirFault) → MakesDirectory g who dir place capacity c d (Err fault) → Made d (Err fault)
      unmade d fault went =
          let m = making d (Err fault) went in
          refused d m.0 fault (calls_made d m.0 m.1) (m.2.0 ∙ stop_of fault s p o.runs placed.2.0) (stays_altered (g.cylinders c) 5 None p dir m.0 fault m.2.1 s m.0) (quiet_on m.0.graph (chain_last g who (λ h. IfApart p.graph (ChangesNames dir Nothing p.graph h)) m.1.chain))
          (alter_fault (g.cylinders a) 5 5 None None s p m.0 dir dir (due_of s dir (due_new w)) (IsReadTrouble s dir) fault none_due (omega arith) (λ never. absurd never) (λ bars. inl (same_open s p dir placed.1.grants bars))
          (subst (λ (n : ℕ). IsAlterFault n 5 None p dir m.0 fault) (still ∙ o.cylinders) m.2.1))

      -- its name

      module _ (d : A) (made : Puid) (m : (v : State) × CallsQuietly g who dir (dir ∷ []) c d p v × TellsMaking (g.cylinders c) p v dir o.of.index place capacity (Ok made)) (kept : g.cylinders d ≡ g.cylinders c) where
        abbrev v : State
        v = m.0

        abbrev fresh : IsNewDirectory capacity made p.graph v.graph
        fresh = m.2.1

        abbrev slotted : Index
        slotted = filled i place (Some made)

        quiet_v : Quiet v.graph
        quiet_v = quiet_on v.graph (chain_last g who (λ h. IfApart p.graph (ChangesNames dir Nothing p.graph h)) m.1.chain)

        stays_v : (x : Puid) → is_there s.graph x ≡ true → is_there v.graph x ≡ true
        stays_v x there = m.1.graph.there x (placed.1.graph.there x there)

        new_s : is_there s.graph made ≡ false
        new_s = was_new s.graph p.graph made placed.1.graph.there fresh.new

        t_there : is_there p.graph t ≡ true
        t_there = ap is_some (file_is (object_at p.graph t) now at.has.table)

        off_dir : is_among t (dir ∷ []) ≡ false
        off_dir = ap (λ b. b || false) (elsewhere t dir (table_apart p.graph dir t i now at.has))

        slots : length slotted.slots ≡ length i.slots
        slots = as_many i place (Some made)

        has_v : HasTable v.graph dir t slotted now
        has_v = record {
          index = m.2.2;
          first = slot_other i place (Some made) 0 (λ e. let some = at.is.some in absurd (omega (arith, e, some))) ∙ at.has.first;
          table = ap file_in (m.1.graph.others t t_there off_dir) ∙ at.has.table;
          is = ap (λ (n : ℕ). is_table n now) slots ∙ at.has.is;
        }

        late : place < length slotted.slots
        late = let within = at.is.within in omega (arith, within, slots)

        none_now : HasNoRow now.bytes (length slotted.slots) (spelled w)
        none_now k from to = at.is.none k from (omega (arith, to, slots))

        abbrev named_file : File
        named_file = written now (row_size * place) (spelled w)

        abbrev Named : Unit {0} → Graph → Type 0
        Named u h = h ≡ with_object v.graph t (objects.File named_file)

        named_names : (h : Graph) → Named tt h → IfApart s.graph (ChangesNames dir (Put dir w (Some made)) s.graph h)
        named_names h is apart =
            let first = quiet_v apart in
            let second = name_in_place v.graph dir t slotted now has_v w text place at.is.some late at.is.free none_now first.apart in
            let leads = subst (λ (what : Option Puid). ChangesNames dir (Put dir w what) v.graph (with_object v.graph t (objects.File named_file))) (slot_here i place (Some made) at.is.within) second in
            subst (ChangesNames dir (Put dir w (Some made)) s.graph) (sym is) (named_on dir dir (Put dir w (Some made)) s.graph v.graph (with_object v.graph t (objects.File named_file)) stays_v (inl refl) first leads)

        calls_named : (e : A) (r : Result (Unit {0}) DirFault) (al : Alters g who v t Named (IsAlterFault (g.cylinders d) 4 None v t) d e r) → MakesIn g who dir w a e s al.after
        calls_named e r al = calls_then g who New Named parts (t ∷ []) a d e s v al.after (calls_made d v m.1) al.calls (λ u h is apart. inr (made, new_s, named_names h is apart)) (within_table s.graph dir t i f o.of.has)

        writing : (e : A) (r : Result (Unit {0}) DirFault) → WritesRow g who t place (spelled w) d e r → Alters g who v t Named (IsAlterFault (g.cylinders d) 4 None v t) d e r
        writing e r went = went v now m.1.stands m.2.0 has_v.table (special_table (length slotted.slots) now has_v.is).0 long (length_spelled w (text_parts w text).few)
          where
            long : row_size * place + row_size ≤ length now.bytes
            long = let size = (special_table (length slotted.slots) now has_v.is).1.size in omega (arith, size, late)

        grants_v : v.grants ≡ s.grants
        grants_v = m.1.grants ∙ placed.1.grants

        unnamed : (e : A) (fault : DirFault) → WritesRow g who t place (spelled w) d e (Err fault) → Made e (Err fault)
        unnamed e fault went =
            let al = writing e (Err fault) went in
            refused e al.after fault (calls_named e (Err fault) al) (stop_since fault s v al.after o.runs m.2.0 al.told.0) (stays_altered (g.cylinders d) 4 None v t al.after fault al.told.1 s al.after)
            (λ apart. subst (ChangesNames dir Nothing s.graph) (sym (ap (λ (u : State). u.graph) al.told.0 ∙ fault_graph fault v)) (quiet_v apart))
            (alter_fault (g.cylinders a) 4 5 None None s v al.after t dir (due_of s dir (due_new w)) (IsReadTrouble s dir) fault none_due (omega arith) (λ never. absurd never)
            (λ bars. inr (t, has_table_in s.graph dir t i f o.of.has, same_open s v t grants_v bars)) (subst (λ (n : ℕ). IsAlterFault n 4 None v t al.after fault) (kept ∙ still ∙ o.cylinders) al.told.1))

        -- what was made is as it was
        table_off : (x : Puid) → table_in v.graph made ≡ Some x → x ≢ t
        table_off x is same = let both : true ≡ false = sym t_there ∙ ap (is_there p.graph) (sym same) ∙ fresh.table x is in cc both

        made_stays : (h : Graph) → Named tt h → IsNewDirectory capacity made s.graph h
        made_stays h is = record {
          new = new_s;
          entries = ap (λ k. entries_in k made) is
              ∙ same_entries v.graph (with_object v.graph t (objects.File named_file)) made (same_index v.graph t now named_file has_v.table made) (λ x first. file_other v.graph t now named_file has_v.table x (table_off x first)) ∙ fresh.entries;
          table = λ x first. was_new s.graph p.graph x placed.1.graph.there (fresh.table x (sym (file_tables v.graph t now named_file has_v.table made) ∙ sym (ap (λ k. table_in k made) is) ∙ first));
        }

        named_so : (e : A) → WritesRow g who t place (spelled w) d e (Ok tt) → Made e (Ok made)
        named_so e went =
            let al = writing e (Ok tt) went in (
              al.after,
              calls_named e (Ok tt) al,
              (o.runs, al.told.0),
              (
                named_names al.after.graph al.told.1,
                made_stays al.after.graph al.told.1,
                (
                  es,
                  entries_now g who dir a b s table o,
                  at.due,
                  ap (λ h. entries_in h dir) al.told.1 ∙ has_entries _ dir t slotted _ (has_name_row v.graph dir t slotted now has_v w text place at.is.some late at.is.free none_now)
                      ∙ ap Some (entries_name v.graph dir t slotted now has_v w text place at.is.some late at.is.free none_now
                      ∙ ap (λ (what : Option Puid). set (table_entries slotted now) (place - 1) (record { name = Some w; id = what })) (slot_here i place (Some made) at.is.within)
                      ∙ ap (λ l. set l (place - 1) (record { name = Some w; id = Some made })) (entries_filled i now place (Some made) at.is.some at.is.within)
                      ∙ set-set (table_entries i now) (place - 1) (record { name = name_in (row_at now.bytes place); id = Some made }) (record { name = Some w; id = Some made }) ∙ at.is.binds made),
                ),
              ),
            )

    -- the parts of the call, in their order
    pub make_unmade : (c : A) (place : ℕ) → TakesPlace g who dir table.file table.bytes (spelled w) b c (Ok place) → g.cylinders c ≡ g.cylinders b → (d : A) (fault : DirFault) → MakesDirectory g who dir place capacity c d (Err fault)
        → (u : State) × MakesIn g who dir w a d s u × StopsWith {E = Puid} s u (Err fault) × MakesNamed (g.cylinders a) s u dir w capacity (Err fault)
    make_unmade c place took still d fault went = unmade c place (placing c (Ok place) took) still d fault went

    pub make_unnamed : (c : A) (place : ℕ) → TakesPlace g who dir table.file table.bytes (spelled w) b c (Ok place) → g.cylinders c ≡ g.cylinders b → (d : A) (made : Puid) → MakesDirectory g who dir place capacity c d (Ok made) → g.cylinders d ≡ g.cylinders c
        → (e : A) (fault : DirFault) → WritesRow g who table.file place (spelled w) d e (Err fault) → (u : State) × MakesIn g who dir w a e s u × StopsWith {E = Puid} s u (Err fault) × MakesNamed (g.cylinders a) s u dir w capacity (Err fault)
    make_unnamed c place took still d made went kept e fault wrote = let p = placing c (Ok place) took in unnamed c place p still d made (making c place p still d (Ok made) went) kept e fault wrote

    pub make_named : (c : A) (place : ℕ) → TakesPlace g who dir table.file table.bytes (spelled w) b c (Ok place) → g.cylinders c ≡ g.cylinders b → (d : A) (made : Puid) → MakesDirectory g who dir place capacity c d (Ok made) → g.cylinders d ≡ g.cylinders c
        → (e : A) → WritesRow g who table.file place (spelled w) d e (Ok tt) → (u : State) × MakesIn g who dir w a e s u × StopsWith {E = Puid} s u (Ok made) × MakesNamed (g.cylinders a) s u dir w capacity (Ok made)
    make_named c place took still d made went kept e wrote = let p = placing c (Ok place) took in named_so c place p still d made (making c place p still d (Ok made) went) kept e wrote

-- ---- in slot 0 of the root index

module _ {A : Type 0} (g : Ghosts A) (who : ℕ) (s : State) (a : A) (stands : g.stands a s) (root : Puid) (is_top : root ≡ g.top a) (capacity : ℕ) where
  abbrev OnTop : A → Result Puid DirFault → Type 0
  OnTop c r = (u : State) × MakesOnTop g who a c s u × StopsWith s u r × MakesTop (g.cylinders a) s u capacity r

  abbrev Kept : Graph → Type 0
  Kept h = IfApart s.graph (ChangesNames s.graph.root Nothing s.graph h)

  begun_top : (b : A) (u : State) → ReadsOn g who a b s u → MakesOnTop g who a b s u
  begun_top b u reads = reads_first g who Kept (s.graph.root ∷ []) a b s u reads (λ apart. named_same s.graph.root s.graph s.graph refl apart)

  fault_top : (cylinders : ℕ) (u : State) (fault : DirFault) → IsTopFault s fault → IsDirFault (due_top (option_and_then (entries_in s.graph) (table_in s.graph s.graph.root))) (IsTopTrouble s) (IsChangeTrouble cylinders 5 None s u s.graph.root) fault
  fault_top cylinders u (faults.Asked r) is = inl is
  fault_top cylinders u faults.Memory is = tt
  fault_top cylinders u fault is = absurd is

  pub top_refused : (b : A) (fault : DirFault) → LooksAtTop g who a b (Err fault) → (u : State) × MakesOnTop g who a b s u × StopsWith {E = Puid} s u (Err fault) × MakesTop (g.cylinders a) s u capacity (Err fault)
  top_refused b fault went = let looks = went s stands in (looks.after, begun_top b looks.after looks.calls, stops_with Puid s looks.after fault looks.told.0 looks.told.1, fault_top (g.cylinders a) looks.after fault looks.told.2)

  pub top_exists : (b : A) → LooksAtTop g who a b (Ok true) → (u : State) × MakesOnTop g who a b s u × StopsWith {E = Puid} s u (Err faults.Exists) × MakesTop (g.cylinders a) s u capacity (Err faults.Exists)
  top_exists b went =
      let told = looked g who s (λ b. b ≡ has_top s.graph) (IsTopFault s) a b true (went s stands) in
      (s, begun_top b s told.0, stops_running Puid s s faults.Exists told.1 refl refl, due (option_and_then (entries_in s.graph) (table_in s.graph s.graph.root)) told.2)
    where
      due : (o : Option (List Entry)) → true ≡ is_some o → due_top o ≡ Some faults.Exists
      due None is = cc is
      due (Some entries) is = refl

  module _ (b : A) (free : LooksAtTop g who a b (Ok false)) (cylinders : g.cylinders b ≡ g.cylinders a) where
    told : ReadsOn g who a b s s × (is_running s ≡ true) × (false ≡ has_top s.graph)
    told = looked g who s (λ b. b ≡ has_top s.graph) (IsTopFault s) a b false (free s stands)

    is_root : root ≡ s.graph.root
    is_root = at_root g who s a stands root is_top told.1

    none_top : option_and_then (entries_in s.graph) (table_in s.graph s.graph.root) ≡ None
    none_top = by (option_and_then (entries_in s.graph) (table_in s.graph s.graph.root)) told.2
      where
        by : (o : Option (List Entry)) → false ≡ is_some o → o ≡ None
        by None is = refl
        by (Some entries) is = cc is

    making_top : (c : A) (r : Result Puid DirFault) → MakesDirectory g who root 0 capacity b c r → (u : State) × CallsQuietly g who root (root ∷ []) b c s u × TellsMaking (g.cylinders b) s u root (root_index g who s a stands root is_top told.1).0 0 capacity r
    making_top c r went =
        let i = root_index g who s a stands root is_top told.1 in
        went s i.0 told.0.stands told.1 i.1 i.2 (inl (λ apart. ap (is_directory s.graph) is_root ∙ apart.root))

    calls_top : (c : A) (u : State) → CallsQuietly g who root (root ∷ []) b c s u → MakesOnTop g who a c s u
    calls_top c u quiet =
        let now = subst (λ (x : Puid). CallsQuietly g who x (x ∷ []) b c s u) is_root quiet in
        calls_on g who Kept Kept Kept (s.graph.root ∷ []) (s.graph.root ∷ []) a b c s s u (begun_top b s told.0) now (λ h holds. holds) (λ h holds. holds) (λ x there none. none)

    pub top_unmade : (c : A) (fault : DirFault) → MakesDirectory g who root 0 capacity b c (Err fault) → (u : State) × MakesOnTop g who a c s u × StopsWith {E = Puid} s u (Err fault) × MakesTop (g.cylinders a) s u capacity (Err fault)
    top_unmade c fault went =
        let m = making_top c (Err fault) went in (
          m.0,
          calls_top c m.0 m.1,
          stops_running Puid s m.0 fault told.1 m.2.0 (stays_altered (g.cylinders b) 5 None s root m.0 fault m.2.1 s m.0),
          alter_fault (g.cylinders a) 5 5 None None s s m.0 root s.graph.root (due_top (option_and_then (entries_in s.graph) (table_in s.graph s.graph.root))) (IsTopTrouble s) fault (ap due_top none_top) (omega arith) (λ never. absurd never)
              (λ bars. inl (ap (is_open s) (sym is_root) ∙ bars)) (subst (λ (n : ℕ). IsAlterFault n 5 None s root m.0 fault) cylinders m.2.1),
        )

    pub top_made : (c : A) (made : Puid) → MakesDirectory g who root 0 capacity b c (Ok made) → (u : State) × MakesOnTop g who a c s u × StopsWith {E = Puid} s u (Ok made) × MakesTop (g.cylinders a) s u capacity (Ok made)
    top_made c made went =
        let m = making_top c (Ok made) went in
        let i = root_index g who s a stands root is_top told.1 in (
          m.0,
          calls_top c m.0 m.1,
          (told.1, m.2.0),
          (
            none_top,
            (λ j at.
                let same : i.0 ≡ j = cc (sym i.1 ∙ ap (index_at s.graph) is_root ∙ at) in
                ap (index_at m.0.graph) (sym is_root) ∙ m.2.2 ∙ ap (λ (k : Index). Some (filled k 0 (Some made))) same),
            m.2.1,
          ),
        )

    pub top_going : (c : A) (r : Result Puid DirFault) → MakesDirectory g who root 0 capacity b c r → (u : State) × MakesOnTop g who a c s u × StopsWith {E = Puid} s u r × MakesTop (g.cylinders a) s u capacity r
    top_going c (Ok made) went = top_made c made went
    top_going c (Err fault) went = top_unmade c fault went
