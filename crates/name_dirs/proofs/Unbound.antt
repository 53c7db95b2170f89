-- A name that is taken out.
use Rattle.std.proofs.Common.{◌≡◌, ◌⊎◌, inl, inr, ℕ, ◌+◌, ◌-◌, ◌*◌, ◌≤◌, true, Option, Some, None, List, [], ◌∷◌, length, set, refl, sym, ◌∙◌, ap, subst, arith}
use Rattle.std.specs.Prelude.{Err, Ok, Result, is_none, is_some, if◌then◌else◌}
use Rattle.std.specs.List.{position}
use Rattle.std.proofs.lemmas.List.{set-set}
use Rattle.cfs_base.specs.declared.identifier.Puid.{Puid}
use Rattle.ufs_model.specs.declared.asker.Asker.{Ghosts}
use Rattle.ufs_model.specs.declared.object.File.{File}
use Rattle.ufs_model.specs.declared.object.Index.{Index}
use Rattle.ufs_model.specs.declared.object.Object.TheVariants as objects
use Rattle.ufs_model.specs.Graph.{Graph, with_object}
use Rattle.ufs_model.specs.Object.{filled, slot_of, written}
use Rattle.ufs_model.specs.State.{State}
use Rattle.name_dirs.specs.declared.fault.DirFault.{DirFault}
use Rattle.name_dirs.specs.declared.fault.DirFault.TheVariants as faults
use Rattle.name_dirs.specs.declared.table.Table.{Table}
use Rattle.name_dirs.specs.Calls.{ReadsOn, Renames, TakesName, Unbinds, parts_in}
use Rattle.name_dirs.specs.Changing.{Alters, Empties, IsAlterFault, WritesRow}
use Rattle.name_dirs.specs.Directory.{Entry, empty_entry, entries_in, row_at, table_entries}
use Rattle.name_dirs.specs.Faults.{IsChangeTrouble, IsDirFault, IsReadTrouble, StaysAfter, StopsWith, after_fault, due_name, due_of}
use Rattle.name_dirs.specs.Names.{Change, ChangesNames, IfApart, Nothing, OldOrNew, Put, entries_put, has_name, id_under}
use Rattle.name_dirs.specs.Opening.{HasNoRow, IsFirstRow, Opens}
use Rattle.name_dirs.specs.Reading.{HasTable, LooksAtSlot}
use Rattle.name_dirs.specs.Text.{is_text, name_in, row_size, spelled}
use Rattle.name_dirs.proofs.Begun.{bars_table, begun, named_then, same_graph, stays, unread, within_dir, within_table}
use Rattle.name_dirs.proofs.Chains.{calls_then, reads_first}
use Rattle.name_dirs.proofs.Faulted.{alter_fault, fault_graph, same_open, stays_altered, stop_since, stops_running}
use Rattle.name_dirs.proofs.Found.{fault_with, under_no_row, under_row}
use Rattle.name_dirs.proofs.Looked.{reads_on, stays_told}
use Rattle.name_dirs.proofs.Moves.{has_entries, named_same}
use Rattle.name_dirs.proofs.Opened.{read_fault}
use Rattle.name_dirs.proofs.Rows.{written_here}
use Rattle.name_dirs.proofs.Stepped.{entries_zeros, has_zeros, slot_entries, slot_quiet, zeros_out}
use Rattle.name_dirs.proofs.Tables.{calls_by_row, special_table, stands_at}
use Rattle.name_dirs.proofs.Told.{HasOpened, due_now, entries_now, first_row_of, looks_slot, no_row_of, slot_told}

pub unbind_unread : {A : Type 0} (g : Ghosts A) (who : ℕ) (dir : Puid) (s : State) (a b : A) (w : List ℕ) (fault : DirFault) → g.stands a s → Opens g who dir a b (Err fault)
    → (u : State) × Renames g who dir w None a b s u × StopsWith {E = Unit {0}} s u (Err fault) × Unbinds (g.cylinders a) s u dir w (Err fault)
unbind_unread g who dir s a b w fault stands went =
    let k = unread (Unit {0}) g who (OldOrNew dir (Put dir w None) s.graph) (parts_in s.graph dir) dir a b s fault (λ apart. inl (named_same dir s.graph s.graph refl apart)) stands went in
    (k.after, k.calls, k.stops, (inl (λ apart. named_same dir s.graph k.after.graph k.graph apart), fault_with s dir (due_name w) (IsChangeTrouble (g.cylinders a) 4 None s k.after dir) fault k.cause))

module _ {A : Type 0} (g : Ghosts A) (who : ℕ) (dir : Puid) (s : State) (a b : A) (table : Table) (o : HasOpened g who dir a b s table) (w : List ℕ) (text : is_text w ≡ true) where
  abbrev i : Index
  i = o.of.index

  abbrev f : File
  f = o.of.file

  abbrev t : Puid
  t = table.file

  abbrev has : HasTable s.graph dir t i f
  has = o.of.has

  abbrev es : List Entry
  es = table_entries i f

  abbrev out : Change
  out = Put dir w None

  abbrev Unbound : A → Result (Unit {0}) DirFault → Type 0
  Unbound d r = (u : State) × Renames g who dir w None a d s u × StopsWith s u r × Unbinds (g.cylinders a) s u dir w r

  abbrev Cause : State → DirFault → Type 0
  Cause u fault = IsDirFault (due_of s dir (due_name w)) (IsReadTrouble s dir) (IsChangeTrouble (g.cylinders a) 4 None s u dir) fault

  refused : (d : A) (u : State) (fault : DirFault) → Renames g who dir w None a d s u → u.stopped ≡ (after_fault fault s).stopped → StaysAfter fault s u → IfApart s.graph (ChangesNames dir Nothing s.graph u.graph) ⊎ TakesName dir w s.graph u.graph → Cause u fault → Unbound d (Err fault)
  refused d u fault calls stop stay names cause = (u, calls, stops_running (Unit {0}) s u fault o.runs stop stay, (names, cause))

  due_is : (id : Option Puid) → id_under w es ≡ id → due_of s dir (due_name w) ≡ (if is_none id then Some faults.NoName else None)
  due_is id is = due_now g who dir a b s table o (due_name w) ∙ ap (λ (id : Option Puid). if is_none id then Some faults.NoName else None) is

  pub unbind_none : HasNoRow table.bytes table.slots (spelled w) → (u : State) × Renames g who dir w None a b s u × StopsWith {E = Unit {0}} s u (Err faults.NoName) × Unbinds (g.cylinders a) s u dir w (Err faults.NoName)
  unbind_none none = refused b s faults.NoName (begun g who dir s a b o.reads out) refl refl (inl (stays s dir s refl))
      (due_is None (under_no_row i f has.is w text (no_row_of s.graph dir table o.of (spelled w) w refl none)))

  module _ (place : ℕ) (first : IsFirstRow table.bytes table.slots (spelled w) place) (c : A) where
    here : IsFirstRow f.bytes (length i.slots) (spelled w) place
    here = first_row_of s.graph dir table o.of (spelled w) w place refl first

    under : id_under w es ≡ slot_of i place
    under = under_row i f has.is w text place here

    pub unbind_unseen : (fault : DirFault) → LooksAtSlot g who dir place b c (Err fault) → (u : State) × Renames g who dir w None a c s u × StopsWith {E = Unit {0}} s u (Err fault) × Unbinds (g.cylinders a) s u dir w (Err fault)
    unbind_unseen fault went =
        let looks = looks_slot g who dir a b s table o place c (Err fault) here.within went in
        let calls = reads_on g who a b c s looks.after o.reads looks.calls in
        refused c looks.after fault (reads_first g who (OldOrNew dir out s.graph) (parts_in s.graph dir) a c s looks.after calls (λ apart. inl (named_same dir s.graph s.graph refl apart)))
        (ap (λ (u : State). u.stopped) looks.told.0) (stays_told fault s looks.after looks.told.0) (inl (stays s dir looks.after (same_graph s looks.after fault looks.told.0)))
        (fault_with s dir (due_name w) (IsChangeTrouble (g.cylinders a) 4 None s looks.after dir) fault (read_fault s dir dir fault (λ bars. inl bars) looks.told.2))

    pub unbind_empty : LooksAtSlot g who dir place b c (Ok None) → (u : State) × Renames g who dir w None a c s u × StopsWith {E = Unit {0}} s u (Err faults.NoName) × Unbinds (g.cylinders a) s u dir w (Err faults.NoName)
    unbind_empty went =
        let told = slot_told g who dir a b s table o place c None here.within went in
        refused c s faults.NoName (begun g who dir s a c told.0 out) refl refl (inl (stays s dir s refl)) (due_is None (under ∙ sym told.1))

    module _ (id : Puid) (held : LooksAtSlot g who dir place b c (Ok (Some id))) (cylinders : g.cylinders c ≡ g.cylinders b) where
      told : ReadsOn g who a c s s × (Some id ≡ slot_of i place)
      told = slot_told g who dir a b s table o place c (Some id) here.within held

      none_due : due_of s dir (due_name w) ≡ None
      none_due = due_is (Some id) (under ∙ sym told.1)

      abbrev n : File
      n = written f (row_size * place) (spelled [])

      abbrev Zeroed : Unit {0} → Graph → Type 0
      Zeroed u h = h ≡ with_object s.graph t (objects.File n)

      long : row_size * place + row_size ≤ length f.bytes
      long = let size = (special_table (length i.slots) f has.is).1.size in let late = here.within in omega (arith, size, late)

      zeroed : (d : A) (r : Result (Unit {0}) DirFault) → WritesRow g who t place (spelled []) c d r → Alters g who s t Zeroed (IsAlterFault (g.cylinders c) 4 None s t) c d r
      zeroed d r went = went s f told.0.stands o.runs has.table (special_table (length i.slots) f has.is).0 long refl

      taken : (h : Graph) → Zeroed tt h → IfApart s.graph (ChangesNames dir out s.graph h)
      taken h made apart = subst (ChangesNames dir out s.graph) (sym made) (zeros_out s.graph dir t i f has w text place here.some here.within here.here apart)

      calls_zeroed : (d : A) (r : Result (Unit {0}) DirFault) (al : Alters g who s t Zeroed (IsAlterFault (g.cylinders c) 4 None s t) c d r) → Renames g who dir w None a d s al.after
      calls_zeroed d r al = calls_then g who (OldOrNew dir out s.graph) Zeroed (parts_in s.graph dir) (t ∷ []) a c d s s al.after (begun g who dir s a c told.0 out) al.calls (λ u h made apart. inr (taken h made apart)) (within_table s.graph dir t i f has)

      pub unbind_kept : (d : A) (fault : DirFault) → WritesRow g who table.file place (spelled []) c d (Err fault) → (u : State) × Renames g who dir w None a d s u × StopsWith {E = Unit {0}} s u (Err fault) × Unbinds (g.cylinders a) s u dir w (Err fault)
      unbind_kept d fault went =
          let al = zeroed d (Err fault) went in
          refused d al.after fault (calls_zeroed d (Err fault) al) (ap (λ (u : State). u.stopped) al.told.0) (stays_told fault s al.after al.told.0) (inl (stays s dir al.after (same_graph s al.after fault al.told.0)))
          (alter_fault (g.cylinders a) 4 4 None None s s al.after t dir (due_of s dir (due_name w)) (IsReadTrouble s dir) fault none_due (omega arith) (λ never. absurd never) (bars_table s dir t i f has s refl)
          (subst (λ (k : ℕ). IsAlterFault k 4 None s t al.after fault) (cylinders ∙ o.cylinders) al.told.1))

      -- the row is zeros, and then the slot emptied
      module _ (d : A) (zeros : Alters g who s t Zeroed (IsAlterFault (g.cylinders c) 4 None s t) c d (Ok tt)) where
        abbrev m : State
        m = zeros.after

        is_graph : m.graph ≡ with_object s.graph t (objects.File n)
        is_graph = zeros.told.1

        now : HasTable m.graph dir t i n
        now = subst (λ h. HasTable h dir t i n) (sym is_graph) (has_zeros s.graph dir t i f has w text place here.some here.within here.here)

        free : name_in (row_at n.bytes place) ≡ None
        free = ap name_in (written_here f (spelled []) place refl long)

        position_is : position (has_name w) es ≡ Some (place - 1)
        position_is = stands_at i f (has_name w) (spelled w) (calls_by_row i f has.is w text) place here

        abbrev Emptied : Unit {0} → Graph → Type 0
        Emptied u h = h ≡ with_object m.graph dir (objects.Index (filled i place None))

        emptied_names : (h : Graph) → Emptied tt h → IfApart s.graph (ChangesNames dir out s.graph h)
        emptied_names h made apart =
            let first = taken m.graph is_graph apart in
            let second = slot_quiet m.graph dir t i n now place None here.some here.within None free refl first.apart in
            subst (ChangesNames dir out s.graph) (sym made) (named_then dir out s.graph m.graph (with_object m.graph dir (objects.Index (filled i place None))) zeros.calls.graph.there first second)

        calls_emptied : (e : A) (r : Result (Unit {0}) DirFault) (al : Alters g who m dir Emptied (IsAlterFault (g.cylinders d) 4 None m dir) d e r) → Renames g who dir w None a e s al.after
        calls_emptied e r al = calls_then g who (OldOrNew dir out s.graph) Emptied (parts_in s.graph dir) (dir ∷ []) a d e s m al.after (calls_zeroed d (Ok tt) zeros) al.calls (λ u h made apart. inr (emptied_names h made apart)) (within_dir s.graph dir)

        unbind_emptied : g.cylinders d ≡ g.cylinders c → (e : A) (r : Result (Unit {0}) DirFault) → Empties g who dir place d e r → Unbound e r
        unbind_emptied still e r went = by r (went m i zeros.calls.stands zeros.told.0 now.index here.within (ap is_some (sym told.1)))
          where
            by : (r : Result (Unit {0}) DirFault) → Alters g who m dir Emptied (IsAlterFault (g.cylinders d) 4 None m dir) d e r → Unbound e r
            by (Ok u) al = (
              al.after,
              calls_emptied e (Ok u) al,
              (o.runs, al.told.0),
              (
                emptied_names al.after.graph al.told.1,
                (
                  es,
                  entries_now g who dir a b s table o,
                  ap (λ (p : Option Puid). if is_none p then Some faults.NoName else None) (under ∙ sym told.1),
                  ap (λ h. entries_in h dir) al.told.1 ∙ slot_entries m.graph dir t i n now place None here.some here.within None free
                      ∙ ap Some (ap (λ l. set l (place - 1) (record { name = None; id = None })) (entries_zeros s.graph dir t i f has w text place here.some here.within here.here)
                      ∙ set-set es (place - 1) (record { name = None; id = slot_of i place }) (record { name = None; id = None })
                      ∙ sym (ap (λ p. entries_put p empty_entry es) position_is)),
                ),
              ),
            )
            by (Err fault) al =
                let same : al.after.graph ≡ m.graph = ap (λ (u : State). u.graph) al.told.0 ∙ fault_graph fault m in
                refused e al.after fault (calls_emptied e (Err fault) al) (stop_since fault s m al.after o.runs zeros.told.0 al.told.0) (stays_altered (g.cylinders d) 4 None m dir al.after fault al.told.1 s al.after)
                (inr (record {
                  names = λ apart. subst (ChangesNames dir out s.graph) (sym same) (taken m.graph is_graph apart);
                  entries = es;
                  before = entries_now g who dir a b s table o;
                  now = ap (λ h. entries_in h dir) same ∙ has_entries m.graph dir t i n now
                      ∙ ap Some (entries_zeros s.graph dir t i f has w text place here.some here.within here.here ∙ ap (λ (id : Option Puid). set es (place - 1) (record { name = None; id = id })) (sym under)
                      ∙ sym (ap (λ p. entries_put p (record { name = None; id = id_under w es }) es) position_is));
                }))
                (alter_fault (g.cylinders a) 4 4 None None s m al.after dir dir (due_of s dir (due_name w)) (IsReadTrouble s dir) fault none_due (omega arith) (λ never. absurd never) (λ bars. inl (same_open s m dir zeros.calls.grants bars))
                (subst (λ (k : ℕ). IsAlterFault k 4 None m dir al.after fault) (still ∙ cylinders ∙ o.cylinders) al.told.1))

      pub unbind_written : (d : A) → WritesRow g who table.file place (spelled []) c d (Ok tt) → g.cylinders d ≡ g.cylinders c → (e : A) (r : Result (Unit {0}) DirFault) → Empties g who dir place d e r
          → (u : State) × Renames g who dir w None a e s u × StopsWith s u r × Unbinds (g.cylinders a) s u dir w r
      unbind_written d wrote still e r went = unbind_emptied d (zeroed d (Ok tt) wrote) still e r went
