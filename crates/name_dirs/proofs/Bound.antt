-- A name that is bound.
use Rattle.std.proofs.Common.{◌≡◌, inl, inr, ℕ, ◌+◌, ◌-◌, ◌*◌, ◌<◌, ◌≤◌, true, Option, Some, None, List, [], ◌∷◌, length, set, refl, sym, ◌∙◌, ap, subst, arith}
use Rattle.std.specs.Prelude.{Err, Ok, Result, is_none, if◌then◌else◌}
use Rattle.std.proofs.lemmas.List.{set-set}
use Rattle.cfs_base.specs.declared.identifier.Puid.{Puid}
use Rattle.ufs_model.specs.declared.asker.Asker.{Ghosts}
use Rattle.ufs_model.specs.declared.object.File.{File}
use Rattle.ufs_model.specs.declared.object.Index.{Index}
use Rattle.ufs_model.specs.declared.object.Object.TheVariants as objects
use Rattle.ufs_model.specs.Graph.{Graph, is_there, with_object}
use Rattle.ufs_model.specs.Object.{filled, written}
use Rattle.ufs_model.specs.State.{State}
use Rattle.name_dirs.specs.declared.fault.DirFault.{DirFault}
use Rattle.name_dirs.specs.declared.fault.DirFault.TheVariants as faults
use Rattle.name_dirs.specs.declared.table.Table.{Table}
use Rattle.name_dirs.specs.Calls.{Binds, Renames, parts_in}
use Rattle.name_dirs.specs.Chain.{Calls}
use Rattle.name_dirs.specs.Changing.{Alters, IsAlterFault, Retains, WritesRow}
use Rattle.name_dirs.specs.Directory.{Entry, entries_in, row_at, table_entries}
use Rattle.name_dirs.specs.Faults.{IsChangeTrouble, IsDirFault, IsReadTrouble, StaysAfter, StopsWith, after_fault, due_of, due_place}
use Rattle.name_dirs.specs.Names.{Change, ChangesNames, IfApart, Nothing, OldOrNew, Put, bound, has_name, is_nameless, place_for, place_or}
use Rattle.name_dirs.specs.Opening.{HasNoRow, IsFirstRow, Opens, full_of}
use Rattle.name_dirs.specs.Reading.{HasTable}
use Rattle.name_dirs.specs.Text.{is_text, name_in, row_size, spelled}
use Rattle.name_dirs.proofs.Begun.{bars_table, begun, same_graph, stays, unread, within_dir, within_table}
use Rattle.name_dirs.proofs.Chains.{calls_then}
use Rattle.name_dirs.proofs.Faulted.{alter_fault, fault_graph, stays_altered, stop_since, stops_running}
use Rattle.name_dirs.proofs.Found.{fault_with}
use Rattle.name_dirs.proofs.Looked.{stays_told}
use Rattle.name_dirs.proofs.Moves.{has_entries, named_on, named_same}
use Rattle.name_dirs.proofs.Named.{has_filled}
use Rattle.name_dirs.proofs.Rows.{length_spelled, text_parts}
use Rattle.name_dirs.proofs.Stepped.{entries_name, entries_slotted, has_name_row, name_in_place, named_at, slot_bound, slot_entries, slot_quiet}
use Rattle.name_dirs.proofs.Tables.{as_many, calls_by_row, free_by_row, slot_here, special_table, stands_at, stands_nowhere}
use Rattle.name_dirs.proofs.Told.{HasOpened, due_now, entries_now, first_row_of, no_row_of, told_full}

pub bind_unread : {A : Type 0} (g : Ghosts A) (who : ℕ) (dir : Puid) (s : State) (a b : A) (w : List ℕ) (id : Puid) (fault : DirFault) → g.stands a s → Opens g who dir a b (Err fault)
    → (u : State) × Renames g who dir w (Some id) a b s u × StopsWith {E = Unit {0}} s u (Err fault) × Binds (g.cylinders a) s u dir w id (Err fault)
bind_unread g who dir s a b w id fault stands went =
    let k = unread (Unit {0}) g who (OldOrNew dir (Put dir w (Some id)) s.graph) (parts_in s.graph dir) dir a b s fault (λ apart. inl (named_same dir s.graph s.graph refl apart)) stands went in
    (k.after, k.calls, k.stops, (λ apart. named_same dir s.graph k.after.graph k.graph apart, fault_with s dir (due_place w) (IsChangeTrouble (g.cylinders a) 4 (Some id) s k.after dir) fault k.cause))

module _ {A : Type 0} (g : Ghosts A) (who : ℕ) (dir : Puid) (s : State) (a b : A) (table : Table) (o : HasOpened g who dir a b s table) (w : List ℕ) (text : is_text w ≡ true) where
  abbrev i : Index
  i = o.of.index

  abbrev f : File
  f = o.of.file

  abbrev t : Puid
  t = table.file

  abbrev has : HasTable s.graph dir t i f
  has = o.of.has

  abbrev es : List Entry
  es = table_entries i f

  first_is : (v row : List ℕ) (place : ℕ) → row ≡ spelled v → IsFirstRow table.bytes table.slots row place → IsFirstRow f.bytes (length i.slots) (spelled v) place
  first_is v row place is first = first_row_of s.graph dir table o.of row v place is first

  none_is : (v : List ℕ) → HasNoRow table.bytes table.slots (spelled v) → HasNoRow f.bytes (length i.slots) (spelled v)
  none_is v none = no_row_of s.graph dir table o.of (spelled v) v refl none

  -- ---- a name bound

  module _ (id : Puid) where
    abbrev Bound : A → Result (Unit {0}) DirFault → Type 0
    Bound d r = (u : State) × Renames g who dir w (Some id) a d s u × StopsWith s u r × Binds (g.cylinders a) s u dir w id r

    abbrev to_id : Change
    to_id = Put dir w (Some id)

    refused : (d : A) (u : State) (fault : DirFault) → Renames g who dir w (Some id) a d s u → u.stopped ≡ (after_fault fault s).stopped → StaysAfter fault s u → IfApart s.graph (ChangesNames dir Nothing s.graph u.graph)
        → IsDirFault (due_of s dir (due_place w)) (IsReadTrouble s dir) (IsChangeTrouble (g.cylinders a) 4 (Some id) s u dir) fault → Bound d (Err fault)
    refused d u fault calls stop stay names cause = (u, calls, stops_running (Unit {0}) s u fault o.runs stop stay, (names, cause))

    -- each entry has another name
    pub bind_full : HasNoRow table.bytes table.slots (spelled w) → HasNoRow table.bytes table.slots (spelled [])
        → (u : State) × Renames g who dir w (Some id) a b s u × StopsWith {E = Unit {0}} s u (Err (full_of table.slots)) × Binds (g.cylinders a) s u dir w id (Err (full_of table.slots))
    bind_full none taken = subst (λ (fault : DirFault). Bound b (Err fault)) (sym (told_full i f table.slots o.of.slots o.few)) (refused b s (faults.DirFull (length es)) (begun g who dir s a b o.reads to_id) refl refl (stays s dir s refl) due)
      where
        nowhere : place_for w es ≡ None
        nowhere = ap (λ p. place_or p es) (stands_nowhere i f (has_name w) (spelled w) (calls_by_row i f has.is w text) (none_is w none)) ∙ stands_nowhere i f is_nameless (spelled []) (free_by_row i f has.is) (none_is [] taken)

        due : due_of s dir (due_place w) ≡ Some (faults.DirFull (length es))
        due = due_now g who dir a b s table o (due_place w) ∙ ap (λ (p : Option ℕ). if is_none p then Some (faults.DirFull (length es)) else None) nowhere

    module _ (place : ℕ) where
      abbrev kept : Index
      kept = filled i place (Some id)

      abbrev Kept : Unit {0} → Graph → Type 0
      Kept u h = (is_there s.graph id ≡ true) × (h ≡ with_object s.graph dir (objects.Index (filled i place (Some id))))

      -- what the names were due, at this place
      none_due_at : place_for w es ≡ Some (place - 1) → due_place w es ≡ None
      none_due_at is = ap (λ (p : Option ℕ). if is_none p then Some (faults.DirFull (length es)) else None) is

      due_none : place_for w es ≡ Some (place - 1) → due_of s dir (due_place w) ≡ None
      due_none is = due_now g who dir a b s table o (due_place w) ∙ none_due_at is

      bound_at : place_for w es ≡ Some (place - 1) → bound w id es ≡ set es (place - 1) (record { name = Some w; id = Some id })
      bound_at is = rw is refl

      retained : (c : A) (r : Result (Unit {0}) DirFault) → place < length i.slots → Retains g who dir place id b c r → Alters g who s dir Kept (IsAlterFault (g.cylinders b) 4 (Some id) s dir) b c r
      retained c r late went = went s i o.reads.stands o.runs has.index late

      retain_refused : (c : A) (fault : DirFault) (al : Alters g who s dir Kept (IsAlterFault (g.cylinders b) 4 (Some id) s dir) b c (Err fault)) → place_for w es ≡ Some (place - 1) → ((u : Unit {0}) (h : Graph) → Kept u h → OldOrNew dir to_id s.graph h) → Bound c (Err fault)
      retain_refused c fault al is makes = refused c al.after fault (calls_then g who (OldOrNew dir to_id s.graph) Kept (parts_in s.graph dir) (dir ∷ []) a b c s s al.after (begun g who dir s a b o.reads to_id) al.calls makes (within_dir s.graph dir))
          (ap (λ (u : State). u.stopped) al.told.0) (stays_told fault s al.after al.told.0) (stays s dir al.after (same_graph s al.after fault al.told.0))
          (alter_fault (g.cylinders a) 4 4 (Some id) (Some id) s s al.after dir dir (due_of s dir (due_place w)) (IsReadTrouble s dir) fault (due_none is) (omega arith) (λ missing. missing) (λ bars. inl bars)
          (subst (λ (n : ℕ). IsAlterFault n 4 (Some id) s dir al.after fault) o.cylinders al.told.1))

      -- an entry has the name
      module _ (first : IsFirstRow table.bytes table.slots (spelled w) place) where
        here : IsFirstRow f.bytes (length i.slots) (spelled w) place
        here = first_is w (spelled w) place refl first

        place_is : place_for w es ≡ Some (place - 1)
        place_is = ap (λ p. place_or p es) (stands_at i f (has_name w) (spelled w) (calls_by_row i f has.is w text) place here)

        named : name_in (row_at f.bytes place) ≡ Some w
        named = named_at i f has.is w text place here.some here.within here.here

        kept_names : (u : Unit {0}) (h : Graph) → Kept u h → OldOrNew dir to_id s.graph h
        kept_names u h made apart = inr (subst (ChangesNames dir to_id s.graph) (sym made.1) (slot_bound s.graph dir t i f has place (Some id) here.some here.within (Some w) named w text refl here.here apart))

        pub bind_named : (c : A) (r : Result (Unit {0}) DirFault) → Retains g who dir place id b c r → (u : State) × Renames g who dir w (Some id) a c s u × StopsWith s u r × Binds (g.cylinders a) s u dir w id r
        bind_named c r went = by r (retained c r here.within went)
          where
            by : (r : Result (Unit {0}) DirFault) → Alters g who s dir Kept (IsAlterFault (g.cylinders b) 4 (Some id) s dir) b c r → Bound c r
            by (Ok u) al = (
              al.after,
              calls_then g who (OldOrNew dir to_id s.graph) Kept (parts_in s.graph dir) (dir ∷ []) a b c s s al.after (begun g who dir s a b o.reads to_id) al.calls kept_names (within_dir s.graph dir),
              (o.runs, al.told.0),
              (
                λ apart. subst (ChangesNames dir to_id s.graph) (sym al.told.1.1) (slot_bound s.graph dir t i f has place (Some id) here.some here.within (Some w) named w text refl here.here apart),
                al.told.1.0,
                (
                  es,
                  entries_now g who dir a b s table o,
                  none_due_at place_is,
                  ap (λ h. entries_in h dir) al.told.1.1 ∙ slot_entries s.graph dir t i f has place (Some id) here.some here.within (Some w) named ∙ ap Some (sym (bound_at place_is)),
                ),
              ),
            )
            by (Err fault) al = retain_refused c fault al place_is kept_names

      -- none has it, and this one has no name
      module _ (none : HasNoRow table.bytes table.slots (spelled w)) (first : IsFirstRow table.bytes table.slots (spelled []) place) where
        spot : IsFirstRow f.bytes (length i.slots) (spelled []) place
        spot = first_is [] (spelled []) place refl first

        free : name_in (row_at f.bytes place) ≡ None
        free = ap name_in spot.here

        new_place : place_for w es ≡ Some (place - 1)
        new_place = ap (λ p. place_or p es) (stands_nowhere i f (has_name w) (spelled w) (calls_by_row i f has.is w text) (none_is w none)) ∙ stands_at i f is_nameless (spelled []) (free_by_row i f has.is) place spot

        quiet : (h : Graph) → h ≡ with_object s.graph dir (objects.Index kept) → IfApart s.graph (ChangesNames dir Nothing s.graph h)
        quiet h made apart = subst (ChangesNames dir Nothing s.graph) (sym made) (slot_quiet s.graph dir t i f has place (Some id) spot.some spot.within None free refl apart)

        kept_quiet : (u : Unit {0}) (h : Graph) → Kept u h → OldOrNew dir to_id s.graph h
        kept_quiet u h made apart = inl (quiet h made.1 apart)

        pub bind_unkept : (c : A) (fault : DirFault) → Retains g who dir place id b c (Err fault) → (u : State) × Renames g who dir w (Some id) a c s u × StopsWith {E = Unit {0}} s u (Err fault) × Binds (g.cylinders a) s u dir w id (Err fault)
        bind_unkept c fault went = retain_refused c fault (retained c (Err fault) spot.within went) new_place kept_quiet

        -- the slot is filled, and then the name written
        module _ (c : A) (kept_so : Alters g who s dir Kept (IsAlterFault (g.cylinders b) 4 (Some id) s dir) b c (Ok tt)) where
          abbrev m : State
          m = kept_so.after

          is_graph : m.graph ≡ with_object s.graph dir (objects.Index kept)
          is_graph = kept_so.told.1.1

          slots : length kept.slots ≡ length i.slots
          slots = as_many i place (Some id)

          now : HasTable m.graph dir t kept f
          now = subst (λ h. HasTable h dir t kept f) (sym is_graph) (has_filled s.graph dir t i f place (Some id) has spot.some)

          late : place < length kept.slots
          late = let within = spot.within in omega (arith, within, slots)

          none_now : HasNoRow f.bytes (length kept.slots) (spelled w)
          none_now k from to = none_is w none k from (omega (arith, to, slots))

          abbrev Named : Unit {0} → Graph → Type 0
          Named u h = h ≡ with_object m.graph t (objects.File (written f (row_size * place) (spelled w)))

          named_names : (h : Graph) → Named tt h → IfApart s.graph (ChangesNames dir to_id s.graph h)
          named_names h made apart =
              let first = quiet m.graph is_graph apart in
              let second = name_in_place m.graph dir t kept f now w text place spot.some late spot.here none_now first.apart in
              let leads = subst (λ (what : Option Puid). ChangesNames dir (Put dir w what) m.graph (with_object m.graph t (objects.File (written f (row_size * place) (spelled w))))) (slot_here i place (Some id) spot.within) second in
              subst (ChangesNames dir to_id s.graph) (sym made) (named_on dir dir to_id s.graph m.graph (with_object m.graph t (objects.File (written f (row_size * place) (spelled w)))) kept_so.calls.graph.there (inl refl) first leads)

          calls_kept : Calls g who (OldOrNew dir to_id s.graph) (parts_in s.graph dir) a c s m
          calls_kept = calls_then g who (OldOrNew dir to_id s.graph) Kept (parts_in s.graph dir) (dir ∷ []) a b c s s m (begun g who dir s a b o.reads to_id) kept_so.calls kept_quiet (within_dir s.graph dir)

          calls_named : (d : A) (r : Result (Unit {0}) DirFault) (al : Alters g who m t Named (IsAlterFault (g.cylinders c) 4 None m t) c d r) → Renames g who dir w (Some id) a d s al.after
          calls_named d r al = calls_then g who (OldOrNew dir to_id s.graph) Named (parts_in s.graph dir) (t ∷ []) a c d s m al.after calls_kept al.calls (λ u h made apart. inr (named_names h made apart)) (within_table s.graph dir t i f has)

          pub bind_written : g.cylinders c ≡ g.cylinders b → (d : A) (r : Result (Unit {0}) DirFault) → WritesRow g who t place (spelled w) c d r → Bound d r
          bind_written cylinders d r went = by r (went m f kept_so.calls.stands kept_so.told.0 now.table (special_table (length kept.slots) f now.is).0 long (length_spelled w (text_parts w text).few))
            where
              long : row_size * place + row_size ≤ length f.bytes
              long = let size = (special_table (length kept.slots) f now.is).1.size in omega (arith, size, late)

              by : (r : Result (Unit {0}) DirFault) → Alters g who m t Named (IsAlterFault (g.cylinders c) 4 None m t) c d r → Bound d r
              by (Ok u) al = (
                al.after,
                calls_named d (Ok u) al,
                (o.runs, al.told.0),
                (
                  named_names al.after.graph al.told.1,
                  kept_so.told.1.0,
                  (
                    es,
                    entries_now g who dir a b s table o,
                    none_due_at new_place,
                    ap (λ h. entries_in h dir) al.told.1 ∙ has_entries _ dir t kept _ (has_name_row m.graph dir t kept f now w text place spot.some late spot.here none_now)
                        ∙ ap Some (entries_name m.graph dir t kept f now w text place spot.some late spot.here none_now
                        ∙ ap (λ (what : Option Puid). set (table_entries kept f) (place - 1) (record { name = Some w; id = what })) (slot_here i place (Some id) spot.within)
                        ∙ ap (λ l. set l (place - 1) (record { name = Some w; id = Some id })) (entries_slotted s.graph dir t i f has place (Some id) spot.some spot.within None free)
                        ∙ set-set es (place - 1) (record { name = None; id = Some id }) (record { name = Some w; id = Some id }) ∙ sym (bound_at new_place)),
                  ),
                ),
              )
              by (Err fault) al = refused d al.after fault (calls_named d (Err fault) al) (stop_since fault s m al.after o.runs kept_so.told.0 al.told.0) (stays_altered (g.cylinders c) 4 None m t al.after fault al.told.1 s al.after)
                  (λ apart. subst (ChangesNames dir Nothing s.graph) (sym (ap (λ (u : State). u.graph) al.told.0 ∙ fault_graph fault m)) (quiet m.graph is_graph apart))
                  (alter_fault (g.cylinders a) 4 4 None (Some id) s m al.after t dir (due_of s dir (due_place w)) (IsReadTrouble s dir) fault (due_none new_place) (omega arith) (λ never. absurd never) (bars_table s dir t i f has m kept_so.calls.grants)
                  (subst (λ (n : ℕ). IsAlterFault n 4 None m t al.after fault) (cylinders ∙ o.cylinders) al.told.1))

        pub bind_new : (c : A) → Retains g who dir place id b c (Ok tt) → g.cylinders c ≡ g.cylinders b → (d : A) (r : Result (Unit {0}) DirFault) → WritesRow g who table.file place (spelled w) c d r
            → (u : State) × Renames g who dir w (Some id) a d s u × StopsWith s u r × Binds (g.cylinders a) s u dir w id r
        bind_new c went cylinders d r wrote = bind_written c (retained c (Ok tt) spot.within went) cylinders d r wrote
