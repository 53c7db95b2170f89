-- The place of a new directory.
use Rattle.std.proofs.Common.{◌≡◌, ◌≢◌, ◌⊎◌, inl, inr, ℕ, ◌+◌, ◌-◌, ◌*◌, ◌<◌, ◌≤◌, true, Option, Some, None, List, [], ◌∷◌, length, set, refl, sym, ◌∙◌, ap, subst, arith}
use Rattle.std.specs.Option.{ok_or}
use Rattle.std.specs.Prelude.{Err, MatchOption, Ok, Result, is_none, is_some, if◌then◌else◌}
use Rattle.std.specs.List.{position}
use Rattle.std.proofs.lemmas.Bool.{cases_eq}
use Rattle.std.proofs.lemmas.List.{set-set}
use Rattle.cfs_base.specs.declared.identifier.Puid.{Puid}
use Rattle.ufs_model.specs.declared.asker.Asker.{Ghosts}
use Rattle.ufs_model.specs.declared.object.File.{File}
use Rattle.ufs_model.specs.declared.object.Index.{Index}
use Rattle.ufs_model.specs.declared.object.Object.TheVariants as objects
use Rattle.ufs_model.specs.Graph.{Graph, with_object}
use Rattle.ufs_model.specs.Object.{slot_of, written}
use Rattle.ufs_model.specs.State.{State, is_running}
use Rattle.name_dirs.specs.declared.fault.DirFault.{DirFault}
use Rattle.name_dirs.specs.declared.fault.DirFault.TheVariants as faults
use Rattle.name_dirs.specs.Calls.{ReadsOn, parts_in}
use Rattle.name_dirs.specs.Changing.{Alters, IsAlterFault, WritesRow}
use Rattle.name_dirs.specs.Directory.{Entry, is_table, row_at, table_entries}
use Rattle.name_dirs.specs.Faults.{IsChangeTrouble, IsDirFault, IsReadTrouble, due_new, due_place}
use Rattle.name_dirs.specs.Making.{CallsQuietly, TellsPlace}
use Rattle.name_dirs.specs.Names.{ChangesNames, IfApart, Nothing, entries_put, has_name, id_under, is_nameless, place_for, place_or}
use Rattle.name_dirs.specs.Opening.{HasNoRow, IsFirstRow, full_of}
use Rattle.name_dirs.specs.Reading.{HasTable, IsLookFault, Looks, LooksAtSlot}
use Rattle.name_dirs.specs.Text.{is_text, letters_in, name_in, row_size, spelled}
use Rattle.name_dirs.proofs.Begun.{bars_table, within_table}
use Rattle.name_dirs.proofs.Chains.{calls_then, reads_first}
use Rattle.name_dirs.proofs.Faulted.{alter_fault}
use Rattle.name_dirs.proofs.Found.{due_in, fault_with, under_no_row, under_row}
use Rattle.name_dirs.proofs.Looked.{looked, reads_itself, stays_told}
use Rattle.name_dirs.proofs.Moves.{named_same}
use Rattle.name_dirs.proofs.Opened.{read_fault}
use Rattle.name_dirs.proofs.Rows.{letters_spelled, name_spelled, text_parts, written_here, written_other}
use Rattle.name_dirs.proofs.Stepped.{entries_zeros, has_zeros, named_at, zeros_quiet}
use Rattle.name_dirs.proofs.Tables.{calls_by_row, free_by_row, only_here, special_table, stands_at, stands_nowhere}
use Rattle.name_dirs.proofs.Told.{few_slots, first_moved, none_moved, told_full}

-- a table has as many rows as its index slots
pub slots_are : (i : Index) (f : File) → is_table (length i.slots) f ≡ true → (bytes : List ℕ) (slots : ℕ) → length bytes ≡ 64 * slots → bytes ≡ f.bytes → slots ≡ length i.slots
slots_are i f is bytes slots long same = let size = (special_table (length i.slots) f is).1.size in omega (arith, long, size, ap (λ (l : List ℕ). length l) same)

module _ {A : Type 0} (g : Ghosts A) (who : ℕ) (dir t : Puid) (s : State) (a : A) (stands : g.stands a s) (runs : is_running s ≡ true) (i : Index) (f : File) (has : HasTable s.graph dir t i f) (w : List ℕ) (text : is_text w ≡ true) where
  abbrev es : List Entry
  es = table_entries i f

  abbrev Quiet : Graph → Type 0
  Quiet h = IfApart s.graph (ChangesNames dir Nothing s.graph h)

  abbrev Cause : State → DirFault → Type 0
  Cause u fault = IsDirFault (due_new w es) (IsReadTrouble s dir) (IsChangeTrouble (g.cylinders a) 4 None s u dir) fault

  abbrev Placed : A → Result ℕ DirFault → Type 0
  Placed b r = (u : State) × CallsQuietly g who dir (parts_in s.graph dir) a b s u × TellsPlace (g.cylinders a) s u dir t i f w r

  quiet_reads : (b : A) (u : State) → ReadsOn g who a b s u → CallsQuietly g who dir (parts_in s.graph dir) a b s u
  quiet_reads b u reads = reads_first g who Quiet (parts_in s.graph dir) a b s u reads (λ apart. named_same dir s.graph s.graph refl apart)

  none_new : (k : ℕ) → id_under w es ≡ None → place_for w es ≡ Some k → due_new w es ≡ None
  none_new k none is =
      ap (λ (id : Option Puid). if is_some id then Some faults.Exists else due_place w es) none
      ∙ ap (λ (p : Option ℕ). if is_none p then Some (faults.DirFull (length es)) else None) is

  -- no entry has the name

  module _ (bytes row blank : List ℕ) (slots : ℕ) (is_bytes : bytes ≡ f.bytes) (is_slots : slots ≡ length i.slots) (is_row : row ≡ spelled w) (is_blank : blank ≡ spelled []) (none : HasNoRow bytes slots row) where
    off : HasNoRow f.bytes (length i.slots) (spelled w)
    off = none_moved bytes f.bytes slots (length i.slots) row (spelled w) is_bytes is_slots is_row none

    nowhere : position (has_name w) es ≡ None
    nowhere = stands_nowhere i f (has_name w) (spelled w) (calls_by_row i f has.is w text) off

    unnamed : id_under w es ≡ None
    unnamed = under_no_row i f has.is w text off

    pub place_or_full : (o : Option ℕ) → MatchOption o (HasNoRow bytes slots blank) (IsFirstRow bytes slots blank) → (u : State) × CallsQuietly g who dir (parts_in s.graph dir) a a s u × TellsPlace (g.cylinders a) s u dir t i f w (ok_or o (full_of slots))
    place_or_full (Some place) first = (
      s,
      quiet_reads a s (reads_itself g who a s stands),
      (
        runs,
        record {
          due = none_new (place - 1) unnamed new_place;
          now = f;
          has = has;
          is = record { some = spot.some; within = spot.within; free = spot.here; none = off; binds = λ id. sym (ap (λ p. entries_put p (record { name = Some w; id = Some id }) es) new_place) };
        },
      ),
    )
      where
        spot : IsFirstRow f.bytes (length i.slots) (spelled []) place
        spot = first_moved bytes f.bytes slots (length i.slots) blank (spelled []) place is_bytes is_slots is_blank first

        new_place : place_for w es ≡ Some (place - 1)
        new_place = ap (λ p. place_or p es) nowhere ∙ stands_at i f is_nameless (spelled []) (free_by_row i f has.is) place spot
    place_or_full None taken = subst (λ (fault : DirFault). Placed a (Err fault)) (sym (told_full i f slots is_slots (few_slots s.graph dir i (g.formed a s stands runs).0.graph has.index)))
        (s, quiet_reads a s (reads_itself g who a s stands), (refl, refl, due))
      where
        full : place_for w es ≡ None
        full = ap (λ p. place_or p es) nowhere ∙ stands_nowhere i f is_nameless (spelled []) (free_by_row i f has.is) (none_moved bytes f.bytes slots (length i.slots) blank (spelled []) is_bytes is_slots is_blank taken)

        due : due_new w es ≡ Some (faults.DirFull (length es))
        due = ap (λ (id : Option Puid). if is_some id then Some faults.Exists else due_place w es) unnamed ∙ ap (λ (p : Option ℕ). if is_none p then Some (faults.DirFull (length es)) else None) full

  -- one has it

  module _ (bytes row : List ℕ) (slots place : ℕ) (is_bytes : bytes ≡ f.bytes) (is_slots : slots ≡ length i.slots) (is_row : row ≡ spelled w) (first : IsFirstRow bytes slots row place) (b : A) where
    here : IsFirstRow f.bytes (length i.slots) (spelled w) place
    here = first_moved bytes f.bytes slots (length i.slots) row (spelled w) place is_bytes is_slots is_row first

    under : id_under w es ≡ slot_of i place
    under = under_row i f has.is w text place here

    old_place : place_for w es ≡ Some (place - 1)
    old_place = ap (λ p. place_or p es) (stands_at i f (has_name w) (spelled w) (calls_by_row i f has.is w text) place here)

    seen : (r : Result (Option Puid) DirFault) → LooksAtSlot g who dir place a b r → Looks g who s (λ what. what ≡ slot_of i place) (IsLookFault s dir) a b r
    seen r went = went s i stands (λ runs. (has.index, here.within))

    pub place_unseen : (fault : DirFault) → LooksAtSlot g who dir place a b (Err fault) → (u : State) × CallsQuietly g who dir (parts_in s.graph dir) a b s u × TellsPlace (g.cylinders a) s u dir t i f w (Err fault)
    place_unseen fault went =
        let looks = seen (Err fault) went in
        let cause = fault_with s dir (due_new w) (IsChangeTrouble (g.cylinders a) 4 None s looks.after dir) fault (read_fault s dir dir fault (λ bars. inl bars) looks.told.2) in (
          looks.after,
          quiet_reads b looks.after looks.calls,
          (
            ap (λ (u : State). u.stopped) looks.told.0,
            stays_told fault s looks.after looks.told.0,
            subst (λ (due : Option DirFault). IsDirFault due (IsReadTrouble s dir) (IsChangeTrouble (g.cylinders a) 4 None s looks.after dir) fault) (due_in s dir t i f (due_new w) has) cause,
          ),
        )

    pub place_exists : (id : Puid) → LooksAtSlot g who dir place a b (Ok (Some id)) → (u : State) × CallsQuietly g who dir (parts_in s.graph dir) a b s u × TellsPlace (g.cylinders a) s u dir t i f w (Err faults.Exists)
    place_exists id went =
        let told = looked g who s (λ what. what ≡ slot_of i place) (IsLookFault s dir) a b (Some id) (seen (Ok (Some id)) went) in
        (s, quiet_reads b s told.0, (refl, refl, ap (λ (id : Option Puid). if is_some id then Some faults.Exists else due_place w es) (under ∙ sym told.2)))

    -- and leads nowhere: its row is emptied
    module _ (went : LooksAtSlot g who dir place a b (Ok None)) (cylinders : g.cylinders b ≡ g.cylinders a) (c : A) where
      told : ReadsOn g who a b s s × (is_running s ≡ true) × (None ≡ slot_of i place)
      told = looked g who s (λ what. what ≡ slot_of i place) (IsLookFault s dir) a b None (seen (Ok None) went)

      empty : id_under w es ≡ None
      empty = under ∙ sym told.2

      abbrev n : File
      n = written f (row_size * place) (spelled [])

      abbrev Zeroed : Unit {0} → Graph → Type 0
      Zeroed u h = h ≡ with_object s.graph t (objects.File n)

      long : row_size * place + row_size ≤ length f.bytes
      long = let size = (special_table (length i.slots) f has.is).1.size in let late = here.within in omega (arith, size, late)

      zeroed : (r : Result (Unit {0}) DirFault) → WritesRow g who t place (spelled []) b c r → Alters g who s t Zeroed (IsAlterFault (g.cylinders b) 4 None s t) b c r
      zeroed r went = went s f told.0.stands runs has.table (special_table (length i.slots) f has.is).0 long refl

      quiet_zeroed : (r : Result (Unit {0}) DirFault) (al : Alters g who s t Zeroed (IsAlterFault (g.cylinders b) 4 None s t) b c r) → CallsQuietly g who dir (parts_in s.graph dir) a c s al.after
      quiet_zeroed r al = calls_then g who Quiet Zeroed (parts_in s.graph dir) (t ∷ []) a b c s s al.after (quiet_reads b s told.0) al.calls
          (λ u h made apart. subst (ChangesNames dir Nothing s.graph) (sym made) (zeros_quiet s.graph dir t i f has w text place here.some here.within here.here empty apart)) (within_table s.graph dir t i f has)

      pub place_unkept : (fault : DirFault) → WritesRow g who t place (spelled []) b c (Err fault) → (u : State) × CallsQuietly g who dir (parts_in s.graph dir) a c s u × TellsPlace (g.cylinders a) s u dir t i f w (Err fault)
      place_unkept fault wrote =
          let al = zeroed (Err fault) wrote in (
            al.after,
            quiet_zeroed (Err fault) al,
            (
              ap (λ (u : State). u.stopped) al.told.0,
              stays_told fault s al.after al.told.0,
              alter_fault (g.cylinders a) 4 4 None None s s al.after t dir (due_new w es) (IsReadTrouble s dir) fault (none_new (place - 1) empty old_place) (omega arith) (λ never. absurd never) (bars_table s dir t i f has s refl)
                  (subst (λ (k : ℕ). IsAlterFault k 4 None s t al.after fault) cylinders al.told.1),
            ),
          )

      pub place_emptied : WritesRow g who t place (spelled []) b c (Ok tt) → (u : State) × CallsQuietly g who dir (parts_in s.graph dir) a c s u × TellsPlace (g.cylinders a) s u dir t i f w (Ok place)
      place_emptied wrote =
          let al = zeroed (Ok tt) wrote in (
            al.after,
            quiet_zeroed (Ok tt) al,
            (
              al.told.0,
              record {
                due = none_new (place - 1) empty old_place;
                now = n;
                has = subst (λ h. HasTable h dir t i n) (sym al.told.1) (has_zeros s.graph dir t i f has w text place here.some here.within here.here);
                is = record {
                  some = here.some;
                  within = here.within;
                  free = written_here f (spelled []) place refl long;
                  none = λ k from to same. other k from to same (cases_eq k place);
                  binds = λ id. ap (λ l. set l (place - 1) (record { name = Some w; id = Some id })) (entries_zeros s.graph dir t i f has w text place here.some here.within here.here)
                      ∙ set-set es (place - 1) (record { name = None; id = slot_of i place }) (record { name = Some w; id = Some id })
                      ∙ sym (ap (λ p. entries_put p (record { name = Some w; id = Some id }) es) old_place);
                };
              },
            ),
          )
        where
          not_blank : spelled [] ≡ spelled w → ⊥
          not_blank same =
              let letters : [] ≡ w = ap letters_in same ∙ letters_spelled w in
              let long_ = (text_parts w text).some in absurd (omega (arith, long_, ap (λ (l : List ℕ). length l) letters))

          other : (k : ℕ) → 1 ≤ k → k < length i.slots → row_at n.bytes k ≡ spelled w → (k ≡ place) ⊎ (k ≢ place) → ⊥
          other k from to same (inl is) = not_blank (sym (written_here f (spelled []) place refl long) ∙ ap (λ (m : ℕ). row_at n.bytes m) (sym is) ∙ same)
          other k from to same (inr off) =
              only_here i f has.is w place here.some here.within (named_at i f has.is w text place here.some here.within here.here) k from to off
              (ap name_in (sym (written_other f (spelled []) place refl long k off) ∙ same) ∙ name_spelled w (text_parts w text).some)
