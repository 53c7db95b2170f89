-- What slot 0 of the root index holds, and whether that is a directory.
use Rattle.std.proofs.Common.{◌≡◌, ◌≢◌, inl, inr, ℕ, ◌<◌, Bool, true, false, Option, Some, None, List, length, refl, sym, ◌∙◌, ap, subst, arith}
use Rattle.std.specs.Option.{ok_or}
use Rattle.std.specs.Prelude.{Err, Ok, Result, is_none, is_some, option_and_then, if◌then◌else◌}
use Rattle.cfs_base.specs.declared.identifier.Puid.{Puid}
use Rattle.ufs_model.specs.declared.asked.Reply.TheVariants as replies
use Rattle.ufs_model.specs.declared.asker.Asker.{Ghosts}
use Rattle.ufs_model.specs.declared.object.Index.{Index}
use Rattle.ufs_model.specs.Graph.{is_there, object_at}
use Rattle.ufs_model.specs.Object.{new_index, slot_of}
use Rattle.ufs_model.specs.Refusal.{is_open_for_writing}
use Rattle.ufs_model.specs.State.{State, is_running}
use Rattle.ufs_model.proofs.WellGraphs.{closed_graph}
use Rattle.name_dirs.specs.declared.fault.DirFault.{DirFault}
use Rattle.name_dirs.specs.declared.fault.DirFault.TheVariants as faults
use Rattle.name_dirs.specs.declared.table.Table.{Table}
use Rattle.name_dirs.specs.Calls.{FindsTop, ReadsOn}
use Rattle.name_dirs.specs.Directory.{Entry, entries_in, index_at, index_in, table_in}
use Rattle.name_dirs.specs.Faults.{IsDirFault, IsStartTrouble, StopsWith, TellsHalt, due_start, due_with, none_due}
use Rattle.name_dirs.specs.Making.{IsTopFault, has_top, if_other}
use Rattle.name_dirs.specs.Opening.{IsTableOf, Opens}
use Rattle.name_dirs.specs.Reading.{IsLookFault, IsReadFault, Looks, LooksAtSlot}
use Rattle.name_dirs.proofs.Heard.{runs_on}
use Rattle.name_dirs.proofs.Looked.{looked, looks_ok, looks_own, looks_stop, reads_on}
use Rattle.name_dirs.proofs.Moves.{has_entries}
use Rattle.name_dirs.proofs.Named.{held_there}

-- ---- what is due of an object that may be a directory

none_only : (there : Bool) (es : Option (List Entry)) (fault : DirFault) → (if there then due_with es none_due else None) ≡ Some fault → (fault ≡ faults.NotDirectory) × (es ≡ None)
none_only false es fault is = cc is
none_only true None fault is = (cc is, refl)
none_only true (Some es) fault is = cc is

-- ---- what is told, as the contract says it

abbrev pub IsStart : State → Puid → Type 0
IsStart s id = table_in s.graph s.graph.root ≡ Some id

abbrev pub IsStartFault : State → DirFault → Type 0
IsStartFault s fault = IsDirFault (due_start (table_in s.graph s.graph.root)) (IsStartTrouble s) (λ reply. ⊥) fault

found_top : {A : Type 0} (g : Ghosts A) (who : ℕ) (s : State) (a b : A) (r : Result Puid DirFault) → Looks g who s (IsStart s) (IsStartFault s) a b r → (t : State) × ReadsOn g who a b s t × StopsWith s t r × FindsTop s t r
found_top g who s a b (Ok id) looks = (looks.after, looks.calls, looks_stop g who s (IsStart s) (IsStartFault s) a b (Ok id) looks, (looks.told.0, looks.told.2))
found_top g who s a b (Err fault) looks = (looks.after, looks.calls, looks_stop g who s (IsStart s) (IsStartFault s) a b (Err fault) looks, looks.told.2)

-- ---- a fault of the root index

top_fault : (s : State) (fault : DirFault) → IsLookFault s s.graph.root fault → IsTopFault s fault
top_fault s (faults.Asked replies.Locked) is = inl is
top_fault s (faults.Asked (replies.Disk doubt)) is = tt
top_fault s (faults.Asked (replies.Stopped moment)) is = is
top_fault s faults.Memory is = tt
top_fault s fault is = absurd is

start_fault : (s : State) (fault : DirFault) → IsLookFault s s.graph.root fault → IsStartFault s fault
start_fault s (faults.Asked replies.Locked) is = inl is
start_fault s (faults.Asked (replies.Disk doubt)) is = inl tt
start_fault s (faults.Asked (replies.Stopped moment)) is = inl is
start_fault s faults.Memory is = tt
start_fault s fault is = absurd is

-- ---- slot 0

module _ {A : Type 0} (g : Ghosts A) (who : ℕ) (s : State) (a : A) (stands : g.stands a s) (root : Puid) (is_top : root ≡ g.top a) where
  -- the root index, of one that runs
  pub at_root : is_running s ≡ true → root ≡ s.graph.root
  at_root runs = is_top ∙ sym (g.formed a s stands runs).1

  pub root_index : is_running s ≡ true → (i : Index) × (index_at s.graph root ≡ Some i) × (0 < length i.slots)
  root_index runs =
      let i = (closed_graph s.graph (g.formed a s stands runs).0.graph).root in
      (i.0, ap index_in (ap (object_at s.graph) (at_root runs) ∙ i.1), omega (arith, i.2))

  top_index : (i : Index) × (is_running s ≡ true → (index_at s.graph root ≡ Some i) × (0 < length i.slots))
  top_index = by (is_running s) refl
    where
      by : (b : Bool) → is_running s ≡ b → (i : Index) × (is_running s ≡ true → (index_at s.graph root ≡ Some i) × (0 < length i.slots))
      by true runs = let i = root_index runs in (i.0, λ again. (i.1, i.2))
      by false stopped = (new_index 1, λ runs. let both : true ≡ false = sym runs ∙ stopped in cc both)

  abbrev Tells : A → Result Bool DirFault → Type 0
  Tells c r = Looks g who s (λ b. b ≡ has_top s.graph) (IsTopFault s) a c r

  module _ (b : A) where
    first_looks : (r : Result (Option Puid) DirFault) → LooksAtSlot g who root 0 a b r → Looks g who s (λ what. what ≡ slot_of top_index.0 0) (IsLookFault s root) a b r
    first_looks r went = went s top_index.0 stands top_index.1

    of_root : (fault : DirFault) → TellsHalt s fault → IsLookFault s root fault → IsLookFault s s.graph.root fault
    of_root (faults.Asked replies.Locked) stop is = by s.stopped refl
      where
        by : (o : Option ℕ) → s.stopped ≡ o → is_open_for_writing s s.graph.root ≡ true
        by None at = ap (is_open_for_writing s) (sym (at_root (ap is_none at))) ∙ is
        by (Some moment) at = absurd (stop moment at)
    of_root (faults.Asked (replies.Disk doubt)) stop is = tt
    of_root (faults.Asked (replies.Stopped moment)) stop is = is
    of_root faults.Memory stop is = tt
    of_root fault stop is = absurd is

    unseen : {E : Type 0} (Is : E → Type 0) (Cause : DirFault → Type 0) (fault : DirFault) → (IsLookFault s s.graph.root fault → Cause fault) → LooksAtSlot g who root 0 a b (Err fault) → Looks g who s Is Cause a b (Err fault)
    unseen Is Cause fault less went = let looks = first_looks (Err fault) went in record { after = looks.after; calls = looks.calls; told = (looks.told.0, looks.told.1, less (of_root fault looks.told.1 looks.told.2)) }

    pub top_unseen : (fault : DirFault) → LooksAtSlot g who root 0 a b (Err fault) → Looks g who s (λ b. b ≡ has_top s.graph) (IsTopFault s) a b (Err fault)
    top_unseen fault = unseen (λ b. b ≡ has_top s.graph) (IsTopFault s) fault (top_fault s fault)

    pub start_unseen : (fault : DirFault) → LooksAtSlot g who root 0 a b (Err fault) → (t : State) × ReadsOn g who a b s t × StopsWith {E = Puid} s t (Err fault) × FindsTop s t (Err fault)
    start_unseen fault went = found_top g who s a b (Err fault) (unseen (IsStart s) (IsStartFault s) fault (start_fault s fault) went)

    -- what the slot holds
    module _ (what : Option Puid) (went : LooksAtSlot g who root 0 a b (Ok what)) where
      told : ReadsOn g who a b s s × (is_running s ≡ true) × (what ≡ slot_of top_index.0 0)
      told = looked g who s (λ what. what ≡ slot_of top_index.0 0) (IsLookFault s root) a b what (first_looks (Ok what) went)

      first_is : table_in s.graph s.graph.root ≡ what
      first_is = ap (table_in s.graph) (sym (at_root told.1)) ∙ ap (option_and_then (λ i. slot_of i 0)) (top_index.1 told.1).0 ∙ sym told.2

      top_is : has_top s.graph ≡ is_some (option_and_then (entries_in s.graph) what)
      top_is = ap (λ o. is_some (option_and_then (entries_in s.graph) o)) first_is

      pub top_empty : what ≡ None → Looks g who s (λ b. b ≡ has_top s.graph) (IsTopFault s) a b (Ok false)
      top_empty none = looks_ok g who s (λ b. b ≡ has_top s.graph) (IsTopFault s) a b false told.0 told.1 (sym (top_is ∙ ap (λ o. is_some (option_and_then (entries_in s.graph) o)) none))

      module _ (top : Puid) (some : what ≡ Some top) (c : A) where
        entries_are : has_top s.graph ≡ is_some (entries_in s.graph top)
        entries_are = top_is ∙ ap (λ o. is_some (option_and_then (entries_in s.graph) o)) some

        there : is_there s.graph top ≡ true
        there = held_there s.graph root top_index.0 0 top (g.formed a s stands told.1).0.graph (top_index.1 told.1).0 (sym told.2 ∙ some)

        pub top_opened : (table : Table) → Opens g who top b c (Ok table) → Looks g who s (λ b. b ≡ has_top s.graph) (IsTopFault s) a c (Ok true)
        top_opened table opened =
            let read = looked g who s (IsTableOf s.graph top) (IsReadFault s top) b c table (opened s told.0.stands) in
            looks_ok g who s (λ b. b ≡ has_top s.graph) (IsTopFault s) a c true (reads_on g who a b c s s told.0 read.0) told.1
            (sym (entries_are ∙ ap is_some (has_entries s.graph top table.file read.2.index read.2.file read.2.has)))

        top_none : Opens g who top b c (Err faults.NotDirectory) → Looks g who s (λ b. b ≡ has_top s.graph) (IsTopFault s) a c (Ok false)
        top_none opened =
            let looks = opened s told.0.stands in
            let reads = subst (λ (t : State). ReadsOn g who b c s t) looks.told.0 looks.calls in
            let none = (none_only (is_there s.graph top) (entries_in s.graph top) faults.NotDirectory looks.told.2).1 in
            looks_ok g who s (λ b. b ≡ has_top s.graph) (IsTopFault s) a c false (reads_on g who a b c s s told.0 reads) told.1 (sym (entries_are ∙ ap is_some none))

        of_top : (fault : DirFault) → fault ≢ faults.NotDirectory → IsReadFault s top fault → IsTopFault s fault
        of_top faults.NotDirectory other is = absurd (other refl)
        of_top faults.NoName other is = let none = none_only (is_there s.graph top) (entries_in s.graph top) faults.NoName is in cc (none.0)
        of_top faults.Exists other is = let none = none_only (is_there s.graph top) (entries_in s.graph top) faults.Exists is in cc (none.0)
        of_top (faults.DirFull n) other is = let none = none_only (is_there s.graph top) (entries_in s.graph top) (faults.DirFull n) is in cc (none.0)
        of_top (faults.Asked replies.NoObject) other (inl is) = let both : true ≡ false = sym there ∙ is in cc both
        of_top (faults.Asked replies.Locked) other (inl is) = inr (top, first_is ∙ some, is)
        of_top (faults.Asked (replies.Disk doubt)) other (inl is) = tt
        of_top (faults.Asked (replies.Stopped moment)) other (inl is) = is
        of_top (faults.Asked r) other (inl is) = absurd is
        of_top (faults.Asked r) other (inr is) = absurd is.1
        of_top faults.Memory other is = tt

        top_unread : (fault : DirFault) → fault ≢ faults.NotDirectory → Opens g who top b c (Err fault) → Looks g who s (λ b. b ≡ has_top s.graph) (IsTopFault s) a c (Err fault)
        top_unread fault other opened =
            let looks = opened s told.0.stands in
            record { after = looks.after; calls = reads_on g who a b c s looks.after told.0 looks.calls; told = (looks.told.0, looks.told.1, of_top fault other looks.told.2) }

        pub top_faulted : (fault : DirFault) → Opens g who top b c (Err fault) → Looks g who s (λ b. b ≡ has_top s.graph) (IsTopFault s) a c (if_other fault)
        top_faulted faults.NotDirectory opened = top_none opened
        top_faulted faults.NoName opened = top_unread faults.NoName (λ same. cc same) opened
        top_faulted faults.Exists opened = top_unread faults.Exists (λ same. cc same) opened
        top_faulted (faults.DirFull n) opened = top_unread (faults.DirFull n) (λ same. cc same) opened
        top_faulted (faults.Asked r) opened = top_unread (faults.Asked r) (λ same. cc same) opened
        top_faulted faults.Memory opened = top_unread faults.Memory (λ same. cc same) opened

    -- where the paths begin
    pub start_found : (what : Option Puid) → LooksAtSlot g who root 0 a b (Ok what) → (t : State) × ReadsOn g who a b s t × StopsWith s t (ok_or what faults.NotDirectory) × FindsTop s t (ok_or what faults.NotDirectory)
    start_found None went =
        let read = told None went in
        found_top g who s a b (Err faults.NotDirectory) (looks_own g who s (IsStart s) (IsStartFault s) a b faults.NotDirectory read.0 refl (runs_on s faults.NotDirectory read.1) (ap due_start (first_is None went)))
    start_found (Some id) went =
        let read = told (Some id) went in
        found_top g who s a b (Ok id) (looks_ok g who s (IsStart s) (IsStartFault s) a b id read.0 read.1 (first_is (Some id) went))
