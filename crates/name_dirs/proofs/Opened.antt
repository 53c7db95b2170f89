-- A directory that is read, request by request.
use Rattle.std.proofs.Common.{◌≡◌, ◌≢◌, inl, inr, ℕ, zero, suc, ◌*◌, ◌≤◌, Bool, true, false, Option, Some, None, List, length, refl, sym, ◌∙◌, ap, arith, ◌&&◌, ◌==◌, not}
use Rattle.std.specs.Prelude.{Err, Ok, Result, option_and_then}
use Rattle.std.specs.Option.{option_map}
use Rattle.std.proofs.lemmas.Bool.{and_from}
use Rattle.cfs_base.specs.declared.identifier.Puid.{Puid}
use Rattle.cfs_base.specs.declared.kind.FileKind.{FileKind}
use Rattle.cfs_base.specs.declared.kind.FileKind.TheVariants as file_kinds
use Rattle.cfs_base.specs.declared.kind.Kind.{Kind}
use Rattle.cfs_base.specs.declared.kind.Kind.TheVariants as kinds
use Rattle.ufs_model.specs.declared.asked.Reply.TheVariants as replies
use Rattle.ufs_model.specs.declared.asker.Asker.{Ghosts}
use Rattle.ufs_model.specs.declared.object.File.{File}
use Rattle.ufs_model.specs.declared.object.Index.{Index}
use Rattle.ufs_model.specs.declared.object.Object.{Object}
use Rattle.ufs_model.specs.declared.object.Object.TheVariants as objects
use Rattle.ufs_model.specs.Graph.{Graph, object_at}
use Rattle.ufs_model.specs.Kinds.{file_kind, kind_at, object_kind}
use Rattle.ufs_model.specs.Object.{slot_of}
use Rattle.ufs_model.specs.Refusal.{is_open_for_writing}
use Rattle.ufs_model.specs.State.{State, is_running}
use Rattle.ufs_model.proofs.WellGraphs.{object_whole}
use Rattle.name_dirs.specs.declared.fault.DirFault.{DirFault}
use Rattle.name_dirs.specs.declared.fault.DirFault.TheVariants as faults
use Rattle.name_dirs.specs.declared.table.Table.{Table}
use Rattle.name_dirs.specs.Calls.{ReadsOn}
use Rattle.name_dirs.specs.Directory.{Entry, are_rows, entries_in, entries_with, file_at, file_in, index_at, is_special, is_table, table_in}
use Rattle.name_dirs.specs.Faults.{IsBarred, due_with, none_due}
use Rattle.name_dirs.specs.Opening.{IsTableOf, ReadsWhole}
use Rattle.name_dirs.specs.Reading.{IsLookFault, IsReadFault, Looks, LooksAtFile, LooksAtIndex, LooksAtSlot}
use Rattle.name_dirs.proofs.Heard.{file_is, index_is, runs_on}
use Rattle.name_dirs.proofs.Looked.{looked, looks_err, looks_ok, looks_on, looks_own, reads_itself, reads_on}
use Rattle.name_dirs.proofs.Named.{by_first, by_index, index_there}
use Rattle.name_dirs.proofs.Rows.{unless}
use Rattle.name_dirs.proofs.Tables.{special_table}

-- ---- faults

-- of the directory, or of its table
pub read_fault : (s : State) (x dir : Puid) (fault : DirFault) → (is_open_for_writing s x ≡ true → IsBarred is_open_for_writing s dir) → IsLookFault s x fault → IsReadFault s dir fault
read_fault s x dir faults.NotDirectory bars is = absurd is
read_fault s x dir faults.NoName bars is = absurd is
read_fault s x dir faults.Exists bars is = absurd is
read_fault s x dir (faults.DirFull capacity) bars is = absurd is
read_fault s x dir (faults.Asked replies.Locked) bars is = inl (bars is)
read_fault s x dir (faults.Asked (replies.Disk doubt)) bars is = inl tt
read_fault s x dir (faults.Asked (replies.Stopped moment)) bars is = inl is
read_fault s x dir (faults.Asked r) bars is = absurd is
read_fault s x dir faults.Memory bars is = tt

-- an index that is no directory
none_there : (s : State) (dir : Puid) (i : Index) → index_at s.graph dir ≡ Some i → entries_in s.graph dir ≡ None → IsReadFault s dir faults.NotDirectory
none_there s dir i at none = rw (index_there s.graph dir i at) (ap (λ (o : Option (List Entry)). due_with o none_due) none)

-- ---- what makes none of it

no_first : (g : Graph) (dir : Puid) (i : Index) → index_at g dir ≡ Some i → slot_of i 0 ≡ None → entries_in g dir ≡ None
no_first g dir i at first = by_index g dir i at ∙ by_first g i None first

no_table : (g : Graph) (dir t : Puid) (i : Index) (o : Option File) → index_at g dir ≡ Some i → slot_of i 0 ≡ Some t → file_at g t ≡ o → ((f : File) → o ≡ Some f → is_table (length i.slots) f ≡ false) → entries_in g dir ≡ None
no_table g dir t i o at first file off = by_index g dir i at ∙ by_first g i (Some t) first ∙ ap (option_and_then (entries_with i)) file ∙ by o off
  where
    by : (o : Option File) → ((f : File) → o ≡ Some f → is_table (length i.slots) f ≡ false) → option_and_then (entries_with i) o ≡ None
    by None off = refl
    by (Some f) off = rw (off f refl) refl

-- ---- kinds

-- of a special file
kind_of : (g : Graph) (t : Puid) (f : File) → file_at g t ≡ Some f → is_special f.kind ≡ true → kind_at g t ≡ Some kinds.Special
kind_of g t f at special = ap (option_map object_kind) (file_is (object_at g t) f at) ∙ ap Some (of f.kind special)
  where
    of : (k : FileKind) → is_special k ≡ true → file_kind k ≡ kinds.Special
    of file_kinds.Normal is = cc is
    of file_kinds.Special is = refl

file_of : (g : Graph) (t : Puid) → kind_at g t ≡ Some kinds.Special → (f : File) × (file_at g t ≡ Some f) × (is_special f.kind ≡ true)
file_of g t is = by (object_at g t) refl is
  where
    of : (k : FileKind) → Some (file_kind k) ≡ Some kinds.Special → is_special k ≡ true
    of file_kinds.Normal is = cc is
    of file_kinds.Special is = refl

    by : (o : Option Object) → object_at g t ≡ o → option_map object_kind o ≡ Some kinds.Special → (f : File) × (file_at g t ≡ Some f) × (is_special f.kind ≡ true)
    by None at is = cc is
    by (Some (objects.Index i)) at is = cc is
    by (Some (objects.File f)) at is = (f, ap file_in at, of f.kind is)

-- ---- requests one after the other

at_least : (slots : ℕ) (b c d e : Bool) → (not (slots == 0) && b && c && d && e) ≡ true → 1 ≤ slots
at_least zero b c d e is = cc is
at_least (suc n) b c d e is = omega arith

module _ {A : Type 0} (g : Ghosts A) (who : ℕ) (dir : Puid) (s : State) (a : A) (stands : g.stands a s) where
  abbrev Tells : A → Result Table DirFault → Type 0
  Tells b r = Looks g who s (IsTableOf s.graph dir) (IsReadFault s dir) a b r

  -- it is an index with so many slots
  pub record HasIndex (b : A) (n : ℕ) : Type 0 where
    pub reads : ReadsOn g who a b s s
    pub runs : is_running s ≡ true
    pub index : Index
    pub at : index_at s.graph dir ≡ Some index
    pub slots : n ≡ length index.slots
    pub some : 1 ≤ length index.slots

  -- and this is in its slot 0
  pub record HasFirst (b : A) (n : ℕ) (t : Puid) : Type 0 where
    pub reads : ReadsOn g who a b s s
    pub runs : is_running s ≡ true
    pub index : Index
    pub at : index_at s.graph dir ≡ Some index
    pub slots : n ≡ length index.slots
    pub first : slot_of index 0 ≡ Some t

  -- a special file
  pub record HasFile (b : A) (n : ℕ) (t : Puid) : Type 0 where
    pub has : HasFirst b n t
    pub file : File
    pub there : file_at s.graph t ≡ Some file
    pub special : is_special file.kind ≡ true

  pub has_index : (b : A) (n : ℕ) → LooksAtIndex g who dir a b (Ok n) → HasIndex b n
  has_index b n went =
      let told = looked g who s _ (IsReadFault s dir) a b n (went s stands) in
      let at = told.2.1 in
      record {
        reads = told.0;
        runs = told.1;
        index = told.2.0;
        at = at;
        slots = told.2.2;
        some = at_least (length told.2.0.slots) _ _ _ _ (object_whole s.graph (g.formed a s stands told.1).0.graph dir (objects.Index told.2.0) (index_is (object_at s.graph dir) told.2.0 at));
      }

  module _ (b : A) (n : ℕ) (has : HasIndex b n) (c : A) where
    looks_first : (r : Result (Option Puid) DirFault) → LooksAtSlot g who dir 0 b c r → Looks g who s (λ what. what ≡ slot_of has.index 0) (IsLookFault s dir) b c r
    looks_first r went = went s has.index has.reads.stands (λ runs. (has.at, has.some))

    pub first_fault : (fault : DirFault) → LooksAtSlot g who dir 0 b c (Err fault) → Tells c (Err fault)
    first_fault fault went = looks_on g who s (IsTableOf s.graph dir) (IsReadFault s dir) a b c (Err fault) has.reads
        (looks_err g who s _ (IsLookFault s dir) (IsTableOf s.graph dir) (IsReadFault s dir) b c fault (looks_first (Err fault) went) (read_fault s dir dir fault (λ bars. inl bars)))

    pub first_none : LooksAtSlot g who dir 0 b c (Ok None) → Tells c (Err faults.NotDirectory)
    first_none went =
        let told = looked g who s _ (IsLookFault s dir) b c None (looks_first (Ok None) went) in
        looks_own g who s _ (IsReadFault s dir) a c faults.NotDirectory (reads_on g who a b c s s has.reads told.0) refl (runs_on s faults.NotDirectory has.runs)
        (none_there s dir has.index has.at (no_first s.graph dir has.index has.at (sym told.2)))

    pub has_first : (t : Puid) → LooksAtSlot g who dir 0 b c (Ok (Some t)) → HasFirst c n t
    has_first t went =
        let told = looked g who s _ (IsLookFault s dir) b c (Some t) (looks_first (Ok (Some t)) went) in
        record { reads = reads_on g who a b c s s has.reads told.0; runs = has.runs; index = has.index; at = has.at; slots = has.slots; first = sym told.2 }

  module _ (b : A) (n : ℕ) (t : Puid) (has : HasFirst b n t) where
    -- any call that tells that it is no directory
    not_one : (c : A) → ReadsOn g who b c s s → entries_in s.graph dir ≡ None → Tells c (Err faults.NotDirectory)
    not_one c reads none = looks_own g who s _ (IsReadFault s dir) a c faults.NotDirectory (reads_on g who a b c s s has.reads reads) refl (runs_on s faults.NotDirectory has.runs) (none_there s dir has.index has.at none)

    pub other_kind : (k : Option Kind) → k ≡ kind_at s.graph t → k ≢ Some kinds.Special → Tells b (Err faults.NotDirectory)
    other_kind k is other = not_one b (reads_itself g who b s has.reads.stands) (no_table s.graph dir t has.index (file_at s.graph t) has.at has.first refl (λ f file. off f file (is_table (length has.index.slots) f) refl))
      where
        off : (f : File) → file_at s.graph t ≡ Some f → (b : Bool) → is_table (length has.index.slots) f ≡ b → b ≡ false
        off f file true so = absurd (other (is ∙ kind_of s.graph t f file (special_table (length has.index.slots) f so).0))
        off f file false so = refl

    pub has_file : kind_at s.graph t ≡ Some kinds.Special → HasFile b n t
    has_file is = let f = file_of s.graph t is in record { has = has; file = f.0; there = f.1; special = f.2 }

  module _ (b : A) (n : ℕ) (t : Puid) (has : HasFile b n t) (c : A) where
    table_is : table_in s.graph dir ≡ Some t
    table_is = rw has.has.at has.has.first

    by_table : is_table (length has.has.index.slots) has.file ≡ false → entries_in s.graph dir ≡ None
    by_table off = no_table s.graph dir t has.has.index (Some has.file) has.has.at has.has.first has.there (λ f same. let is : has.file ≡ f = cc same in ap (is_table (length has.has.index.slots)) (sym is) ∙ off)

    lifted : {E : Type 0} (Is : E → Type 0) (d : A) (fault : DirFault) → ReadsOn g who b c s s → Looks g who s Is (IsLookFault s t) c d (Err fault) → Tells d (Err fault)
    lifted Is d fault reads looks = looks_on g who s (IsTableOf s.graph dir) (IsReadFault s dir) a c d (Err fault) (reads_on g who a b c s s has.has.reads reads)
        (looks_err g who s Is (IsLookFault s t) (IsTableOf s.graph dir) (IsReadFault s dir) c d fault looks (read_fault s t dir fault (λ bars. inr (t, table_is, bars))))

    pub size_fault : (fault : DirFault) → LooksAtFile g who t b c (Err fault) → Tells c (Err fault)
    size_fault fault went = looks_on g who s (IsTableOf s.graph dir) (IsReadFault s dir) a b c (Err fault) has.has.reads
        (looks_err g who s _ (IsLookFault s t) (IsTableOf s.graph dir) (IsReadFault s dir) b c fault (went s has.file has.has.reads.stands has.there) (read_fault s t dir fault (λ bars. inr (t, table_is, bars))))

    module _ (size : ℕ) (went : LooksAtFile g who t b c (Ok size)) where
      sized : ReadsOn g who b c s s × (is_running s ≡ true) × (size ≡ length has.file.bytes)
      sized = looked g who s _ (IsLookFault s t) b c size (went s has.file has.has.reads.stands has.there)

      pub other_size : size ≢ 64 * n → Tells c (Err faults.NotDirectory)
      other_size other = not_one b n t has.has c sized.0 (by_table (unless (is_table (length has.has.index.slots) has.file) (λ is.
          let long = (special_table (length has.has.index.slots) has.file is).1.size in other (sized.2 ∙ long ∙ ap (λ (m : ℕ). 64 * m) (sym has.has.slots)))))

      module _ (d : A) where
        pub bytes_fault : (fault : DirFault) → ReadsWhole g who t size c d (Err fault) → Tells d (Err fault)
        bytes_fault fault went_on = lifted _ d fault sized.0 (went_on s has.file sized.0.stands has.has.runs has.there sized.2)

        module _ (bytes : List ℕ) (went_on : ReadsWhole g who t size c d (Ok bytes)) where
          told : ReadsOn g who c d s s × (is_running s ≡ true) × (bytes ≡ has.file.bytes)
          told = looked g who s _ (IsLookFault s t) c d bytes (went_on s has.file sized.0.stands has.has.runs has.there sized.2)

          reads : ReadsOn g who b d s s
          reads = reads_on g who b c d s s sized.0 told.0

          pub starved : Tells d (Err faults.Memory)
          starved = looks_own g who s _ (IsReadFault s dir) a d faults.Memory (reads_on g who a b d s s has.has.reads reads) refl (runs_on s faults.Memory has.has.runs) tt

          same_rows : are_rows bytes n ≡ are_rows has.file.bytes (length has.has.index.slots)
          same_rows = ap (λ l. are_rows l n) told.2 ∙ ap (are_rows has.file.bytes) has.has.slots

          pub other_rows : are_rows bytes n ≡ false → Tells d (Err faults.NotDirectory)
          other_rows off = not_one b n t has.has d reads (by_table (ap (λ r. is_special has.file.kind && r) (sym same_rows ∙ off) ∙ ap (λ r. r && false) has.special))

          pub opens : are_rows bytes n ≡ true → (table : Table) → table.file ≡ t → table.slots ≡ n → table.bytes ≡ bytes → Tells d (Ok table)
          opens is table file slots same = looks_ok g who s (IsTableOf s.graph dir) (IsReadFault s dir) a d table (reads_on g who a b d s s has.has.reads reads) has.has.runs (record {
            index = has.has.index;
            file = has.file;
            has = record {
              index = has.has.at;
              first = has.has.first ∙ ap Some (sym file);
              table = ap (file_at s.graph) file ∙ has.there;
              is = and_from (is_special has.file.kind) _ has.special (sym same_rows ∙ is);
            };
            slots = slots ∙ has.has.slots;
            bytes = same ∙ told.2;
          })
