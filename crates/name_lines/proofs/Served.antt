-- Lines that are served by a walk and a call.
use Rattle.std.proofs.Common.{◌≡◌, inl, inr, ℕ, true, List, [], ◌∷◌, Option, Some, None, refl, sym, ◌∙◌, ap, arith, subst}
use Rattle.std.specs.Prelude.{Err, Ok, Result, option_and_then, is_none, if◌then◌else◌}
use Rattle.std.specs.List.{sum_by}
use Rattle.cfs_base.specs.declared.identifier.Puid.{Puid}
use Rattle.ufs_model.specs.declared.asker.Asker.{Ghosts}
use Rattle.ufs_model.specs.declared.object.Grant.{Grant}
use Rattle.ufs_model.specs.declared.object.Index.{Index}
use Rattle.ufs_model.specs.Graph.{Graph, is_there}
use Rattle.ufs_model.specs.Object.{slot_of}
use Rattle.ufs_model.specs.Room.{blocks_of_grant}
use Rattle.ufs_model.specs.State.{State, is_running}
use Rattle.name_dirs.specs.declared.fault.DirFault.{DirFault}
use Rattle.name_dirs.specs.declared.fault.DirFault.TheVariants as faults
use Rattle.name_dirs.specs.Calls.{Binds, ChangesTop, Lists, LooksUp, MakesIn, MakesNamed, MakesOnTop, MakesTop, NamesNew, ReadsOn, Renames, Unbinds, parts_in}
use Rattle.name_dirs.specs.Chain.{Calls}
use Rattle.name_dirs.specs.Directory.{Entry, entries_in, table_in}
use Rattle.name_dirs.specs.Faults.{IsChangeTrouble, IsTopTrouble, StopsWith, due_name, due_new, due_place, due_top, none_due}
use Rattle.name_dirs.specs.Names.{AreApart, Change, ChangesNames, IfApart, Nothing, OldOrNew, Put, id_under}
use Rattle.name_dirs.proofs.Chains.{calls_on, calls_weaker, chain_last, reads_first}
use Rattle.name_dirs.proofs.Faulted.{none_stopped}
use Rattle.name_dirs.proofs.Looked.{reads_on}
use Rattle.name_dirs.proofs.Moves.{named_same}
use Rattle.name_dirs.proofs.Tables.{slot_here}
use Rattle.name_dirs.proofs.Topped.{root_index}
use Rattle.name_lines.specs.declared.answer.Answer.{Answer}
use Rattle.name_lines.specs.declared.answer.Answer.TheVariants as answers
use Rattle.name_lines.specs.declared.line.Line.{Line}
use Rattle.name_lines.specs.declared.line.Line.TheVariants as lines
use Rattle.name_lines.specs.declared.line.NameAt.{NameAt}
use Rattle.name_lines.specs.Answers.{IsLineAnswer}
use Rattle.name_lines.specs.Paths.{due, due_at, led_from_top}
use Rattle.name_lines.specs.Runs.{IsWithinLine, ServesFrom}
use Rattle.name_lines.specs.Walking.{IsPathTrouble, LeadsToObject, fault_in}
use Rattle.name_lines.proofs.Causes.{fault_led, fault_on, top_path}
use Rattle.name_lines.proofs.Refused.{IsLineTrouble, amid_same, call_fault, change_line, due_now, leaves_same, refused}

-- ---- one line

module _ {A : Type 0} (g : Ghosts A) (who : ℕ) (s : State) (line : Line) where
  pub served : (P : Graph → Type 0) (named : List Puid) (answer : Answer) (a b : A) (t : State) → Calls g who P named a b s t → ((h : Graph) → P h → IsWithinLine (Some line) s.graph h) → (AreApart s.graph → AreApart t.graph)
      → IsLineAnswer (g.cylinders a) (Some line) answer s t → (u : State) × ServesFrom g who (Some line) answer a b s u
  served P named answer a b t calls amid apart told = (
    t,
    record {
      stands = calls.stands;
      chain = (calls_weaker g who P (IsWithinLine (Some line) s.graph) named named a b s t calls amid (λ x there none. none)).chain;
      follows = record {
        told = told;
        grants = calls.grants;
        sweeps = calls.sweeps;
        there = calls.graph.there;
        room = let same = ap (λ (grants : List Grant). sum_by blocks_of_grant grants) calls.grants in let more = calls.graph.blocks in omega (arith, same, more);
        apart = apart;
      };
    },
  )

  -- a call that read alone
  pub read_so : (answer : Answer) (a b : A) (t : State) → ReadsOn g who a b s t → IsWithinLine (Some line) s.graph s.graph → IsLineAnswer (g.cylinders a) (Some line) answer s t → (u : State) × ServesFrom g who (Some line) answer a b s u
  read_so answer a b t reads amid told =
      let same = chain_last g who (λ h. h ≡ s.graph) reads.chain in
      served (λ h. h ≡ s.graph) [] answer a b t reads (λ h is. subst (IsWithinLine (Some line) s.graph) (sym is) amid) (subst AreApart (sym same)) told

  -- a path that leads nowhere
  pub unled : (path : List (List ℕ)) (by : List Entry → Option DirFault) → due s.graph line ≡ due_at s.graph (led_from_top s.graph path) by → (a b : A) (fault : DirFault)
      → (t : State) × ReadsOn g who a b s t × StopsWith {E = Puid} s t (Err fault) × LeadsToObject s t path (Err fault) → (u : State) × ServesFrom g who (Some line) (answers.Refused fault) a b s u
  unled path by due_is a b fault told =
      let t = told.0 in
      read_so (answers.Refused fault) a b t told.1 (amid_same line s.graph)
      (refused (g.cylinders a) line s t fault (leaves_same line s.graph t.graph (chain_last g who (λ h. h ≡ s.graph) told.1.chain)) told.2
      (fault_on (fault_in (led_from_top s.graph path)) (due s.graph line) (IsPathTrouble s) (IsPathTrouble s) (λ reply. ⊥) (IsLineTrouble (g.cylinders a) line s t)
      (λ other is. due_is ∙ ap (λ (r : Result Puid DirFault). due_at s.graph r by) (fault_led (led_from_top s.graph path) other is)) (λ r is. is) (λ r due never. absurd never) fault told.3))

-- ---- after a walk

pub record HasLed {A : Type 0} (g : Ghosts A) (who : ℕ) (s : State) (a b : A) (path : List (List ℕ)) (dir : Puid) : Type 0 where
  pub reads : ReadsOn g who a b s s
  pub leads : led_from_top s.graph path ≡ Ok dir
  pub there : is_there s.graph dir ≡ true
  pub cylinders : g.cylinders b ≡ g.cylinders a

pub has_led : {A : Type 0} (g : Ghosts A) (who : ℕ) (s : State) (a b : A) (path : List (List ℕ)) (dir : Puid) → (t : State) × ReadsOn g who a b s t × StopsWith s t (Ok dir) × LeadsToObject s t path (Ok dir) → g.cylinders b ≡ g.cylinders a → HasLed g who s a b path dir
has_led g who s a b path dir told cylinders = record {
  reads = subst (λ (t : State). ReadsOn g who a b s t) told.3.0 told.1;
  leads = told.3.1;
  there = told.3.2;
  cylinders = cylinders;
}

abbrev pub done_of : Result (Unit {0}) DirFault → Answer
done_of (Ok u) = answers.Done
done_of (Err fault) = answers.Refused fault

abbrev pub id_of : Result Puid DirFault → Answer
id_of (Ok id) = answers.Id id
id_of (Err fault) = answers.Refused fault

abbrev pub names_of : Result (List (List ℕ)) DirFault → Answer
names_of (Ok names) = answers.Names names
names_of (Err fault) = answers.Refused fault

apart_of : (d : Puid) (change : Change) (g h : Graph) → OldOrNew d change g h → AreApart g → AreApart h
apart_of d change g h is apart = elim (is apart) [ inl old ↦ old.apart | inr new ↦ new.apart ]

found_under : (w : List ℕ) (o : Option (List Entry)) (id : Puid) → option_and_then (id_under w) o ≡ Some id → (es : List Entry) × (o ≡ Some es) × (id_under w es ≡ Some id)
found_under w None id is = cc is
found_under w (Some es) id is = (es, refl, is)

module _ {A : Type 0} (g : Ghosts A) (who : ℕ) (s : State) (none : s.grants ≡ []) (a b c : A) (path : List (List ℕ)) (dir : Puid) (o : HasLed g who s a b path dir) where
  after_walk : (P : Graph → Type 0) (named : List Puid) (t : State) → P s.graph → Calls g who P named b c s t → Calls g who P named a c s t
  after_walk P named t holds calls = calls_on g who P P P named named a b c s s t (reads_first g who P named a b s s o.reads holds) calls (λ h is. is) (λ h is. is) (λ x there none. none)

  quiet : (change : Change) → OldOrNew dir change s.graph s.graph
  quiet change apart = inl (named_same dir s.graph s.graph refl apart)

  module _ (w : List ℕ) where
    abbrev place : NameAt
    place = record { above = path; name = w }

    -- ---- look

    abbrev look : Line
    look = lines.Look place

    due_look : due s.graph look ≡ due_at s.graph (led_from_top s.graph path) (due_name w)
    due_look = refl

    pub looked : (r : Result Puid DirFault) → (t : State) × ReadsOn g who b c s t × StopsWith s t r × LooksUp s t dir w r → (u : State) × ServesFrom g who (Some look) (id_of r) a c s u
    looked (Ok id) told =
        let t = told.0 in
        let found = found_under w (entries_in s.graph dir) id told.3.1 in
        let due_is : due s.graph look ≡ None = due_now look s path dir (due_name w) o.leads o.there due_look found.0 found.1 ∙ ap (λ (u : Option Puid). if is_none u then Some faults.NoName else None) found.2 in
        read_so g who s look (answers.Id id) a c t (reads_on g who a b c s t o.reads told.1) refl
        (due_is, (ap (λ (u : State). u.graph) told.3.0, (dir, (found.0, record { leads = o.leads; has = found.1 }, found.2))), none_stopped s told.2.0, none_stopped t told.2.1)
    looked (Err fault) told =
        let t = told.0 in
        let reads = reads_on g who a b c s t o.reads told.1 in
        read_so g who s look (answers.Refused fault) a c t reads refl
        (refused (g.cylinders a) look s t fault (leaves_same look s.graph t.graph (chain_last g who (λ h. h ≡ s.graph) reads.chain)) told.2
        (call_fault look s path dir (due_name w) o.leads o.there due_look (g.cylinders a) t (λ reply. ⊥) none (λ r never. absurd never) fault told.3))

    -- ---- bind

    module _ (id : Puid) where
      abbrev bind : Line
      bind = lines.Bind place id

      abbrev to_id : Change
      to_id = Put dir w (Some id)

      due_bind : due s.graph bind ≡ due_at s.graph (led_from_top s.graph path) (due_place w)
      due_bind = refl

      bind_amid : (h : Graph) → OldOrNew dir to_id s.graph h → IsWithinLine (Some bind) s.graph h
      bind_amid h is apart = elim (is apart) [ inl old ↦ inl old.names | inr new ↦ inr (dir, o.leads, new.names) ]

      bind_so : (r : Result (Unit {0}) DirFault) (t : State) → Renames g who dir w (Some id) b c s t → IsLineAnswer (g.cylinders a) (Some bind) (done_of r) s t → (u : State) × ServesFrom g who (Some bind) (done_of r) a c s u
      bind_so r t renames told =
          let calls = after_walk (OldOrNew dir to_id s.graph) (parts_in s.graph dir) t (quiet to_id) renames in
          served g who s bind (OldOrNew dir to_id s.graph) (parts_in s.graph dir) (done_of r) a c t calls bind_amid (apart_of dir to_id s.graph t.graph (chain_last g who (OldOrNew dir to_id s.graph) calls.chain)) told

      pub bound_so : (r : Result (Unit {0}) DirFault) → (t : State) × Renames g who dir w (Some id) b c s t × StopsWith s t r × Binds (g.cylinders b) s t dir w id r → (u : State) × ServesFrom g who (Some bind) (done_of r) a c s u
      bound_so (Ok u) told =
          let t = told.0 in
          let is = told.3 in
          let at = is.2 in
          bind_so (Ok u) t told.1
          (due_now bind s path dir (due_place w) o.leads o.there due_bind at.0 at.1 ∙ at.2, (is.1, (dir, (at.0, record { leads = o.leads; has = at.1 }, record { now = at.3; names = is.0 }))), none_stopped s told.2.0, none_stopped t told.2.1)
      bound_so (Err fault) told =
          let t = told.0 in
          let is = subst (λ (n : ℕ). Binds n s t dir w id (Err fault)) o.cylinders told.3 in
          bind_so (Err fault) t told.1
          (refused (g.cylinders a) bind s t fault (λ apart. (is.0 apart).names) told.2
          (call_fault bind s path dir (due_place w) o.leads o.there due_bind (g.cylinders a) t (IsChangeTrouble (g.cylinders a) 4 (Some id) s t dir) none (change_line (g.cylinders a) 4 (Some id) bind s t dir none (λ missing. missing) refl) fault is.1))

    -- ---- unbind

    abbrev unbind : Line
    unbind = lines.Unbind place

    abbrev out : Change
    out = Put dir w None

    due_unbind : due s.graph unbind ≡ due_at s.graph (led_from_top s.graph path) (due_name w)
    due_unbind = refl

    unbind_amid : (h : Graph) → OldOrNew dir out s.graph h → IsWithinLine (Some unbind) s.graph h
    unbind_amid h is apart = elim (is apart) [ inl old ↦ inl old.names | inr new ↦ inr (dir, o.leads, new.names) ]

    unbind_so : (r : Result (Unit {0}) DirFault) (t : State) → Renames g who dir w None b c s t → IsLineAnswer (g.cylinders a) (Some unbind) (done_of r) s t → (u : State) × ServesFrom g who (Some unbind) (done_of r) a c s u
    unbind_so r t renames told =
        let calls = after_walk (OldOrNew dir out s.graph) (parts_in s.graph dir) t (quiet out) renames in
        served g who s unbind (OldOrNew dir out s.graph) (parts_in s.graph dir) (done_of r) a c t calls unbind_amid (apart_of dir out s.graph t.graph (chain_last g who (OldOrNew dir out s.graph) calls.chain)) told

    pub unbound_so : (r : Result (Unit {0}) DirFault) → (t : State) × Renames g who dir w None b c s t × StopsWith s t r × Unbinds (g.cylinders b) s t dir w r → (u : State) × ServesFrom g who (Some unbind) (done_of r) a c s u
    unbound_so (Ok u) told =
        let t = told.0 in
        let is = told.3 in
        let at = is.1 in
        unbind_so (Ok u) t told.1
        (due_now unbind s path dir (due_name w) o.leads o.there due_unbind at.0 at.1 ∙ at.2, (dir, (at.0, record { leads = o.leads; has = at.1 }, record { now = at.3; names = is.0 })), none_stopped s told.2.0, none_stopped t told.2.1)
    unbound_so (Err fault) told =
        let t = told.0 in
        let is = subst (λ (n : ℕ). Unbinds n s t dir w (Err fault)) o.cylinders told.3 in
        unbind_so (Err fault) t told.1
        (refused (g.cylinders a) unbind s t fault (elim is.0 [ inl old ↦ inl (λ apart. (old apart).names) | inr takes ↦ inr (dir, o.leads, takes) ]) told.2
        (call_fault unbind s path dir (due_name w) o.leads o.there due_unbind (g.cylinders a) t (IsChangeTrouble (g.cylinders a) 4 None s t dir) none (change_line (g.cylinders a) 4 None unbind s t dir none (λ never. absurd never) refl) fault is.1))

    -- ---- mkdir

    module _ (capacity : ℕ) where
      abbrev make : Line
      make = lines.MakeDir place capacity

      due_make : due s.graph make ≡ due_at s.graph (led_from_top s.graph path) (due_new w)
      due_make = refl

      make_amid : (h : Graph) → NamesNew dir w s.graph h → IsWithinLine (Some make) s.graph h
      make_amid h is apart = elim (is apart) [ inl old ↦ inl old.names | inr new ↦ inr (dir, o.leads, (new.0, new.1, new.2.names)) ]

      make_apart : (h : Graph) → NamesNew dir w s.graph h → AreApart s.graph → AreApart h
      make_apart h is apart = elim (is apart) [ inl old ↦ old.apart | inr new ↦ new.2.apart ]

      make_so : (r : Result Puid DirFault) (t : State) → MakesIn g who dir w b c s t → IsLineAnswer (g.cylinders a) (Some make) (id_of r) s t → (u : State) × ServesFrom g who (Some make) (id_of r) a c s u
      make_so r t makes told =
          let calls = after_walk (NamesNew dir w s.graph) (parts_in s.graph dir) t (λ apart. inl (named_same dir s.graph s.graph refl apart)) makes in
          served g who s make (NamesNew dir w s.graph) (parts_in s.graph dir) (id_of r) a c t calls make_amid (make_apart t.graph (chain_last g who (NamesNew dir w s.graph) calls.chain)) told

      pub made_so : (r : Result Puid DirFault) → (t : State) × MakesIn g who dir w b c s t × StopsWith s t r × MakesNamed (g.cylinders b) s t dir w capacity r → (u : State) × ServesFrom g who (Some make) (id_of r) a c s u
      made_so (Ok id) told =
          let t = told.0 in
          let is = told.3 in
          let at = is.2 in
          make_so (Ok id) t told.1
          (due_now make s path dir (due_new w) o.leads o.there due_make at.0 at.1 ∙ at.2, (is.1, (dir, (at.0, record { leads = o.leads; has = at.1 }, record { now = at.3; names = is.0 }))), none_stopped s told.2.0, none_stopped t told.2.1)
      made_so (Err fault) told =
          let t = told.0 in
          let is = subst (λ (n : ℕ). MakesNamed n s t dir w capacity (Err fault)) o.cylinders told.3 in
          make_so (Err fault) t told.1
          (refused (g.cylinders a) make s t fault (λ apart. (is.0 apart).names) told.2
          (call_fault make s path dir (due_new w) o.leads o.there due_make (g.cylinders a) t (IsChangeTrouble (g.cylinders a) 5 None s t dir) none (change_line (g.cylinders a) 5 None make s t dir none (λ never. absurd never) refl) fault is.1))

  -- ---- list

  abbrev list : Line
  list = lines.ListDir path

  due_list : due s.graph list ≡ due_at s.graph (led_from_top s.graph path) none_due
  due_list = refl

  pub listed : (r : Result (List (List ℕ)) DirFault) → (t : State) × ReadsOn g who b c s t × StopsWith s t r × Lists s t dir r → (u : State) × ServesFrom g who (Some list) (names_of r) a c s u
  listed (Ok names) told =
      let t = told.0 in
      let at = told.3.1 in
      read_so g who s list (answers.Names names) a c t (reads_on g who a b c s t o.reads told.1) refl
      (due_now list s path dir none_due o.leads o.there due_list at.0 at.1, (ap (λ (u : State). u.graph) told.3.0, (dir, (at.0, record { leads = o.leads; has = at.1 }, at.2))), none_stopped s told.2.0, none_stopped t told.2.1)
  listed (Err fault) told =
      let t = told.0 in
      let reads = reads_on g who a b c s t o.reads told.1 in
      read_so g who s list (answers.Refused fault) a c t reads refl
      (refused (g.cylinders a) list s t fault (leaves_same list s.graph t.graph (chain_last g who (λ h. h ≡ s.graph) reads.chain)) told.2
      (call_fault list s path dir none_due o.leads o.there due_list (g.cylinders a) t (λ reply. ⊥) none (λ r never. absurd never) fault told.3))

-- ---- in slot 0 of the root index

module _ {A : Type 0} (g : Ghosts A) (who : ℕ) (s : State) (none : s.grants ≡ []) (a b : A) (stands : g.stands a s) (capacity : ℕ) where
  abbrev top : Line
  top = lines.MakeTop capacity

  abbrev Quiet : Graph → Type 0
  Quiet h = IfApart s.graph (ChangesNames s.graph.root Nothing s.graph h)

  top_so : (r : Result Puid DirFault) (t : State) → MakesOnTop g who a b s t → IsLineAnswer (g.cylinders a) (Some top) (id_of r) s t → (u : State) × ServesFrom g who (Some top) (id_of r) a b s u
  top_so r t makes told = served g who s top Quiet (s.graph.root ∷ []) (id_of r) a b t makes (λ h is apart. inl (is apart).names) (λ apart. (chain_last g who Quiet makes.chain apart).apart) told

  top_holds : (id : Puid) (t : State) → is_running s ≡ true → ChangesTop id s.graph t.graph → table_in t.graph s.graph.root ≡ Some id
  top_holds id t runs changes =
      let top_index = root_index g who s a stands s.graph.root (g.formed a s stands runs).1 runs in
      ap (λ (i : Option Index). option_and_then (λ (i : Index). slot_of i 0) i) (changes top_index.0 top_index.1) ∙ slot_here top_index.0 0 (Some id) top_index.2

  pub topped : (r : Result Puid DirFault) → (t : State) × MakesOnTop g who a b s t × StopsWith s t r × MakesTop (g.cylinders a) s t capacity r → (u : State) × ServesFrom g who (Some top) (id_of r) a b s u
  topped (Ok id) told =
      let t = told.0 in
      let is = told.3 in
      top_so (Ok id) t told.1
      (ap due_top is.0, (is.2, is.1, top_holds id t told.2.0 is.1, chain_last g who Quiet told.1.chain), none_stopped s told.2.0, none_stopped t told.2.1)
  topped (Err fault) told =
      let t = told.0 in
      top_so (Err fault) t told.1
      (refused (g.cylinders a) top s t fault (λ apart. (chain_last g who Quiet told.1.chain apart).names) told.2
      (fault_on (due s.graph top) (due s.graph top) (IsTopTrouble s) (IsPathTrouble s) (IsChangeTrouble (g.cylinders a) 5 None s t s.graph.root) (IsLineTrouble (g.cylinders a) top s t) (λ other is. is) (top_path s none)
      (λ r due change. (due, change_line (g.cylinders a) 5 None top s t s.graph.root none (λ never. absurd never) refl r change)) fault told.3))
