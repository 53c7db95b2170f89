-- How a call that changes a directory begins, and what it may change.
use Rattle.std.proofs.Common.{◌≡◌, inl, inr, ℕ, Bool, true, false, ◌||◌, Option, Some, List, [], ◌∷◌, refl, sym, ◌∙◌, ap}
use Rattle.std.specs.Prelude.{Err, option_to_list}
use Rattle.cfs_base.specs.declared.identifier.Puid.{Puid}
use Rattle.ufs_model.specs.declared.asker.Asker.{Ghosts}
use Rattle.ufs_model.specs.declared.object.File.{File}
use Rattle.ufs_model.specs.declared.object.Index.{Index}
use Rattle.ufs_model.specs.Graph.{Graph, is_there}
use Rattle.ufs_model.specs.Identifier.{is_among, same_puid}
use Rattle.ufs_model.specs.Refusal.{is_open}
use Rattle.ufs_model.specs.State.{State}
use Rattle.name_dirs.specs.declared.fault.DirFault.{DirFault}
use Rattle.name_dirs.specs.Calls.{ReadsOn, parts_in}
use Rattle.name_dirs.specs.Chain.{Calls}
use Rattle.name_dirs.specs.Directory.{table_in}
use Rattle.name_dirs.specs.Faults.{IsBarred, StopsWith, after_fault}
use Rattle.name_dirs.specs.Names.{Change, ChangesNames, IfApart, Nothing, OldOrNew}
use Rattle.name_dirs.specs.Opening.{Opens}
use Rattle.name_dirs.specs.Reading.{HasTable, IsReadFault}
use Rattle.name_dirs.proofs.Chains.{reads_first}
use Rattle.name_dirs.proofs.Faulted.{fault_graph, same_open}
use Rattle.name_dirs.proofs.Looked.{stops_with}
use Rattle.name_dirs.proofs.Moves.{has_table_in, named_same}

-- ---- a call that couldn't read the directory

pub record IsUnread (E : Type 0) {A : Type 0} (g : Ghosts A) (who : ℕ) (P : Graph → Type 0) (named : List Puid) (dir : Puid) (a b : A) (s : State) (fault : DirFault) : Type 0 where
  pub after : State
  pub calls : Calls g who P named a b s after
  pub stops : StopsWith {E = E} s after (Err fault)
  pub graph : after.graph ≡ s.graph
  pub cause : IsReadFault s dir fault

pub unread : (E : Type 0) {A : Type 0} (g : Ghosts A) (who : ℕ) (P : Graph → Type 0) (named : List Puid) (dir : Puid) (a b : A) (s : State) (fault : DirFault) → P s.graph → g.stands a s → Opens g who dir a b (Err fault) → IsUnread E g who P named dir a b s fault
unread E g who P named dir a b s fault holds stands went =
    let looks = went s stands in
    record {
      after = looks.after;
      calls = reads_first g who P named a b s looks.after looks.calls holds;
      stops = stops_with E s looks.after fault looks.told.0 looks.told.1;
      graph = ap (λ (t : State). t.graph) looks.told.0 ∙ fault_graph fault s;
      cause = looks.told.2;
    }

-- ---- the parts of a directory

front_off : (a b : Bool) → (a || b) ≡ false → (a || false) ≡ false
front_off true b is = cc is
front_off false b is = refl

pub in_dir : (g : Graph) (dir x : Puid) → is_among x (parts_in g dir) ≡ false → is_among x (dir ∷ []) ≡ false
in_dir g dir x none = front_off (same_puid x dir) (is_among x (option_to_list (table_in g dir))) none

pub in_table : (g : Graph) (dir t x : Puid) → table_in g dir ≡ Some t → is_among x (parts_in g dir) ≡ false → is_among x (t ∷ []) ≡ false
in_table g dir t x first none = back_off (same_puid x dir) (is_among x (t ∷ [])) (sym (ap (λ (o : Option Puid). is_among x (dir ∷ option_to_list o)) first) ∙ none)
  where
    back_off : (a b : Bool) → (a || b) ≡ false → b ≡ false
    back_off true b is = cc is
    back_off false b is = is

-- one change and then none
pub named_then : (d : Puid) (change : Change) (g m h : Graph) → ((x : Puid) → is_there g x ≡ true → is_there m x ≡ true) → ChangesNames d change g m → ChangesNames d Nothing m h → ChangesNames d change g h
named_then d change g m h there first then_ = record {
  apart = then_.apart;
  names = record {
    names = λ x w text. then_.names.names x w text ∙ first.names.names x w text;
    stay = λ x is. then_.names.stay x (first.names.stay x is);
  };
  others = λ x is other. then_.others x (there x is) other ∙ first.others x is other;
}

-- ---- what it may change

pub within_dir : (g : Graph) (dir x : Puid) → is_there g x ≡ true → is_among x (parts_in g dir) ≡ false → is_among x (dir ∷ []) ≡ false
within_dir g dir x there none = in_dir g dir x none

pub within_table : (g : Graph) (dir t : Puid) (i : Index) (f : File) → HasTable g dir t i f → (x : Puid) → is_there g x ≡ true → is_among x (parts_in g dir) ≡ false → is_among x (t ∷ []) ≡ false
within_table g dir t i f has x there none = in_table g dir t x (has_table_in g dir t i f has) none

-- a grant on the table bars the directory
pub bars_table : (s : State) (dir t : Puid) (i : Index) (f : File) → HasTable s.graph dir t i f → (m : State) → m.grants ≡ s.grants → is_open m t ≡ true → IsBarred is_open s dir
bars_table s dir t i f has m grants open_ = inr (t, has_table_in s.graph dir t i f has, same_open s m t grants open_)

-- ---- before the first change

pub begun : {A : Type 0} (g : Ghosts A) (who : ℕ) (dir : Puid) (s : State) (a b : A) → ReadsOn g who a b s s → (change : Change) → Calls g who (OldOrNew dir change s.graph) (parts_in s.graph dir) a b s s
begun g who dir s a b reads change = reads_first g who (OldOrNew dir change s.graph) (parts_in s.graph dir) a b s s reads (λ apart. inl (named_same dir s.graph s.graph refl apart))

pub stays : (s : State) (dir : Puid) (m : State) → m.graph ≡ s.graph → IfApart s.graph (ChangesNames dir Nothing s.graph m.graph)
stays s dir m same apart = named_same dir s.graph m.graph same apart

pub same_graph : (s m : State) (fault : DirFault) → m ≡ after_fault fault s → m.graph ≡ s.graph
same_graph s m fault is = ap (λ (u : State). u.graph) is ∙ fault_graph fault s
