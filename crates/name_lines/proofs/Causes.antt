-- Causes of faults in a state without grants.
use Rattle.std.proofs.Common.{◌≡◌, inl, inr, Bool, true, false, List, [], Option, Some, None, sym, ◌∙◌, ap}
use Rattle.std.specs.Prelude.{Ok, Err, Result, not, ◌&&◌}
use Rattle.std.specs.List.{list_any}
use Rattle.cfs_base.specs.declared.identifier.Puid.{Puid}
use Rattle.ufs_model.specs.declared.asked.Reply.{Reply}
use Rattle.ufs_model.specs.declared.asked.Reply.TheVariants as replies
use Rattle.ufs_model.specs.declared.object.Grant.{Grant}
use Rattle.ufs_model.specs.Graph.{is_there}
use Rattle.ufs_model.specs.Identifier.{same_puid}
use Rattle.ufs_model.specs.Refusal.{is_open, is_open_for_writing, is_reading}
use Rattle.ufs_model.specs.State.{State}
use Rattle.name_dirs.specs.declared.fault.DirFault.{DirFault}
use Rattle.name_dirs.specs.declared.fault.DirFault.TheVariants as faults
use Rattle.name_dirs.specs.Faults.{IsBarred, IsDirFault, IsReadTrouble, IsStartTrouble, IsTopTrouble}
use Rattle.name_lines.specs.Walking.{IsPathTrouble, fault_in}

-- ---- grants

pub never_open : (s : State) → s.grants ≡ [] → (x : Puid) → is_open s x ≡ true → ⊥
never_open s none x bars =
    let off : is_open s x ≡ false = ap (λ (grants : List Grant). list_any (λ (grant : Grant). same_puid x grant.id) grants) none in
    let both : true ≡ false = sym bars ∙ off in cc both

pub never_written : (s : State) → s.grants ≡ [] → (x : Puid) → is_open_for_writing s x ≡ true → ⊥
never_written s none x bars =
    let off : is_open_for_writing s x ≡ false = ap (λ (grants : List Grant). list_any (λ (grant : Grant). same_puid x grant.id && not (is_reading grant.mode)) grants) none in
    let both : true ≡ false = sym bars ∙ off in cc both

pub never_barred : (bars : State → Puid → Bool) (s : State) (dir : Puid) → ((x : Puid) → bars s x ≡ true → ⊥) → IsBarred bars s dir → ⊥
never_barred bars s dir never (inl is) = never dir is
never_barred bars s dir never (inr is) = never is.0 is.2

-- ---- requests

module _ (s : State) (none : s.grants ≡ []) where
  pub read_path : (dir : Puid) → is_there s.graph dir ≡ true → (r : Reply) → IsReadTrouble s dir r → IsPathTrouble s r
  read_path dir there replies.NoObject is = let both : true ≡ false = sym there ∙ is in cc both
  read_path dir there replies.Locked is = absurd (never_barred is_open_for_writing s dir (never_written s none) is)
  read_path dir there (replies.Disk doubt) is = tt
  read_path dir there (replies.Stopped moment) is = is
  read_path dir there r is = absurd is

  pub start_path : (r : Reply) → IsStartTrouble s r → IsPathTrouble s r
  start_path replies.Locked is = absurd (never_written s none s.graph.root is)
  start_path (replies.Disk doubt) is = tt
  start_path (replies.Stopped moment) is = is
  start_path r is = absurd is

  pub top_path : (r : Reply) → IsTopTrouble s r → IsPathTrouble s r
  top_path replies.Locked (inl is) = absurd (never_written s none s.graph.root is)
  top_path replies.Locked (inr is) = absurd (never_barred is_open_for_writing s is.0 (never_written s none) is.2)
  top_path (replies.Disk doubt) is = tt
  top_path (replies.Stopped moment) is = is
  top_path r is = absurd is

-- ---- faults

pub fault_on : (due due_now : Option DirFault) (Reads ReadsNow Changes ChangesNow : Reply → Type 0) → ((fault : DirFault) → due ≡ Some fault → due_now ≡ Some fault) → ((r : Reply) → Reads r → ReadsNow r)
    → ((r : Reply) → due ≡ None → Changes r → (due_now ≡ None) × ChangesNow r) → (fault : DirFault) → IsDirFault due Reads Changes fault → IsDirFault due_now ReadsNow ChangesNow fault
fault_on due due_now Reads ReadsNow Changes ChangesNow names reads changes faults.NotDirectory is = names faults.NotDirectory is
fault_on due due_now Reads ReadsNow Changes ChangesNow names reads changes faults.NoName is = names faults.NoName is
fault_on due due_now Reads ReadsNow Changes ChangesNow names reads changes faults.Exists is = names faults.Exists is
fault_on due due_now Reads ReadsNow Changes ChangesNow names reads changes (faults.DirFull n) is = names (faults.DirFull n) is
fault_on due due_now Reads ReadsNow Changes ChangesNow names reads changes (faults.Asked r) (inl is) = inl (reads r is)
fault_on due due_now Reads ReadsNow Changes ChangesNow names reads changes (faults.Asked r) (inr is) = inr (changes r is.0 is.1)
fault_on due due_now Reads ReadsNow Changes ChangesNow names reads changes faults.Memory is = tt

pub fault_led : (r : Result Puid DirFault) (fault : DirFault) → fault_in r ≡ Some fault → r ≡ Err fault
fault_led (Ok dir) fault is = cc is
fault_led (Err other) fault is = cc is
