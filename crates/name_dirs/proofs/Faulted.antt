-- Faults of a call that come of one of its requests.
use Rattle.std.proofs.Common.{◌≡◌, inr, ℕ, ◌≤◌, true, false, Option, Some, None, List, refl, sym, ◌∙◌, ap, arith}
use Rattle.std.specs.Prelude.{Err, is_none}
use Rattle.std.specs.List.{list_any}
use Rattle.cfs_base.specs.declared.identifier.Puid.{Puid}
use Rattle.ufs_model.specs.declared.asked.Reply.{Reply}
use Rattle.ufs_model.specs.declared.asked.Reply.TheVariants as replies
use Rattle.ufs_model.specs.declared.object.Grant.{Grant}
use Rattle.ufs_model.specs.Identifier.{same_puid}
use Rattle.ufs_model.specs.Refusal.{is_open}
use Rattle.ufs_model.specs.State.{State, is_running}
use Rattle.name_dirs.specs.declared.fault.DirFault.{DirFault}
use Rattle.name_dirs.specs.declared.fault.DirFault.TheVariants as faults
use Rattle.name_dirs.specs.Changing.{IsAlterFault}
use Rattle.name_dirs.specs.Faults.{IsBarred, IsChangeTrouble, IsDirFault, IsMissing, StaysAfter, StopsWith, after_fault}
use Rattle.name_dirs.proofs.Heard.{runs_on}

-- ---- a stop

pub none_stopped : (s : State) → is_running s ≡ true → s.stopped ≡ None
none_stopped s runs = by s.stopped runs
  where
    by : (o : Option ℕ) → is_none o ≡ true → o ≡ None
    by None is = refl
    by (Some moment) is = cc is

pub fault_graph : (fault : DirFault) (s : State) → (after_fault fault s).graph ≡ s.graph
fault_graph (faults.Asked (replies.Disk (Some moment))) s = refl
fault_graph fault s = refl

fault_stop : (fault : DirFault) (s t : State) → s.stopped ≡ t.stopped → (after_fault fault s).stopped ≡ (after_fault fault t).stopped
fault_stop (faults.Asked (replies.Disk (Some moment))) s t same = refl
fault_stop fault s t same = same

-- of two that run
pub stop_since : (fault : DirFault) (s m t : State) → is_running s ≡ true → is_running m ≡ true → t ≡ after_fault fault m → t.stopped ≡ (after_fault fault s).stopped
stop_since fault s m t runs still is = ap (λ (u : State). u.stopped) is ∙ fault_stop fault m s (none_stopped m still ∙ sym (none_stopped s runs))

pub stop_of : (fault : DirFault) (s m : State) → is_running s ≡ true → is_running m ≡ true → (after_fault fault m).stopped ≡ (after_fault fault s).stopped
stop_of fault s m runs still = fault_stop fault m s (none_stopped m still ∙ sym (none_stopped s runs))

pub stops_running : (E : Type 0) (s t : State) (fault : DirFault) → is_running s ≡ true → t.stopped ≡ (after_fault fault s).stopped → StaysAfter fault s t → StopsWith {E = E} s t (Err fault)
stops_running E s t fault runs is stay = (is, runs_on s fault runs, (λ off. let both : true ≡ false = sym runs ∙ off in cc both), stay)

-- a change that is refused is none by the names
pub stays_altered : (cylinders most : ℕ) (also : Option Puid) (m : State) (x : Puid) (u : State) (fault : DirFault) → IsAlterFault cylinders most also m x u fault → (s t : State) → StaysAfter fault s t
stays_altered cylinders most also m x u (faults.Asked r) is s t = tt
stays_altered cylinders most also m x u faults.Memory is s t = tt
stays_altered cylinders most also m x u fault is s t = absurd is

-- ---- causes

-- what is open stays so, and nothing else comes
pub same_open : (s m : State) (x : Puid) → m.grants ≡ s.grants → is_open m x ≡ true → is_open s x ≡ true
same_open s m x same open_ = sym (ap (λ (grants : List Grant). list_any (λ grant. same_puid x grant.id) grants) same) ∙ open_

-- a request's fault, where none is due by the names
pub alter_fault : (cylinders most limit : ℕ) (also missing : Option Puid) (s m t : State) (x dir : Puid) (due : Option DirFault) (Reads : Reply → Type 0) (fault : DirFault) → due ≡ None → most ≤ limit → (IsMissing m also → IsMissing s missing) → (is_open m x ≡ true → IsBarred is_open s dir)
    → IsAlterFault cylinders most also m x t fault → IsDirFault due Reads (IsChangeTrouble cylinders limit missing s t dir) fault
alter_fault cylinders most limit also missing s m t x dir due Reads faults.Memory none less absent bars is = tt
alter_fault cylinders most limit also missing s m t x dir due Reads (faults.Asked replies.NoObject) none less absent bars is = inr (none, absent is)
alter_fault cylinders most limit also missing s m t x dir due Reads (faults.Asked replies.Locked) none less absent bars is = inr (none, bars is)
alter_fault cylinders most limit also missing s m t x dir due Reads (faults.Asked (replies.Full n)) none less absent bars is = inr (none, record { few = is.few; within = let fits = is.within in omega (arith, fits, less); room = is.room })
alter_fault cylinders most limit also missing s m t x dir due Reads (faults.Asked (replies.Disk doubt)) none less absent bars is = inr (none, tt)
alter_fault cylinders most limit also missing s m t x dir due Reads fault none less absent bars is = absurd is
