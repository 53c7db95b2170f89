-- Calls that read, one after the other.
use Rattle.std.proofs.Common.{◌≡◌, ℕ, true, false, [], Option, Some, None, refl, sym, ◌∙◌, ap, subst}
use Rattle.std.specs.Prelude.{Err, Ok, Result, is_none}
use Rattle.ufs_model.specs.declared.asked.Reply.TheVariants as replies
use Rattle.ufs_model.specs.declared.asker.Asker.{Ghosts}
use Rattle.ufs_model.specs.State.{State, is_running}
use Rattle.name_dirs.specs.declared.fault.DirFault.{DirFault}
use Rattle.name_dirs.specs.declared.fault.DirFault.TheVariants as faults
use Rattle.name_dirs.specs.Calls.{ReadsOn}
use Rattle.name_dirs.specs.Chain.{Start}
use Rattle.name_dirs.specs.Faults.{StaysAfter, StopsWith, TellsHalt, TellsStopAt, after_fault}
use Rattle.name_dirs.specs.Reading.{Looks}
use Rattle.name_dirs.proofs.Chains.{calls_on, keeps_same}

module _ {A : Type 0} (g : Ghosts A) (who : ℕ) where
  pub reads_itself : (a : A) (s : State) → g.stands a s → ReadsOn g who a a s s
  reads_itself a s stands = record { stands = stands; chain = Start refl; graph = keeps_same [] s.graph s.graph refl; grants = refl; sweeps = refl }

  pub reads_on : (a b c : A) (s t : State) → ReadsOn g who a b s s → ReadsOn g who b c s t → ReadsOn g who a c s t
  reads_on a b c s t first second = calls_on g who (λ h. h ≡ s.graph) (λ h. h ≡ s.graph) (λ h. h ≡ s.graph) [] [] a b c s s t first second (λ h is. is) (λ h is. is) (λ x there none. refl)

  module _ {E : Type 0} (s : State) (Is : E → Type 0) (Cause : DirFault → Type 0) where
    -- what was told so, with the state as it was
    pub looked : (a b : A) (x : E) → Looks g who s Is Cause a b (Ok x) → ReadsOn g who a b s s × (is_running s ≡ true) × Is x
    looked a b x looks = (subst (λ (t : State). ReadsOn g who a b s t) looks.told.0 looks.calls, looks.told.1, looks.told.2)

    pub looks_on : (a b c : A) (r : Result E DirFault) → ReadsOn g who a b s s → Looks g who s Is Cause b c r → Looks g who s Is Cause a c r
    looks_on a b c r first second = record { after = second.after; calls = reads_on a b c s second.after first second.calls; told = second.told }

    pub looks_ok : (a b : A) (x : E) → ReadsOn g who a b s s → is_running s ≡ true → Is x → Looks g who s Is Cause a b (Ok x)
    looks_ok a b x reads runs is = record { after = s; calls = reads; told = (refl, runs, is) }

    -- a fault that isn't of the last request
    pub looks_own : (a b : A) (fault : DirFault) → ReadsOn g who a b s s → after_fault fault s ≡ s → TellsHalt s fault → Cause fault → Looks g who s Is Cause a b (Err fault)
    looks_own a b fault reads same stop cause = record { after = s; calls = reads; told = (sym same, stop, cause) }

    -- a fault of the last request is handed on
    pub looks_err : {F : Type 0} (IsNow : F → Type 0) (CauseNow : DirFault → Type 0) (a b : A) (fault : DirFault) → Looks g who s Is Cause a b (Err fault) → (Cause fault → CauseNow fault) → Looks g who s IsNow CauseNow a b (Err fault)
    looks_err IsNow CauseNow a b fault looks less = record { after = looks.after; calls = looks.calls; told = (looks.told.0, looks.told.1, less looks.told.2) }

-- ---- a stop

-- one that had stopped tells that, and so its state stays
still : (s t : State) (fault : DirFault) → t ≡ after_fault fault s → (moment : ℕ) → TellsStopAt moment fault → t ≡ s
still s t faults.NotDirectory is moment told = absurd told
still s t faults.NoName is moment told = absurd told
still s t faults.Exists is moment told = absurd told
still s t (faults.DirFull capacity) is moment told = absurd told
still s t (faults.Asked (replies.Stopped m)) is moment told = is
still s t (faults.Asked (replies.Disk doubt)) is moment told = absurd told
still s t (faults.Asked r) is moment told = absurd told
still s t faults.Memory is moment told = is

-- one by the names leaves it too
pub stays_told : (fault : DirFault) (s t : State) → t ≡ after_fault fault s → StaysAfter fault s t
stays_told (faults.Asked r) s t is = tt
stays_told faults.Memory s t is = tt
stays_told fault s t is = is

pub stops_with : (E : Type 0) (s t : State) (fault : DirFault) → t ≡ after_fault fault s → TellsHalt s fault → StopsWith {E = E} s t (Err fault)
stops_with E s t fault is stop = (ap (λ (u : State). u.stopped) is, stop, (λ stopped. by s.stopped refl stopped), stays_told fault s t is)
  where
    by : (o : Option ℕ) → s.stopped ≡ o → is_running s ≡ false → t ≡ s
    by None at stopped = let runs : is_running s ≡ true = ap is_none at in let both : true ≡ false = sym runs ∙ stopped in cc both
    by (Some moment) at stopped = still s t fault is moment (stop moment at)

-- what is told of a call that reads
pub looks_stop : {A E : Type 0} (g : Ghosts A) (who : ℕ) (s : State) (Is : E → Type 0) (Cause : DirFault → Type 0) (a b : A) (r : Result E DirFault) (looks : Looks g who s Is Cause a b r) → StopsWith s looks.after r
looks_stop g who s Is Cause a b (Ok x) looks = (looks.told.1, subst (λ (t : State). is_running t ≡ true) (sym looks.told.0) looks.told.1)
looks_stop {E = E} g who s Is Cause a b (Err fault) looks = stops_with E s looks.after fault looks.told.0 looks.told.1
