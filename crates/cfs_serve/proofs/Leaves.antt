-- A session leaves a core: one that stops in it does so at no damage.
use Rattle.std.proofs.Common.{◌≡◌, ℕ, Option, Some, None, IsSome, [], ◌∷◌, false, refl, ap, sym, ◌∙◌, subst, is_some}
use Rattle.cfs_serve.proofs.Cited.{Ghosts, Kernel, Rose, ServesIs, Stands, StandsFor, State, Stop, append-nil, option_to_list, option_and_then}
use Rattle.ufs_model.specs.declared.asked.Event.TheVariants as events
use Rattle.cfs_base.specs.declared.refusal.Damage.{Damage}
use Rattle.cfs_core.specs.Leaving.{StopsSo}
use Rattle.cfs_serve.specs.Ending.{IsStopTimed, MakesStop, moment_of_stop}

pub undamaged : {D : Type 0} (g : Ghosts D) (old new : Kernel D) (s : State) → StandsFor g old s → (stop : Stop) → old.stop ≡ None → new.stop ≡ Some stop
    → ((t : State) → ServesIs g old t → old.stop ≡ None → (x : Stop) → new.stop ≡ Some x → x.damage ≡ None) → is_some (option_and_then (λ (x : Stop). x.damage) new.stop) ≡ false
undamaged g old new s stands stop none is sound = rw is (ap is_some (sound s (subst (Stands g old s) none stands) none stop is))

-- and where a device call failed
pub raised : {D : Type 0} (g : Ghosts D) (old new : Kernel D) (s : State) → StandsFor g old s → (stop : Stop) → old.stop ≡ None → new.stop ≡ Some stop → StopsSo g old new stop
    → ((t : State) → ServesIs g old t → old.stop ≡ None → (x : Stop) → new.stop ≡ Some x → x.damage ≡ None) → Rose (g.faults old.disk) (g.faults new.disk)
raised g old new s stands stop none is so sound = (so.failed (sound s (subst (Stands g old s) none stands) none stop is)).0.cause

-- why the core stopped
module _ {D : Type 0} (g : Ghosts D) (old new : Kernel D) (who : ℕ) where
  pub stops_calm : new.stop ≡ old.stop → (IsSome old.stop → new.disk ≡ old.disk) → MakesStop (λ (k : Kernel D). g.moment k.disk) (λ (k : Kernel D). k.stop) old new (events.Leave who None ∷ [])
  stops_calm same idle = record { among = ap option_to_list same ∙ sym (append-nil (option_to_list old.stop)); after = (tt, tt); timed = at old.stop refl }
    where
      at : (o : Option Stop) → old.stop ≡ o → IsStopTimed old.stop (g.moment old.disk) → IsStopTimed new.stop (g.moment new.disk)
      at None is was = rw (same, is) tt
      at (Some stop) is was = rw (same, idle (rw is refl)) was

  pub stops_halted : (moment : ℕ) (stop : Stop) → old.stop ≡ None → new.stop ≡ Some stop → stop.moment ≡ moment → StopsSo g old new stop
      → MakesStop (λ (k : Kernel D). g.moment k.disk) (λ (k : Kernel D). k.stop) old new (events.Leave who (Some moment) ∷ [])
  stops_halted moment stop none is at so = record {
    among = rw (none, is) (ap (λ m. record { moment = m; damage = stop.damage } ∷ []) at);
    after = (tt, tt);
    timed = λ was. rw is (by stop.damage refl);
  }
    where
      by : (o : Option Damage) → stop.damage ≡ o → stop.moment ≡ moment_of_stop stop.damage (g.moment new.disk)
      by None none = rw none (so.failed none).1
      by (Some damage) some = rw some (so.damaged damage some).1
