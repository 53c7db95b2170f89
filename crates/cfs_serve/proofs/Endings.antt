-- How a service ended, and what spoiled it.
use Rattle.std.proofs.Common.{◌≡◌, inl, inr, ℕ, ◌≤◌, Bool, true, false, List, Option, Some, None, is_some, refl, sym, ap, ◌∙◌, subst, arith, ◌||◌}
use Rattle.cfs_serve.specs.Ending.{AreStoppedReplies, cause_by}
use Rattle.cfs_serve.proofs.Cited.{Cause, CollectFault, Damage, Ending, EndsService, Event, IsStopTold, Rose, Stop, StopsAmong, TellsStop, Told, cause_of, count_after, damage_in, faults_after, first_fault, has_failed, has_fallen, is_calm, is_failure, is_fault, is_none, is_quiet_fault, is_short, is_want_of_memory, list_all, list_any, moment_in, spoiled_by, tells_disk, wants_memory}
use Rattle.cfs_core.specs.declared.collecting.CollectFault.TheVariants as faults
use Rattle.cfs_serve.specs.declared.report.Cause.TheVariants as causes
use Rattle.cfs_serve.proofs.Logs.{or_false, or_true}
use Rattle.cfs_serve.proofs.Raising.{counted_least, counted_some}

-- ---- what a cause shows

abbrev pub Shown : (failed broken wanting : Bool) → Cause → Type 0
Shown failed broken wanting causes.Nothing = (failed ≡ false) × (broken ≡ false) × (wanting ≡ false)
Shown failed broken wanting (causes.Disk moment) = failed ≡ true
Shown failed broken wanting (causes.Volume fault) = Unit {0}
Shown failed broken wanting causes.Sink = broken ≡ true
Shown failed broken wanting causes.Memory = broken ≡ false
Shown failed broken wanting cause = ⊥

by_all : (failed : Bool) (stopped : Option ℕ) (damage : Option Damage) (broken wanting : Bool) → Shown failed broken wanting (spoiled_by failed stopped damage broken wanting)
by_all true stopped damage broken wanting = refl
by_all false stopped (Some d) broken wanting = tt
by_all false stopped None true wanting = refl
by_all false stopped None false true = refl
by_all false stopped None false false = (refl, refl, refl)

-- by whether a failed call was told, and want of memory
pub shown_by : (ending : Ending) (told broken wants : Bool) → Shown (told || has_fallen ending) broken (wants || is_short ending) (cause_by ending told broken wants)
shown_by ending told broken wants = by_all (told || has_fallen ending) (moment_in ending.stop) (damage_in ending.stop) broken (wants || is_short ending)

pub shown : (ending : Ending) (trail : List Event) (broken : Bool)
    → Shown (has_failed ending trail) broken (list_any wants_memory trail || is_short ending) (cause_of ending trail broken)
shown ending trail broken = shown_by ending (list_any tells_disk trail) broken (list_any wants_memory trail)

-- ---- where the core runs

runs_if : (stop : Option Stop) → damage_in stop ≡ None → is_failure stop ≡ false → stop ≡ None
runs_if None none isnt = refl
runs_if (Some s) none isnt = absurd (cc (rw none at isnt))

-- a core that met no damage, and stopped at no failed call, runs
pub runs_by : (ending : Ending) (told : Bool) → damage_in ending.stop ≡ None → (told || has_fallen ending) ≡ false → ending.stop ≡ None
runs_by ending told none well = runs_if ending.stop none (or_false (is_fault ending.refused) (is_failure ending.stop) (or_false told (has_fallen ending) well).1).1

pub runs_well : (ending : Ending) (trail : List Event) → damage_in ending.stop ≡ None → has_failed ending trail ≡ false → ending.stop ≡ None
runs_well ending trail none well = runs_by ending (list_any tells_disk trail) none well

undamaged_by : (stopped : Option ℕ) (damage : Option Damage) (broken wanting : Bool) → spoiled_by false stopped damage broken wanting ≡ causes.Nothing → damage ≡ None
undamaged_by stopped None broken wanting well = refl
undamaged_by stopped (Some d) broken wanting well = absurd (cc well)

never_refused : (refused : Option CollectFault) → is_fault refused ≡ false → is_want_of_memory refused ≡ false → TellsStop refused None → refused ≡ None
never_refused None fault want tells = refl
never_refused (Some faults.Memory) fault want tells = absurd (cc want)
never_refused (Some (faults.Disk doubt)) fault want tells = absurd (cc fault)
never_refused (Some (faults.Damaged damage moment)) fault want tells = absurd (cc tells)
never_refused (Some (faults.Stopped moment)) fault want tells = absurd (cc want)

-- all went well: the core runs, the collector was done at no refusal, and neither a failed call nor want of memory was told
pub record Well (ending : Ending) (told wants : Bool) : Type 0 where
  pub runs : ending.stop ≡ None
  pub refused : ending.refused ≡ None
  pub disk : told ≡ false
  pub memory : wants ≡ false

pub well_by : (ending : Ending) (told broken wants : Bool) → TellsStop ending.refused ending.stop → cause_by ending told broken wants ≡ causes.Nothing → Well ending told wants
well_by ending told broken wants tells well =
    let all = subst (Shown (told || has_fallen ending) broken (wants || is_short ending)) well (shown_by ending told broken wants) in
    let calm = or_false told (has_fallen ending) all.0 in
    let fallen = or_false (is_fault ending.refused) (is_failure ending.stop) calm.1 in
    let sated = or_false wants (is_short ending) all.2 in
    let damage : damage_in ending.stop ≡ None = undamaged_by (moment_in ending.stop) (damage_in ending.stop) broken (wants || is_short ending)
    (subst (λ b. spoiled_by b (moment_in ending.stop) (damage_in ending.stop) broken (wants || is_short ending) ≡ causes.Nothing) all.0 well) in
    let runs = runs_if ending.stop damage fallen.1 in
    record {
      runs = runs;
      refused = never_refused ending.refused fallen.0 sated.1 (subst (TellsStop ending.refused) runs tells);
      disk = calm.0;
      memory = sated.0;
    }

pub went_well : (ending : Ending) (trail : List Event) (broken : Bool) → TellsStop ending.refused ending.stop → cause_of ending trail broken ≡ causes.Nothing
    → Well ending (list_any tells_disk trail) (list_any wants_memory trail)
went_well ending trail broken tells well = well_by ending (list_any tells_disk trail) broken (list_any wants_memory trail) tells well

-- of a core that met no damage the moment that is told is that of the stop
pub stop_told_by : (ending : Ending) (told broken wants : Bool) → damage_in ending.stop ≡ None → IsStopTold (cause_by ending told broken wants) (moment_in ending.stop)
stop_told_by ending told broken wants none = at (told || has_fallen ending) refl
  where
    wanting : Bool
    wanting = wants || is_short ending

    running : (b w : Bool) → IsStopTold (spoiled_by false None None b w) None
    running true w = refl
    running false true = refl
    running false false = refl

    at : (failed : Bool) → (told || has_fallen ending) ≡ failed → IsStopTold (spoiled_by failed (moment_in ending.stop) (damage_in ending.stop) broken wanting) (moment_in ending.stop)
    at true is = refl
    at false is = rw (runs_by ending told none is) (running broken wanting)

pub stop_told : (ending : Ending) (trail : List Event) (broken : Bool) → damage_in ending.stop ≡ None → IsStopTold (cause_of ending trail broken) (moment_in ending.stop)
stop_told ending trail broken none = stop_told_by ending (list_any tells_disk trail) broken (list_any wants_memory trail) none

-- ---- a call that failed

not_some : (o : Option Damage) → is_none o ≡ true → is_some o ≡ false
not_some None none = refl
not_some (Some d) none = absurd (cc none)

module _ (n m : ℕ) (trail : List Event) where
  at_stop : (stop : Option Stop) → is_failure stop ≡ true → (is_some stop ≡ true → is_some (damage_in stop) ≡ false → count_after n ≤ m) → count_after n ≤ m
  at_stop None failed halts = absurd (cc failed)
  at_stop (Some s) failed halts = halts refl (not_some s.damage failed)

  at_refusal : (refused : Option CollectFault) (stop : Option Stop) → is_fault refused ≡ true → TellsStop refused stop
      → faults_after tells_disk trail (first_fault refused n) ≤ m → (is_some stop ≡ true → is_some (damage_in stop) ≡ false → count_after n ≤ m) → count_after n ≤ m
  at_refusal (Some (faults.Disk None)) stop fault tells counted halts =
      let least = counted_least tells_disk trail n (count_after n) (omega arith) in omega (arith, least, counted)
  at_refusal (Some (faults.Disk (Some moment))) stop fault tells counted halts = halts (rw tells refl) (rw tells refl)
  at_refusal None stop fault tells counted halts = absurd (cc fault)
  at_refusal (Some faults.Memory) stop fault tells counted halts = absurd (cc fault)
  at_refusal (Some (faults.Damaged damage moment)) stop fault tells counted halts = absurd (cc fault)
  at_refusal (Some (faults.Stopped moment)) stop fault tells counted halts = absurd (cc fault)

  at_reply : (refused : Option CollectFault) → list_any tells_disk trail ≡ true → faults_after tells_disk trail (first_fault refused n) ≤ m → count_after n ≤ m
  at_reply refused some counted = by (is_quiet_fault refused) refl
    where
      by : (b : Bool) → is_quiet_fault refused ≡ b → count_after n ≤ m
      by true is =
          let first : first_fault refused n ≡ count_after n = rw is refl in
          let more = counted_some tells_disk trail (first_fault refused n) some in
          omega (arith, more, counted, first)
      by false is =
          let first : first_fault refused n ≡ n = rw is refl in
          let more = counted_some tells_disk trail (first_fault refused n) some in
          omega (arith, more, counted, first)

-- How a service ended, by what is known of its server.
pub ends : {A : Type 0} (count : A → ℕ) (has_stopped is_damaged : A → Bool) (stop : A → Option Stop) (begun server : A) (ending : Ending) (collections : ℕ) (trail : List Event)
    → has_stopped server ≡ is_some (stop server) → is_damaged server ≡ is_some (damage_in (stop server)) → ending.stop ≡ stop server
    → StopsAmong None (stop server) trail → AreStoppedReplies None trail → TellsStop ending.refused (stop server) → (collections ≡ 0 → ending.refused ≡ Some faults.Memory → ⊥)
    → Told count has_stopped is_damaged begun server trail → faults_after tells_disk trail (first_fault ending.refused (count begun)) ≤ count server
    → EndsService (Rose (count begun) (count server)) collections ending trail
ends count has_stopped is_damaged stop begun server ending collections trail stopped damaged is stops after tells quiet told counted = record {
  stops = subst (λ o. StopsAmong None o trail) (sym is) stops;
  after = after;
  refusal = subst (TellsStop ending.refused) (sym is) tells;
  quiet = quiet;
  failed = λ some. elim (or_true (list_any tells_disk trail) (has_fallen ending) some) [
    | inl reply ↦ at_reply (count begun) (count server) trail ending.refused reply counted
    | inr fallen ↦ elim (or_true (is_fault ending.refused) (is_failure ending.stop) fallen) [
      | inl fault ↦ at_refusal (count begun) (count server) trail ending.refused ending.stop fault (subst (TellsStop ending.refused) (sym is) tells) counted halts
      | inr failure ↦ at_stop (count begun) (count server) trail ending.stop failure halts
    ]
  ];
  calm = λ none silent. told.calm (stopped ∙ ap is_some (sym is ∙ none)) silent;
}
  where
    halts : is_some ending.stop ≡ true → is_some (damage_in ending.stop) ≡ false → Rose (count begun) (count server)
    halts some sound = told.halts (stopped ∙ ap is_some (sym is) ∙ some) (damaged ∙ ap (λ o. is_some (damage_in o)) (sym is) ∙ sound)

-- ---- no failed call, and no damage

pub no_damage : (o : Option Damage) → is_some o ≡ false → o ≡ None
no_damage None is = refl
no_damage (Some d) is = absurd (cc is)

pub calm_by : (ending : Ending) (trail : List Event) → damage_in ending.stop ≡ None → ¬ (has_failed ending trail ≡ true)
    → (ending.stop ≡ None → list_any tells_disk trail ≡ false → list_all is_calm trail ≡ true) → list_all is_calm trail ≡ true
calm_by ending trail none never calm = at (has_failed ending trail) refl
  where
    at : (b : Bool) → has_failed ending trail ≡ b → list_all is_calm trail ≡ true
    at true is = absurd (never is)
    at false is = calm (runs_well ending trail none is) (or_false (list_any tells_disk trail) (has_fallen ending) is).0
