-- A volume that was opened, and what a service comes to on it.
use Rattle.std.proofs.Common.{◌≡◌, ◌⊎◌, inl, inr, ℕ, ◌*◌, ◌≤◌, List, [], Option, Some, None, Result, Ok, Err, IfOk, IsTrue, true, refl, sym, ap, ◌∙◌, subst, arith, length}
use Rattle.cfs_serve.proofs.Cited.{AsksSessions, Cause, Counts, Ending, EndsService, Event, Ghosts, Graph, Ground, HaveScripts, IfSome, Image, Intake, IsUnservedCause, IsCaused, IsLater, IsNewCore, IsOpenFault, IsOpenedCore, IsPlayed, IsOpeningRefusal, IsRunFrom, IsRunOf, IsSound, IsSoundAs, IsSourceCause, Kernel, LeavesSinceBarrier, LeavesSinceTry, Places, PortReading, RecoverFault, Report, Rose, RoseIn, Client, ServesScripts, ServesSessions, ServesVolume, StandsFor, Supply, front_of, ground_at, ground_on, not_begun, opened, opening, option_map, result_ok, opening_cause, untold}
use Rattle.cfs_recover.specs.declared.fault.RecoverFault.TheVariants as whys
use Rattle.cfs_base.proofs.Runs.{stands}
use Rattle.cfs_base.specs.Disk.{Nothing}
use Rattle.cfs_base.specs.Run.{left_now}
use Rattle.cfs_recover.specs.Recovered.{IsUntouched}
use Rattle.cfs_serve.specs.Disks.{is_of_sources}
use Rattle.cfs_serve.specs.declared.report.VolumeFault.{VolumeFault}
use Rattle.vol_image.specs.Sound.{IsSound}
use Rattle.cfs_serve.specs.declared.report.Cause.TheVariants as causes

pub both_some : {A E : Type 0} (P Q R : A → Type 0) (r : Result A E) → IfOk r P → IfOk r Q → ((x : A) → P x → Q x → R x) → IfSome (result_ok r) R
both_some P Q R (Ok x) p q both = both x p q
both_some P Q R (Err e) p q both = tt

pub both_ok : {A E : Type 0} (P Q : A → Type 0) (r : Result A E) → IfOk r P → IfOk r Q → IfOk r (λ x. P x × Q x)
both_ok P Q (Ok x) p q = (p, q)
both_ok P Q (Err e) p q = tt

none_mapped : {A B : Type 0} (f : A → B) (o : Option A) → None ≡ option_map f o → o ≡ None
none_mapped f None is = refl
none_mapped f (Some x) is = absurd (cc is)

pub new_core : {D : Type 0} (g : Ghosts D) (cylinders seed : ℕ) (k : Kernel D) → 1 ≤ cylinders → IsOpenedCore g (opened seed) seed k → k.collections ≡ record { collector = None; called = 0; finished = 0 } → 64 * cylinders ≡ 64 * length k.space.free → IsNewCore g cylinders seed k
new_core g cylinders seed k some is idle size = record {
  stands = is.stands;
  words = is.words;
  some = some;
  size = omega (arith, size);
  runs = none_mapped (λ stop. stop.moment) k.stop (front_of g k (opening (opened seed)) is.stands).stopped;
  idle = idle;
}

pub never_rose : Rose 0 0 → ⊥
never_rose rose = absurd (omega (arith, rose))

-- ---- a session, by what its volume may read as

ends_on : (rose wide : Type 0) (collections : ℕ) (ending : Ending) (trail : List Event) → (rose → wide) → EndsService rose collections ending trail
    → EndsService wide collections ending trail
ends_on rose wide collections ending trail to is = record {
  stops = is.stops;
  after = is.after;
  refusal = is.refusal;
  quiet = is.quiet;
  failed = λ some. to (is.failed some);
  calm = is.calm;
}

module _ (a b : Ground) (seed collections : ℕ) (rose wide : Type 0) (cylinders : a.cylinders ≡ b.cylinders) (reads : (graph : Graph) → b.reads graph → a.reads graph) (to : rose → wide) where
  run_on : (graph : Graph) (sessions : ℕ) (counts : Counts) (cause : Cause) (ending : Ending) (trail : List Event) → IsRunFrom a.cylinders seed collections graph rose sessions counts cause ending trail
      → IsRunFrom b.cylinders seed collections graph wide sessions counts cause ending trail
  run_on graph sessions counts cause ending trail run = subst (λ n. IsRunFrom n seed collections graph wide sessions counts cause ending trail) cylinders (record {
    last = run.last;
    legal = run.legal;
    exact = run.exact;
    calm = λ never. run.calm (λ rose. never (to rose));
    stop = run.stop;
    counted = run.counted;
    free = run.free;
    rests = run.rests;
    whole = run.whole;
  })

  pub played_on : (clients : List Client) (ports : List PortReading) (counts : Counts) (cause : Cause) (ending : Ending) (trail : List Event)
      → IsPlayed a seed collections rose clients ports counts cause ending trail → IsPlayed b seed collections wide clients ports counts cause ending trail
  played_on clients ports counts cause ending trail played = record {
    root = played.root;
    rooted = λ graph is. played.rooted graph (reads graph is);
    run = λ graph is. run_on graph (length clients) counts cause ending trail (played.run graph (reads graph is));
    over = played.over;
    counted = played.counted;
    last = played.last;
    ends = ends_on rose wide collections ending trail to played.ends;
    few = played.few;
    collected = played.collected;
    wanting = played.wanting;
    undamaged = λ graph is. played.undamaged graph (reads graph is);
    spoiled = played.spoiled;
  }

-- by what the volume of the core may read as
module _ {D : Type 0} (g : Ghosts D) (core : Kernel D) (report : Report) (ending : Ending) (trail : List Event) (moments : List ℕ) (disk : D) (ground : Ground) (seed collections : ℕ) (wide : Type 0)
    (words : core.words.seed ≡ seed) (cylinders : length core.space.free ≡ ground.cylinders) (reads : (graph : Graph) → ground.reads graph → StandsFor g core (opening graph))
    (to : Rose (g.faults core.disk) (g.faults disk) → wide) where
  pub sessions_played : (clients : List Client) (ports : List PortReading) (s : ServesSessions g core collections clients ports report ending trail moments disk)
      → IsPlayed ground seed collections wide clients ports s.counts s.cause ending trail
  sessions_played clients ports s =
      played_on (ground_at g core) ground seed collections (Rose (g.faults core.disk) (g.faults disk)) wide cylinders reads to clients ports s.counts s.cause ending trail
      (subst (λ w. IsPlayed (ground_at g core) w collections (Rose (g.faults core.disk) (g.faults disk)) clients ports s.counts s.cause ending trail) words s.played)

-- scripts that were served on a core, or memory was wanting
module _ {D : Type 0} (g : Ghosts D) (core : Kernel D) (scripts : List (List ℕ)) (sources sources_after : List Supply) (sinks after : List Intake) (report : Report) (ending : Ending)
    (trail : List Event) (moments : List ℕ) (disk : D) (ground : Ground) (seed collections : ℕ) (wide : Type 0) (have : HaveScripts sources scripts) (sound : ¬ ground.unsound) (words : core.words.seed ≡ seed)
    (cylinders : length core.space.free ≡ ground.cylinders) (reads : (graph : Graph) → ground.reads graph → StandsFor g core (opening graph)) (to : Rose (g.faults core.disk) (g.faults disk) → wide) where
  pub script_run : ServesScripts g core collections scripts sinks after report ending trail moments disk
      → IsRunOf ground seed collections wide sources sources_after sinks after report ending trail
  script_run (inl s) = inl (record {
    scripts = scripts;
    have = have;
    sound = sound;
    counts = s.serves.counts;
    cause = s.serves.cause;
    told = s.serves.told;
    clients = s.clients;
    ports = s.ports;
    matched = s.matched;
    played = sessions_played g core report ending trail moments disk ground seed collections wide words cylinders reads to s.clients s.ports s.serves;
  })
  script_run (inr n) = inr (record { cause = causes.Memory; is = tt; nothing = n.0 })

-- nothing was served
none_run : (ground : Ground) (seed collections : ℕ) (wide : Type 0) (sources sources_after : List Supply) (sinks after : List Intake) (report : Report) (ending : Ending)
    (trail : List Event) (cause : Cause) → IsUnservedCause ground wide sources sources_after cause → after ≡ sinks → report ≡ untold cause → trail ≡ []
    → ending ≡ not_begun → IsRunOf ground seed collections wide sources sources_after sinks after report ending trail
none_run ground seed collections wide sources sources_after sinks after report ending trail cause is same told none no_end =
    inr (record { cause = cause; is = is; nothing = record { no_event = none; no_end = no_end; untouched = same; told = told } })

pub none_asks : (ground : Ground) (seed collections : ℕ) (old new : Places) (report : Report) (ending : Ending) (trail : List Event) (cause : Cause) → length new.sources ≡ length old.sources
    → IsUnservedCause ground (RoseIn old.disk new.disk) old.sources new.sources cause → new.sinks ≡ old.sinks → report ≡ untold cause → trail ≡ []
    → ending ≡ not_begun → AsksSessions ground seed collections old new report ending trail
none_asks ground seed collections old new report ending trail cause count is same told none no_end = record {
  sources = count;
  sinks = ap length same;
  run = none_run ground seed collections (RoseIn old.disk new.disk) old.sources new.sources old.sinks new.sinks report ending trail cause is same told none no_end;
}

pub source_cause : (ground : Ground) (wide : Type 0) (source after : List Supply) (cause : Cause) → IsSourceCause source after cause → IsUnservedCause ground wide source after cause
source_cause ground wide source after (causes.Volume fault) is = absurd is
source_cause ground wide source after (causes.Disk moment) is = absurd is
source_cause ground wide source after causes.Nothing is = is
source_cause ground wide source after causes.Sink is = is
source_cause ground wide source after causes.Memory is = is
source_cause ground wide source after (causes.Page page) is = is
source_cause ground wide source after causes.Words is = is
source_cause ground wide source after (causes.Source i) is = is
source_cause ground wide source after (causes.Long i) is = is
source_cause ground wide source after causes.LongTotal is = is
source_cause ground wide source after (causes.Legal n) is = absurd is
source_cause ground wide source after (causes.BadLine line) is = absurd is
source_cause ground wide source after (causes.Illegal event) is = absurd is
source_cause ground wide source after causes.LongVolume is = absurd is
source_cause ground wide source after (causes.Sound objects left) is = absurd is

pub source_ill : (source after : List Supply) (cause : Cause) → IsSourceCause source after cause → ¬ (cause ≡ causes.Nothing)
source_ill source after cause is well = absurd (rw well at is)

-- ---- a volume on a disk

-- the first call is the first that was tried
pub since_try : {D : Type 0} (g : Ghosts D) (old new : D) (P : Image → Type 0) → LeavesSinceBarrier g old new P → LeavesSinceTry g old new P
since_try g old new P (inl failed) = inl (failed.failed.cause, failed.failed.clock, failed.untouched, failed.tries)
since_try g old new P (inr since) = inr (since.0, since.1.settled, since.1.untouched, since.1.tries, since.2)

-- one that isn't called is as it was
pub untouched_itself : {D : Type 0} (g : Ghosts D) (d : D) → IsUntouched g d d
untouched_itself g d = record { content = refl; images = (stands g {d = d} {N = left_now g d} {P = Nothing} (λ c is. is)).leaves }

-- of an opening nothing is told of sources
pub never_of_sources : {D : Type 0} (g : Ghosts D) (old new : D) (cause : Cause) → IsOpeningRefusal g old new cause → is_of_sources cause ≡ true → ⊥
never_of_sources g old new (causes.Source n) is tells = is
never_of_sources g old new (causes.Long n) is tells = is
never_of_sources g old new causes.LongTotal is tells = is
never_of_sources g old new cause is tells = cc tells

module _ {D : Type 0} (g : Ghosts D) (old : D) (seed : ℕ) where
  -- it was refused
  pub refusal_cause : (new : D) (source after : List Supply) (script : List (List ℕ)) → HaveScripts source script → (cause : Cause) → IsOpeningRefusal g old new cause
      → IsUnservedCause (ground_on g old) (Rose (g.faults old) (g.faults new)) source after cause
  refusal_cause new source after script has (causes.Volume fault) is =
      ((λ graph reads. (is reads.0).0 (graph, reads.1)), (script, has), (λ honest. (is honest).1))
  refusal_cause new source after script has (causes.Disk moment) is = (is.0, is.1, (script, has))
  refusal_cause new source after script has causes.Memory is = tt
  refusal_cause new source after script has causes.Nothing is = absurd is
  refusal_cause new source after script has causes.Sink is = absurd is
  refusal_cause new source after script has (causes.Page page) is = absurd is
  refusal_cause new source after script has causes.Words is = absurd is
  refusal_cause new source after script has (causes.Source i) is = absurd is
  refusal_cause new source after script has (causes.Long i) is = absurd is
  refusal_cause new source after script has causes.LongTotal is = absurd is
  refusal_cause new source after script has (causes.Legal n) is = absurd is
  refusal_cause new source after script has (causes.BadLine line) is = absurd is
  refusal_cause new source after script has (causes.Illegal event) is = absurd is
  refusal_cause new source after script has causes.LongVolume is = absurd is
  refusal_cause new source after script has (causes.Sound objects left) is = absurd is

  -- nothing was served on it
  pub unserved : (new : D) (report : Report) (ending : Ending) (trail : List Event) (moments : List ℕ) (cause : Cause) → IsLater g old new → report ≡ untold cause → ending ≡ not_begun
      → ¬ (cause ≡ causes.Nothing)
      → (IsTrue (g.honest old) → (graph : Graph) → IsSoundAs (g.content old) graph → (new ≡ old) ⊎ LeavesSinceTry g old new (λ c. IsSoundAs c graph))
      → (IsTrue (g.honest old) → (fault : VolumeFault) → cause ≡ causes.Volume fault → IsUntouched g old new) → (IsTrue (g.honest old) → ¬ IsSound (g.content old) → IsUntouched g old new)
      → (is_of_sources cause ≡ true → new ≡ old) → ServesVolume g seed report ending trail moments old new
  unserved new report ending trail moments cause later told none ill images untouched unsound unread = record {
    opened = new;
    later = later;
    rises = omega arith;
    rise = λ served. absurd (cc (rw told at served));
    opening = images;
    unserved = λ none. refl;
    untouched = λ honest none fault is. untouched honest fault (sym (ap (λ (r : Report). r.cause) told) ∙ is);
    unsound = unsound;
    unread = λ none is. unread (rw told at is);
    timed = rw none tt;
    core = λ served. absurd (cc (rw told at served));
    crashes = λ served. absurd (cc (rw told at served));
    sound = λ well. absurd (ill (sym (ap (λ (r : Report). r.cause) told) ∙ well));
    faults = λ served. absurd (cc (rw told at served));
    stops = λ served. absurd (cc (rw told at served));
  }

  -- one that holds a sound volume was opened
  module _ (core : Kernel D) (later : IsLater g old core.disk)
      (images : IsTrue (g.honest old) → (graph : Graph) → IsSoundAs (g.content old) graph → LeavesSinceBarrier g old core.disk (λ c. IsSoundAs c graph))
      (whole : IsTrue (g.honest old) → IsSound (g.content old)) where
    -- memory was wanting before a session was served
    pub short_of_memory : (report : Report) (ending : Ending) (trail : List Event) (moments : List ℕ) → report ≡ untold causes.Memory → ending ≡ not_begun → ServesVolume g seed report ending trail moments old core.disk
    short_of_memory report ending trail moments told none = unserved core.disk report ending trail moments causes.Memory later told none (λ e. cc)
        (λ honest graph sound. inr (since_try g old core.disk _ (images honest graph sound))) (λ honest fault is. absurd (cc is)) (λ honest not. absurd (not (whole honest))) (λ is. absurd (cc is))

    -- sessions were
    pub sessions_served : (collections : ℕ) (clients : List Client) (ports : List PortReading) (report : Report) (ending : Ending) (trail : List Event) (moments : List ℕ) (new : D)
        → core.words.seed ≡ seed → (IsTrue (g.honest old) → (graph : Graph) → IsSoundAs (g.content old) graph → StandsFor g core (opening graph))
        → ServesSessions g core collections clients ports report ending trail moments new → ServesVolume g seed report ending trail moments old new
    sessions_served collections clients ports report ending trail moments new words stands s = record {
      opened = core.disk;
      later = later;
      rises = s.later;
      rise = λ some. s.rise;
      opening = λ honest graph sound. inr (since_try g old core.disk _ (images honest graph sound));
      unserved = λ none. absurd (some_none (sym (ap (λ (r : Report). r.counts) s.told) ∙ none));
      untouched = λ honest none. absurd (some_none (sym (ap (λ (r : Report). r.counts) s.told) ∙ none));
      unsound = λ honest not. absurd (not (whole honest));
      unread = λ none. absurd (some_none (sym (ap (λ (r : Report). r.counts) s.told) ∙ none));
      timed = s.timed;
      core = λ some. (
        s.last,
        s.last_disk,
        record {
          told = s.ends.told;
          stop = s.ends.stop;
          front = λ graph is last legal. s.ends.front graph (stands is.0 graph is.1) last (rw words legal);
        },
      );
      crashes = λ some honest graph sound. rw (← words) (s.crashes graph (stands honest graph sound));
      sound = λ well honest graph sound last legal. s.sound (sym (ap (λ (r : Report). r.cause) s.told) ∙ well) graph (stands honest graph sound) last (rw words legal);
      faults = λ some. s.faults;
      stops = λ some honest graph sound. s.stops graph (stands honest graph sound);
    }
      where
        some_none : {x : Counts} → Some x ≡ None → ⊥
        some_none e = cc

  -- scripts were
  pub served : (core : Kernel D) (collections : ℕ) (scripts : List (List ℕ)) (sinks after : List Intake) (report : Report) (ending : Ending) (trail : List Event) (moments : List ℕ)
      (new : D) → IsLater g old core.disk → core.words.seed ≡ seed
      → (IsTrue (g.honest old) → (graph : Graph) → IsSoundAs (g.content old) graph → StandsFor g core (opening graph))
      → (IsTrue (g.honest old) → (graph : Graph) → IsSoundAs (g.content old) graph → LeavesSinceBarrier g old core.disk (λ c. IsSoundAs c graph))
      → (IsTrue (g.honest old) → IsSound (g.content old))
      → ServesScripts g core collections scripts sinks after report ending trail moments new → ServesVolume g seed report ending trail moments old new
  served core collections scripts sinks after report ending trail moments new later words stands images whole (inl s) =
      sessions_served core later images whole collections s.clients s.ports report ending trail moments new words stands s.serves
  served core collections scripts sinks after report ending trail moments new later words stands images whole (inr n) = rw n.1 (short_of_memory core later images whole report ending trail moments n.0.told n.0.no_end)

pub refusal_ill : {D : Type 0} (g : Ghosts D) (old new : D) (cause : Cause) → IsOpeningRefusal g old new cause → ¬ (cause ≡ causes.Nothing)
refusal_ill g old new cause is well = absurd (rw well at is)

-- what is told of a refusal
module _ {D : Type 0} (g : Ghosts D) (old new : D) where
  never_free : (why : RecoverFault) → ¬ (why ≡ whys.Disk) → ¬ (why ≡ whys.Memory) → (IsTrue (g.honest old) → IsSound (g.content old) → (why ≡ whys.Disk) ⊎ (why ≡ whys.Memory))
      → IsTrue (g.honest old) → ¬ IsSound (g.content old)
  never_free why disk memory free honest sound = elim (free honest sound) [
    | inl is ↦ disk is
    | inr is ↦ memory is
  ]

  pub refusal_of : (why : RecoverFault) → (IsTrue (g.honest old) → IsSound (g.content old) → (why ≡ whys.Disk) ⊎ (why ≡ whys.Memory))
      → (IsTrue (g.honest old) → IsOpenFault (g.content old) why) → IsCaused g old new why → IsOpeningRefusal g old new (opening_cause why)
  refusal_of whys.Disk free fault caused = (refl, caused.cause)
  refusal_of whys.NotVolume free fault caused = λ honest. (never_free whys.NotVolume (λ e. cc e) (λ e. cc e) free honest, fault honest)
  refusal_of (whys.Version found) free fault caused = λ honest. (never_free (whys.Version found) (λ e. cc e) (λ e. cc e) free honest, fault honest)
  refusal_of (whys.Damaged d) free fault caused = λ honest. (never_free (whys.Damaged d) (λ e. cc e) (λ e. cc e) free honest, fault honest)
  refusal_of whys.Memory free fault caused = tt
