-- A conversation on a core, and on the volume of a disk.
use Rattle.std.proofs.Common.{◌≡◌, inl, inr, ℕ, ◌*◌, ◌+◌, IsTrue, List, [], ◌∷◌, ◌++◌, length, map, Some, refl, sym, ap, ◌∙◌, subst, arith, length-append}
use Rattle.cfs_serve.proofs.Cited.{Cache, Cause, Ending, Event, Ghosts, Graph, Ground, Intake, IsLater, IsOpeningRefusal, IsPlayed, IsSound, IsSoundAs, Kernel, LeavesSinceBarrier, Places, PortReading, Report, Rose, ServesSessions, ServesVolume, StandsFor, Supply, client_of, ground_on, opening}
use Rattle.cfs_serve.proofs.Lists.{heads, no_items}
use Rattle.cfs_serve.proofs.Logs.{some_same}
use Rattle.cfs_serve.proofs.Playing.{by_core}
use Rattle.cfs_serve.proofs.Through.{cached, through}
use Rattle.cfs_serve.proofs.Volumes.{sessions_played, sessions_served, short_of_memory}
use Rattle.cfs_serve.specs.Conversed.{DoesTalk}
use Rattle.cfs_serve.specs.Played.{ServesNothing}
use Rattle.cfs_serve.specs.Talk.{CoreTalks, HasTalked, IsTalk, IsUnopenedCause, IsUntalked, TalksOnCore, talk_cause, talk_report}
use Rattle.cfs_serve.specs.Words.{Conversation}
use Rattle.cfs_serve.specs.declared.report.Cause.TheVariants as causes
use Rattle.cfs_serve.specs.declared.served.Served.{Served}
use Rattle.cfs_serve.specs.declared.talk.TalkEnd.{TalkEnd}

-- ---- one item

-- the one item of a list was its last
pub none_else : {A : Type 0} (xs ys : List A) (x : A) → xs ≡ ys ++ x ∷ [] → length xs ≡ 1 → ys ≡ []
none_else xs ys x split one = no_items ys (omega (arith, ap length split, length-append ys (x ∷ []), one))

pub only_one : {A B : Type 0} (f : A → B) (xs ys : List A) (x : A) → ys ≡ [] → xs ≡ ys ++ x ∷ [] → map f xs ≡ f x ∷ []
only_one f xs ys x none split = ap (map f) (split ∙ ap (λ l. l ++ x ∷ []) none)

pub the_last : {A : Type 0} (xs ys : List A) (x y : A) → xs ≡ y ∷ [] → xs ≡ ys ++ x ∷ [] → y ≡ x
the_last xs ys x y is split = heads (sym is ∙ split ∙ ap (λ l. l ++ x ∷ []) (none_else xs ys x split (ap length is)))

-- ---- by a core

-- its end counts by the collector's refusal alone
talk_with : (every : ℕ) (source source_after : Supply) (sink : Intake) (end : TalkEnd) (port after : PortReading) (collections : ℕ) (before ending : Ending) (trail : List Event) → ending.refused ≡ before.refused
    → IsTalk every source source_after sink end port after collections before trail → IsTalk every source source_after sink end port after collections ending trail
talk_with every source source_after sink end port after collections before ending trail same is = record {
  rest = is.rest;
  heard = is.heard;
  few = is.few;
  sink_is = is.sink_is;
  ends = is.ends;
  paced = is.paced;
  last = λ some none. is.last some (sym same ∙ none);
}

module _ {D K : Type 0} (g : Ghosts D) (core : Kernel D) (every : ℕ) (source source_after : Supply) (sink sink_after : Intake) (end : TalkEnd) (s : Served (Kernel D) K) (told : Report) (ending : Ending)
    (moments : List ℕ) (disk : D) where
  -- with what the service tells, or else what the end does
  abbrev Talks : Type 0
  Talks = CoreTalks g core every source source_after sink sink_after (record told { cause = talk_cause told.cause end }) ending s.trail.events moments disk

  pub core_talks : (talked : HasTalked (by_core g) core every source source_after sink end s) (rest : List PortReading) (port : PortReading) → s.ports.items ≡ rest ++ port ∷ [] → port.sink ≡ sink_after
      → ending.refused ≡ s.ending.refused → ServesSessions g core talked.collections (client_of talked.port ∷ []) s.ports.items told ending s.trail.events moments disk → Talks
  core_talks talked rest port split taken same serves = record {
    end = end;
    port = talked.port;
    after = talked.after;
    collections = talked.collections;
    counts = serves.counts;
    cause = serves.cause;
    talk = talk_with every source source_after sink end talked.port talked.after talked.collections s.ending ending s.trail.events same talked.talk;
    sink_after_is = ap (λ (p : PortReading). p.sink) (the_last s.ports.items rest port talked.after talked.ports split) ∙ taken;
    serves = subst (λ r. ServesSessions g core talked.collections (client_of talked.port ∷ []) (talked.after ∷ []) r ending s.trail.events moments disk) serves.told
        (subst (λ ports. ServesSessions g core talked.collections (client_of talked.port ∷ []) ports told ending s.trail.events moments disk) talked.ports serves);
    told = ap (λ (r : Report). record r { cause = talk_cause r.cause end }) serves.told;
  }

-- ---- on the volume of a disk

-- why none was had on one that wasn't opened
pub unopened_cause : {D : Type 0} (g : Ghosts D) (old new : D) (cause : Cause) → IsOpeningRefusal g old new cause → IsUnopenedCause (ground_on g old) (Rose (g.faults old) (g.faults new)) cause
unopened_cause g old new (causes.Volume fault) is = (λ graph reads. (is reads.0).0 (graph, reads.1), λ honest. (is honest).1)
unopened_cause g old new (causes.Disk moment) is = is
unopened_cause g old new causes.Memory is = tt
unopened_cause g old new cause is = absurd is

module _ {D : Type 0} (g : Ghosts D) (talk : Conversation) (old new : D) (report : Report) (ending : Ending) (trail : List Event) (moments : List ℕ) where
  abbrev before : List Supply → List Intake → Places
  before sources sinks = record { disk = Some (g.faults old); sources = sources; sinks = sinks }

  abbrev left : List Supply → List Intake → Places
  left sources sinks = record { disk = Some (g.faults new); sources = sources; sinks = sinks }

  -- none was had, for this cause
  pub talks_none : (sources : List Supply) (sinks sinks_after : List Intake) (cause : Cause) → IsUnopenedCause (ground_on g old) (Rose (g.faults old) (g.faults new)) cause
      → ServesNothing sinks sinks_after report ending trail cause → ServesVolume g talk.seed report ending trail moments old new
      → DoesTalk g talk (ground_on g old) (before sources sinks) (left sources sinks_after) report ending trail moments old new
  talks_none sources sinks sinks_after cause is nothing volume = inr (record { unheard = record { cause = cause; is = is; unread = refl; nothing = nothing }; volume = volume })

  module _ (core : Kernel D) (later : IsLater g old core.disk) (size : g.blocks old ≡ 64 * length core.space.free) (words : core.words.seed ≡ talk.seed)
      (stands : IsTrue (g.honest old) → (graph : Graph) → IsSoundAs (g.content old) graph → StandsFor g core (opening graph))
      (images : IsTrue (g.honest old) → (graph : Graph) → IsSoundAs (g.content old) graph → LeavesSinceBarrier g old core.disk (λ c. IsSoundAs c graph))
      (whole : IsTrue (g.honest old) → IsSound (g.content old)) (source source_after : Supply) (sink sink_after : Intake) where
    abbrev Does : Type 0
    Does = DoesTalk g talk (ground_on g old) (before (source ∷ []) (sink ∷ [])) (left (source_after ∷ []) (sink_after ∷ [])) report ending trail moments old new

    abbrev wide : Type 0
    wide = Rose (g.faults old) (g.faults new)

    had : CoreTalks g core talk.every source source_after sink sink_after report ending trail moments new → Does
    had s =
        let told = talk_report s.counts s.cause in
        let clients = client_of s.port ∷ [] in
        let ports = s.after ∷ [] in
        let played = sessions_played g core told ending trail moments new (ground_on g old) talk.seed s.collections wide words (omega (arith, size)) (λ graph reads. stands reads.0 graph reads.1)
        (λ rose. let first = later.0 in omega (arith, rose, first)) clients ports s.serves in
        let counts : s.serves.counts ≡ s.counts = some_same _ _ (sym (ap (λ (r : Report). r.counts) s.serves.told)) in
        let cause : s.serves.cause ≡ s.cause = sym (ap (λ (r : Report). r.cause) s.serves.told) in
        inl (record {
          source = source;
          source_after = source_after;
          sink = sink;
          sink_after = sink_after;
          sources_are = (refl, refl);
          sinks_are = (refl, refl);
          end = s.end;
          counts = s.counts;
          cause = s.cause;
          told_is = s.told;
          conversed = record {
            port = s.port;
            after = s.after;
            collections = s.collections;
            talk = s.talk;
            sink_after_is = s.sink_after_is;
            played = subst (λ n. IsPlayed (ground_on g old) talk.seed s.collections wide clients ports n s.cause ending trail) counts
                (subst (λ c. IsPlayed (ground_on g old) talk.seed s.collections wide clients ports s.serves.counts c ending trail) cause played);
            sound = λ unsound. unsound.1 (whole unsound.0);
          };
          volume = sessions_served g old talk.seed core later images whole s.collections clients ports told ending trail moments new words stands s.serves;
        })

    -- memory was wanting
    none : IsUntalked core source source_after sink sink_after report ending trail new → Does
    none u =
        let volume = short_of_memory g old talk.seed core later images whole report ending trail moments u.nothing.told u.nothing.no_end in
        subst (λ after. DoesTalk g talk (ground_on g old) (before (source ∷ []) (sink ∷ [])) (left (after ∷ []) (sink_after ∷ [])) report ending trail moments old new) (sym u.unread)
        (talks_none (source ∷ []) (sink ∷ []) (sink_after ∷ []) causes.Memory tt u.nothing (rw u.disk_is volume))

    pub talks_on : TalksOnCore g core talk.every source source_after sink sink_after report ending trail moments new → Does
    talks_on (inl s) = had s
    talks_on (inr u) = none u

-- ---- through a cache

-- what is said of one on a volume that is served through a cache is so of the disk below it
module _ {D : Type 0} (g : Ghosts D) (talk : Conversation) (ground : Ground) (places places_after : Places) (told : Report) (ending : Ending) (trail : List Event) (moments : List ℕ) (old new : Cache D) where
  pub talks_through : DoesTalk (cached g) talk ground places places_after told ending trail moments old new → DoesTalk g talk ground places places_after told ending trail moments old.lower new.lower
  talks_through (inl is) = inl (record {
    source = is.source;
    source_after = is.source_after;
    sink = is.sink;
    sink_after = is.sink_after;
    sources_are = is.sources_are;
    sinks_are = is.sinks_are;
    end = is.end;
    counts = is.counts;
    cause = is.cause;
    told_is = is.told_is;
    conversed = is.conversed;
    volume = through g talk.seed (talk_report is.counts is.cause) ending trail moments old new is.volume;
  })
  talks_through (inr is) = inr (record { unheard = is.unheard; volume = through g talk.seed told ending trail moments old new is.volume })
