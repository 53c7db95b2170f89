-- A service on a core.
use Rattle.std.proofs.Common.{◌≡◌, ℕ, ◌/◌, ◌≤◌, Bool, true, false, cond, List, [], ◌∷◌, length, map, filter, Option, Some, None, IsTrue, is_some, refl, sym, ap, ◌∙◌, subst, arith, ◌+◌}
use Rattle.cfs_serve.proofs.Cited.{Cause, Collection, Counts, Ending, Event, Ghosts, Graph, Holds, Image, IsFront, IsRoom, IsRunFrom, IsRunOn, IsSoundAs, IsStopTold, IsTallied, Kernel, Object, Puid, PortReading, Report, Rose, RunSurvives, ServesIs, ServesSessions, Stands, StandsFor, State, Status, TellsLast, begins_in, blocks_of, cause_of, client_of, counts_of, damage_in, finishes_in, fits, free_once_tidy, free_to_come, free_with, front_of, graph_blocks, has_broken, honest, is_among, is_calm, is_collecting, is_reply, sweeps_now, left_now, length-map, list_all, moment_in, opening, pending, rooted, rooted_part, rooted_reads, collection_runs, serves_now, stored, sum, sum_by, sum_by-cons, tally_of}
use Rattle.survival.specs.Held.{FitsDisk}
use Rattle.ufs_model.specs.declared.collection.Collection.TheVariants as collections
use Rattle.cfs_core.specs.declared.kernel.Stop.{Stop}
use Rattle.cfs_serve.specs.Calls as calls
use Rattle.cfs_serve.specs.Calls.{CallsOne}
use Rattle.cyl_alloc.specs.Left.{LeftCommit, parts_left}
use Rattle.cfs_serve.specs.Ending.{IsStopTimed, cause_by}
use Rattle.cfs_serve.specs.Service.{HasServed}
use Rattle.cfs_serve.specs.declared.served.Served.{Served}
use Rattle.cfs_serve.specs.declared.server.Server as server_of
use Rattle.cfs_serve.specs.Volume.{IsStatusOf}
use Rattle.cfs_serve.proofs.Endings.{calm_by, no_damage, stop_told, went_well}
use Rattle.cfs_serve.proofs.Logs.{some_same}
use Rattle.cfs_serve.proofs.Stopping.{stop_none}
use Rattle.cfs_serve.proofs.Collecting.{runs_so}
use Rattle.cfs_serve.proofs.Left.{none_stands}

-- ---- an image that a core holds

sum_filter : {A : Type 0} (f : A → ℕ) (test : A → Bool) (xs : List A) → sum_by f (filter test xs) ≤ sum_by f xs
sum_filter f test [] = omega arith
sum_filter f test (x ∷ xs) = elim (test x) as (λ b. sum_by f (cond b (x ∷ filter test xs) (filter test xs)) ≤ sum_by f (x ∷ xs)) [
  | true ↦ omega (arith, sum_by-cons f x (filter test xs), sum_by-cons f x xs, sum_filter f test xs)
  | false ↦ omega (arith, sum_by-cons f x xs, sum_filter f test xs)
]

held_reads : (size : ℕ) (c : Image) (graph : Graph) → Holds c graph → FitsDisk size graph → length c ≡ size → IsSoundAs c (rooted_part graph)
held_reads size c graph holds fits is =
    let part : graph_blocks (rooted_part graph) ≤ graph_blocks graph = sum_filter (λ (e : Puid × Object). blocks_of e.1) (λ e. is_among e.0 (rooted graph)) graph.objects in
    let wide : length c / 64 ≡ size / 64 = ap (λ (n : ℕ). n / 64) is in
    rooted_reads c graph holds fits.closed (omega (arith, part, wide, fits.room))

-- the disk of a core that runs is sound as it is, and so is what a crash leaves of it now
module _ {D : Type 0} (g : Ghosts D) (sized : (d : D) → IsTrue (g.honest d) → length (g.content d) ≡ g.blocks d) (left_sized : (d : D) (t : ℕ) (c : Image) → g.left_since d t c → length c ≡ g.blocks d)
    (k : Kernel D) (s : State) (serves : ServesIs g k s) where
  wide : length (g.content k.disk) ≡ g.blocks k.disk
  wide = sized k.disk (honest g k s serves)

  -- where no commit is unfinished
  pub sound_now : k.space.left ≡ None → IsSoundAs (g.content k.disk) (rooted_part s.graph)
  sound_now none = held_reads (g.blocks k.disk) (g.content k.disk) s.graph (serves_now g k s none serves).store.carries.holds (fits g k s serves (g.blocks k.disk) wide) wide

  pub sound_left : (c : Image) → left_now g k.disk c → IsSoundAs c (rooted_part s.graph)
  sound_left c left = held_reads (g.blocks k.disk) c s.graph (pending g k s serves c left) (fits g k s serves (g.blocks k.disk) wide) (left_sized k.disk (g.moment k.disk) c left)

-- ---- what is told

abbrev counted_as : (sessions : ℕ) → List Event → (objects free : ℕ) → Counts
counted_as sessions trail objects free = record { sessions = sessions; replies = length (filter is_reply trail); collections = finishes_in trail; objects = objects; free = free }

counts_same : (sessions clients : ℕ) (trail : List Event) (free n : ℕ) (graph : Graph) → sessions ≡ clients → n ≡ length graph.objects → counted_as sessions trail n free ≡ counts_of clients trail graph free
counts_same sessions clients trail free n graph count same = rw (count, same) refl

-- ---- a core for which collections are called

abbrev pub called : {D : Type 0} → Kernel D → ℕ → Kernel D
called core n = record core { collections = record core.collections { called = core.collections.called + n } }

-- where nothing sweeps no block is left behind
pub none_lost : (cylinders free lost : ℕ) (s : State) → IsRoom cylinders s free → IsRoom cylinders s (free + lost) → lost ≡ 0
none_lost cylinders free lost s room more = omega (arith, room, more)

-- it stands for what it stood for
pub called_serves : {D : Type 0} (g : Ghosts D) (core : Kernel D) (n : ℕ) (s : State) → ServesIs g core s → ServesIs g (called core n) s
called_serves g core n s serves = stored g core s serves (record core.collections { called = core.collections.called + n }) serves.collecting

-- and so does one that stopped
pub called_stands : {D : Type 0} (g : Ghosts D) (core : Kernel D) (n : ℕ) (s : State) → StandsFor g core s → StandsFor g (called core n) s
called_stands g core n s stands = at core.stop stands
  where
    at : (o : Option Stop) → Stands g core s o → Stands g (called core n) s o
    at None serves = called_serves g core n s serves
    at (Some stop) front = record { drawn = front.drawn; directory = front.directory; grants = front.grants; stopped = front.stopped }

-- one more has three events at most
pub calls_one : {D : Type 0} (g : Ghosts D) (core : Kernel D) → CallsOne (λ k s. StandsFor g k s) (tally_of g) core (called core 1)
calls_one g core = record {
  stays = λ s stands. called_stands g core 1 s stands;
  called = refl;
  counts = (refl, refl);
  events = omega arith;
  lost = λ graph. refl;
}

-- where nothing is unfinished the Free blocks are those of the image to come
pub free_now : {D : Type 0} (g : Ghosts D) (k : Kernel D) → k.space.left ≡ None → free_to_come g k ≡ sum k.space.free
free_now g k none = ap (free_with g k) none

not_sweeping : (c : Collection) → is_collecting c ≡ false → sweeps_now c ≡ false
not_sweeping collections.None none = refl
not_sweeping (collections.Marking pairs starts) none = refl
not_sweeping collections.Sweeping none = absurd (cc none)

-- once as many collections are finished as were called for, nothing sweeps
rests_at : {D : Type 0} (g : Ghosts D) (k : Kernel D) (s : State) (n : ℕ) (trail : List Event) → ServesIs g k s → begins_in trail ≤ n → IsTallied (tally_of g k) trail → finishes_in trail ≡ n
    → sweeps_now s.collection ≡ false
rests_at g k s n trail serves few tallied all = at (collection_runs k.collections.collector) refl
  where
    at : (b : Bool) → collection_runs k.collections.collector ≡ b → sweeps_now s.collection ≡ false
    at true is =
        let more : calls.begun_so_far (tally_of g k) ≡ k.collections.finished + 1 = ap (λ b. k.collections.finished + cond b 1 0) is in
        absurd (omega (arith, few, tallied.0, tallied.1, all, more))
    at false is = not_sweeping s.collection (sym (runs_so g k s serves) ∙ is)

-- ---- sessions on a core

-- a core, as a server
abbrev pub by_core : {D : Type 0} → Ghosts D → server_of.Ghosts (Kernel D)
by_core g = record {
  stands = λ k s. StandsFor g k s;
  seed = λ k. k.words.seed;
  words = λ k. k.words.drawn;
  faults = λ k. g.faults k.disk;
  cylinders = λ k. length k.space.free;
  stop = λ k. k.stop;
  has_stopped = λ k. is_some k.stop;
  is_damaged = λ k. is_some (damage_in k.stop);
  stopped_so = λ k. refl;
  damaged_so = λ k. refl;
  clock = λ k. g.moment k.disk;
  tally = λ k. tally_of g k;
  unfinished = λ k. parts_left k.space.left;
  root = λ k. k.root;
  lasts = λ k seed graph trail marks. RunSurvives g seed graph trail marks k.disk;
}

-- what a service came to by a core for which collections were called is so by it as it was before
pub served_uncalled : {D K : Type 0} (g : Ghosts D) (core : Kernel D) (n : ℕ) (before : List PortReading) (collections : ℕ) (s : Served (Kernel D) K) → HasServed (by_core g) (called core n) before collections s
    → HasServed (by_core g) core before collections s
served_uncalled g core n before collections s is = record {
  run = λ graph stands. let on = is.run graph (called_stands g core n (opening graph) stands) in
      record { last = on.last; legal = on.legal; standing = on.standing; exact = on.exact; undamaged = on.undamaged; lost = on.lost };
  lasts = λ graph stands. is.lasts graph (called_stands g core n (opening graph) stands);
  over = is.over;
  later = is.later;
  ends = is.ends;
  stop = is.stop;
  timed = is.timed;
  size = is.size;
  called = is.called;
  starved = is.starved;
  failed = is.failed;
  few = is.few;
  tallied = is.tallied;
  collected = is.collected;
  rise = is.rise;
  counted = is.counted;
  stops = λ graph stands. is.stops graph (called_stands g core n (opening graph) stands);
}

none_left : (o : Option LeftCommit) → parts_left o ≡ 0 → o ≡ None
none_left None is = refl
none_left (Some l) is = absurd (omega (arith, is))

module _ {D K : Type 0} (g : Ghosts D) (sized : (d : D) → IsTrue (g.honest d) → length (g.content d) ≡ g.blocks d) (left_sized : (d : D) (t : ℕ) (c : Image) → g.left_since d t c → length c ≡ g.blocks d)
    (core : Kernel D) (before : List PortReading) (s : Served (Kernel D) K) (status : Status) (tells : IsStatusOf s.server status) where
  abbrev stopped : Kernel D → Bool
  stopped k = is_some k.stop

  abbrev damaged : Kernel D → Bool
  damaged k = is_some (damage_in k.stop)

  abbrev server : Kernel D
  server = s.server

  abbrev ending : Ending
  ending = s.ending

  abbrev ports : List PortReading
  ports = s.ports.items

  abbrev trail : List Event
  trail = s.trail.events

  abbrev counts : Counts
  counts = counted_as (length ports) trail status.objects status.free

  abbrev cause : Cause
  cause = cause_of ending trail (has_broken ports)

  abbrev rose : Type 0
  rose = Rose (g.faults core.disk) (g.faults server.disk)

  module _ (n : ℕ) (runs : core.stop ≡ None) (is : HasServed (by_core g) core before n s)
      (report : Report) (report_is : report ≡ record { counts = Some counts; faults = []; cause = cause_by ending s.failed (has_broken ports) s.starved })
      (free_is : (last : State) → ServesIs g server last → sweeps_now last.collection ≡ false → last.grants ≡ [] → free_to_come g server ≡ free_once_tidy (length server.space.free) last.graph) where
    settled : ending.refused ≡ None → server.space.left ≡ None
    settled well = none_left server.space.left (is.collected.settled well)

    undamaged : damaged core ≡ false
    undamaged = rw runs refl

    module _ (graph : Graph) (stands : StandsFor g core (opening graph)) where
      begun : ServesIs g core (opening graph)
      begun = subst (Stands g core (opening graph)) runs stands

      on : IsRunOn (λ k s. StandsFor g k s) stopped damaged (tally_of g) core.words.seed (length core.space.free) graph core server trail
      on = is.run graph stands

      front : IsFront server on.last
      front = front_of g server on.last on.standing

      whole : damage_in ending.stop ≡ None
      whole = no_damage (damage_in ending.stop) (ap (λ o. is_some (damage_in o)) is.stop ∙ on.undamaged undamaged)

      calm : ¬ rose → list_all is_calm trail ≡ true
      calm never = calm_by ending trail whole (λ some. never (is.ends.failed some)) is.ends.calm

      serving : server.stop ≡ None → ServesIs g server on.last
      serving none = subst (Stands g server on.last) none on.standing

      is_run : IsRunFrom (length core.space.free) core.words.seed n graph rose (length (map client_of before)) counts cause (record ending { last = Some status }) trail
      is_run = record {
        last = on.last;
        legal = on.legal;
        exact = on.exact;
        calm = calm;
        stop = subst (IsStopTold cause) (ap moment_in is.stop ∙ sym front.stopped) (stop_told ending trail (has_broken ports) whole);
        counted = counts_same (length ports) (length (map client_of before)) trail status.free status.objects on.last.graph is.over.count (tells.objects ∙ ap length front.directory ∙ length-map on.last.graph.objects _);
        free = λ well none swept. tells.free ∙ sym (free_now g server (settled well)) ∙ free_is on.last (serving (stop_none server.stop (sym front.stopped ∙ none))) swept
            (none_stands core.root n (map client_of before) trail ports core.words.seed graph on.last is.over on.legal) ∙ ap (λ m. free_once_tidy m on.last.graph) is.size;
        rests = λ none all.
            let here = stop_none server.stop (sym front.stopped ∙ none) in
            rests_at g server on.last n trail (serving here) is.few (is.tallied (ap is_some here)) all;
        whole = begun.state.graph;
      }

    last : TellsLast n (record ending { last = Some status }) trail counts
    last = record {
      status = status;
      is = refl;
      objects = refl;
      free = refl;
      stop = (tells.stopped ∙ ap moment_in (sym is.stop), tells.damage ∙ ap damage_in (sym is.stop));
      called = tells.called ∙ is.called;
      finished = λ runs. tells.finished ∙ sym (is.tallied (ap is_some (sym is.stop ∙ runs))).1;
      running = λ runs. let tallied = is.tallied (ap is_some (sym is.stop ∙ runs)) in rw (tells.running, tallied.1) tallied.0;
    }

    pub served : (begins : (graph : Graph) → ((c : Image) → left_now g core.disk c → IsSoundAs c (rooted_part graph)) → RunSurvives g core.words.seed graph [] (g.moment core.disk ∷ []) core.disk)
        → ServesSessions g core n (map client_of before) ports report (record ending { last = Some status }) trail s.trail.moments server.disk
    served begins = record {
      counts = counts;
      cause = cause;
      told = rw (is.failed, is.starved) at report_is;
      played = record {
        root = core.root;
        rooted = λ graph stands. (begun graph stands).root;
        run = is_run;
        over = is.over;
        counted = (is.over.count, refl, refl);
        last = last;
        ends = record { stops = is.ends.stops; after = is.ends.after; refusal = is.ends.refusal; quiet = is.ends.quiet; failed = is.ends.failed; calm = is.ends.calm };
        few = is.few;
        collected = is.collected.all;
        wanting = is.collected.wanting;
        undamaged = whole;
        spoiled = refl;
      };
      last = server;
      last_disk = refl;
      ends = record {
        told = λ told same. subst (IsStatusOf server) (some_same _ _ same) tells;
        stop = is.stop;
        front = λ graph stands s legal. subst (IsFront server) (some_same _ _ (sym (on graph stands).legal ∙ legal)) (front graph stands);
      };
      timed = subst (λ (o : Option Stop). IsStopTimed o (g.moment server.disk)) (sym is.stop) is.timed;
      later = is.later;
      rise = is.rise;
      faults = is.counted;
      stops = is.stops;
      crashes = λ graph stands. is.lasts graph stands (begins graph (sound_left g sized left_sized core (opening graph) (begun graph stands)));
      sound = λ well graph stands last legal.
          let here : (on graph stands).last ≡ last = some_same _ _ (sym (on graph stands).legal ∙ legal) in
          let all = went_well ending trail (has_broken ports) is.ends.refusal well in
          rw (← here) (sound_now g sized left_sized server (on graph stands).last (serving graph stands (sym is.stop ∙ all.runs)) (settled all.refused));
    }
