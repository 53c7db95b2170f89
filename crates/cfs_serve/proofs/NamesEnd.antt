-- What lines of names come to on a core.
use Rattle.std.proofs.Common.{◌≡◌, ◌⊎◌, inl, inr, ℕ, ◌+◌, ◌*◌, ◌≤◌, ◌||◌, Bool, true, false, not, cond, List, [], ◌∷◌, length, IsTrue, Option, Some, None, refl, sym, ap, ◌∙◌, subst, arith}
use Rattle.std.specs.List.{list_any, sum_by}
use Rattle.std.proofs.lemmas.List.{length-map}
use Rattle.cfs_base.proofs.Runs.{then, wider}
use Rattle.cfs_base.specs.Disk.{Image}
use Rattle.cfs_base.specs.Outside.{Intake, Rose, count_after}
use Rattle.cfs_base.specs.Run.{Leaves, left_now}
use Rattle.cfs_base.specs.declared.disk.Disk.{Ghosts}
use Rattle.cfs_core.specs.Kernel.{Kernel}
use Rattle.cfs_core.specs.Room.{IsRoom}
use Rattle.cfs_core.specs.StandsFor.{IsFront, ServesIs, Stands, StandsFor, free_to_come, front_of, sweeps_now}
use Rattle.cfs_core.specs.declared.collecting.CollectFault.{CollectFault}
use Rattle.cfs_core.specs.declared.kernel.Status.{Status}
use Rattle.cfs_core.specs.declared.kernel.Stop.{Stop}
use Rattle.name_lines.specs.declared.answer.Answer.{Answer}
use Rattle.name_lines.specs.Printed.{is_disk_answer, is_memory_answer}
use Rattle.ufs_model.specs.declared.collection.Collection.{Collection}
use Rattle.ufs_model.specs.declared.collection.Collection.TheVariants as collections
use Rattle.ufs_model.specs.Graph.{Graph}
use Rattle.ufs_model.specs.Next.{is_sweeping}
use Rattle.ufs_model.specs.Room.{blocks_in, blocks_of_grant}
use Rattle.ufs_model.specs.State.{State, opening}
use Rattle.cfs_serve.proofs.Along.{along_begun, along_end, reads_rooted}
use Rattle.cfs_serve.proofs.Answered.{all_full, lines_leave, lines_undamaged, names_run, sweeps_no_more}
use Rattle.cfs_serve.proofs.Endings.{stop_told_by, well_by}
use Rattle.cfs_serve.proofs.Logs.{or_true}
use Rattle.cfs_serve.proofs.Playing.{free_now, sound_left, sound_now}
use Rattle.cfs_serve.proofs.Stopping.{stop_none}
use Rattle.cfs_serve.proofs.Tidied.{ReadsAs, Settles, all_counted, all_go_on, all_rose, all_settle, all_settled, all_tell}
use Rattle.cfs_serve.specs.Along.{ReadsAlong}
use Rattle.cfs_serve.specs.Ending.{cause_by, damage_in, has_fallen, is_failure, is_fault, moment_in}
use Rattle.cfs_serve.specs.Lines.{AnswersLines, ServesLines, faults_told}
use Rattle.cfs_serve.specs.Logs.{first_fault, is_quiet_fault}
use Rattle.cfs_serve.specs.Named.{CoreServesNames, RunsNames, ServesNames}
use Rattle.cfs_serve.specs.Played.{free_once_tidy}
use Rattle.cfs_serve.specs.Tidied.{TidiesAll}
use Rattle.cfs_serve.specs.Watched.{IsWatched, by_core}
use Rattle.cfs_serve.specs.declared.answering.Told.{Told}
use Rattle.cfs_serve.specs.declared.ending.Ending.{Ending}
use Rattle.cfs_serve.specs.declared.report.Cause.{Cause}
use Rattle.cfs_serve.specs.declared.report.Cause.TheVariants as causes
use Rattle.cfs_serve.specs.declared.report.Counts.{Counts}
use Rattle.cfs_serve.specs.declared.report.Report.{Report}

-- ---- counts of failed calls

-- one that was counted before is counted still
told_swaps : (told : List Answer) (n : ℕ) → faults_told told (count_after n) ≡ count_after (faults_told told n)
told_swaps [] n = refl
told_swaps (a ∷ told) n =
    elim (is_disk_answer a) as (λ b. faults_told told (cond b (count_after (count_after n)) (count_after n)) ≡ count_after (faults_told told (cond b (count_after n) n))) [
      | true ↦ told_swaps told (count_after n)
      | false ↦ told_swaps told n
    ]

told_least : (told : List Answer) (n m : ℕ) → count_after n ≤ m → count_after n ≤ faults_told told m
told_least [] n m least = least
told_least (a ∷ told) n m least = elim (is_disk_answer a) as (λ b. count_after n ≤ faults_told told (cond b (count_after m) m)) [
  | true ↦ told_least told n (count_after m) (omega (arith, least))
  | false ↦ told_least told n m least
]

told_some : (told : List Answer) (n : ℕ) → list_any is_disk_answer told ≡ true → count_after n ≤ faults_told told n
told_some [] n some = absurd (cc some)
told_some (a ∷ told) n some = elim (is_disk_answer a) as (λ b. (b || list_any is_disk_answer told) ≡ true → count_after n ≤ faults_told told (cond b (count_after n) n)) [
  | true ↦ λ yes. told_least told n (count_after n) (omega arith)
  | false ↦ λ after. told_some told n after
] some

told_first : (told : List Answer) (refused : Option CollectFault) (n mid most : ℕ) → faults_told told n ≤ mid → first_fault refused mid ≤ most → faults_told told (first_fault refused n) ≤ most
told_first told refused n mid most before last = by (is_quiet_fault refused) last
  where
    by : (b : Bool) → cond b (count_after mid) mid ≤ most → faults_told told (cond b (count_after n) n) ≤ most
    by true last = let swap = told_swaps told n in omega (arith, before, last, swap)
    by false last = omega (arith, before, last)

-- ---- what sweeps

calm_now : (c : Collection) → is_sweeping c ≡ false → sweeps_now c ≡ false
calm_now collections.None calm = refl
calm_now (collections.Marking edges starts) calm = refl
calm_now collections.Sweeping calm = absurd (cc calm)

-- ---- a run

module _ {D : Type 0} (g : Ghosts D) (sized : (d : D) → IsTrue (g.honest d) → length (g.content d) ≡ g.blocks d) (left_sized : (d : D) (t : ℕ) (c : Image) → g.left_since d t c → length c ≡ g.blocks d)
    (core mid new : Kernel D) (all : List (List ℕ)) (sink sink_after : Intake) (told : Told) (refused : Option CollectFault) (status : Status) where
  abbrev ending : Ending
  ending = record { stop = new.stop; refused = refused; last = Some status }

  abbrev counts : Counts
  counts = record { sessions = 1; replies = told.answers; collections = 0; objects = status.objects; free = status.free }

  abbrev cause : Cause
  cause = cause_by ending told.failed (not told.took) told.starved

  -- what is known of the core, as it began, as the lines were answered, and as it ended
  pub record Ran : Type 0 where
    pub runs : core.stop ≡ None
    pub answers : AnswersLines (by_core g) all sink sink_after core mid told
    pub watched : IsWatched g (g.faults core.disk) mid
    pub tidied : TidiesAll g mid new refused
    pub mid_size : g.blocks mid.disk ≡ 64 * length mid.space.free
    pub new_size : g.blocks new.disk ≡ 64 * length new.space.free
    pub objects : status.objects ≡ length new.directory.named
    pub stopped : status.stopped ≡ moment_in new.stop
    pub damage : status.damage ≡ damage_in new.stop
    pub free : (s : State) → ServesIs g new s → new.space.left ≡ None → status.free ≡ free_to_come g new
    pub within : (s : State) → ServesIs g new s → status.free ≤ free_to_come g new
    pub room : (s : State) → ServesIs g new s → sweeps_now s.collection ≡ false → IsRoom (length new.space.free) s (free_to_come g new)

  module _ (r : Ran) where
    abbrev lines : List (List ℕ)
    lines = r.answers.has.lines

    abbrev said : List Answer
    said = r.answers.has.told

    same_size : length new.space.free ≡ length core.space.free
    same_size =
        let first = r.answers.has.later.cylinders in
        let mid_is = r.mid_size in
        let new_is = r.new_size in
        let stays = (all_go_on g mid new refused r.tidied).size in
        omega (arith, first, mid_is, new_is, stays)

    later : g.faults core.disk ≤ g.faults new.disk
    later = let first = r.answers.has.later.failed in let second = (all_go_on g mid new refused r.tidied).later in omega (arith, first, second)

    rises : Rose (g.faults mid.disk) (g.faults new.disk) → Rose (g.faults core.disk) (g.faults new.disk)
    rises rose = let first = r.answers.has.later.failed in omega (arith, first, rose)

    -- a failed call is behind what is told of one
    failed : (list_any is_disk_answer said || has_fallen ending) ≡ true → Rose (g.faults core.disk) (g.faults new.disk)
    failed some = elim (or_true (list_any is_disk_answer said) (has_fallen ending) some) [
      | inl answer ↦
          let least = told_some said (g.faults core.disk) answer in
          let most = r.answers.has.faults in
          let second = (all_go_on g mid new refused r.tidied).later in
          omega (arith, least, most, second)
      | inr fallen ↦ elim (or_true (is_fault refused) (is_failure new.stop) fallen) [
        | inl fault ↦ rises (all_rose g mid new refused r.tidied fault)
        | inr failure ↦ elim ((all_go_on g mid new refused r.tidied).fell failure) [
          | inl before ↦ let rose = r.watched.fell before in let second = (all_go_on g mid new refused r.tidied).later in omega (arith, rose, second)
          | inr rose ↦ rises rose
        ]
      ]
    ]

    -- the stop of a line is that of the core
    stays_at : (o : Option Stop) → mid.stop ≡ o → (moment : ℕ) → moment_in o ≡ Some moment → moment_in new.stop ≡ Some moment
    stays_at None same moment is = absurd (cc is)
    stays_at (Some stop) same moment is = ap moment_in ((all_go_on g mid new refused r.tidied).stays stop same) ∙ is

    spoiled : cause ≡ cause_by ending (list_any is_disk_answer said) (not told.took) (list_any is_memory_answer said)
    spoiled = ap (λ b. cause_by ending b (not told.took) told.starved) r.answers.has.failed ∙ ap (λ b. cause_by ending (list_any is_disk_answer said) (not told.took) b) r.answers.has.starved

    module _ (graph : Graph) (stands : StandsFor g core (opening graph)) where
      begun : ServesIs g core (opening graph)
      begun = subst (Stands g core (opening graph)) r.runs stands

      went : (t : State) × StandsFor g mid t × (t.grants ≡ []) × ServesLines (by_core g) core (opening graph) lines said mid t
      went = r.answers.has.went (opening graph) stands refl

      abbrev last : State
      last = went.0

      settles : Settles g mid new last
      settles = all_settle g mid new refused r.tidied last went.1

      whole : damage_in new.stop ≡ None
      whole = settles.undamaged (lines_undamaged g went.3 stands (ap damage_in r.runs))

      front : IsFront mid last
      front = front_of g mid last went.1

      calm : sweeps_now last.collection ≡ false
      calm = calm_now last.collection (sweeps_no_more (length core.space.free) (opening graph) (names_run g went.3))

      -- the core runs
      module _ (runs : new.stop ≡ None) where
        serves : ServesIs g new last
        serves = subst (Stands g new last) runs (subst (λ t. StandsFor g new t) (settles.same runs) settles.stands)

        room_at : free_to_come g new + blocks_in last + 1 ≡ 63 * length core.space.free
        room_at = let room = r.room last serves calm in omega (arith, room, same_size)

        free_at : refused ≡ None → status.free ≡ free_once_tidy (length core.space.free) last.graph
        free_at none =
            let is = r.free last serves (all_settled g mid new refused r.tidied none) in
            let room = room_at in
            let undrafted : sum_by blocks_of_grant last.grants ≡ 0 = ap (sum_by blocks_of_grant) went.2 in
            omega (arith, is, room, undrafted)

      -- what a crash leaves
      module _ (none : last.stopped ≡ None) where
        mid_runs : mid.stop ≡ None
        mid_runs = stop_none mid.stop (sym front.stopped ∙ none)

        abbrev Along : Image → Type 0
        Along c = ReadsAlong c (length core.space.free) (opening graph) lines said

        all_leave : Leaves g core.disk new.disk Along
        all_leave = then g core.disk mid.disk new.disk Along Along (lines_leave g went.3 stands mid_runs)
            (wider g mid.disk new.disk (ReadsAs last.graph) Along settles.leaves (λ c reads. record {
              between = last.graph;
              along = along_end (length core.space.free) (opening graph) last lines said (names_run g went.3);
              graph = last.graph;
              same = λ d. refl;
              rooted = reads_rooted c last.graph (subst (λ h. Rattle.vol_image.specs.Sound.IsSoundAs c (Rattle.vol_image.specs.Sound.rooted_part h)) reads.may reads.reads);
            })) (λ c is. is)

        crashes : (c : Image) → g.left_since new.disk (g.moment core.disk) c → Along c
        crashes c left = elim (all_leave.since (g.moment core.disk) c (omega arith) left) [
          | inl before ↦ record {
            between = graph;
            along = along_begun (length core.space.free) (opening graph) lines said;
            graph = graph;
            same = λ d. refl;
            rooted = reads_rooted c graph (sound_left g sized left_sized core (opening graph) begun c before);
          }
          | inr along ↦ along
        ]

      pub runs_names : RunsNames g (length core.space.free) graph lines said counts cause ending core.disk new.disk
      runs_names = record {
        last = last;
        run = names_run g went.3;
        stopped = λ moment is. stays_at mid.stop refl moment (sym front.stopped ∙ is);
        stop = stop_told_by ending told.failed (not told.took) told.starved whole;
        objects = r.objects ∙ ap length (front_of g new settles.after settles.stands).directory ∙ length-map settles.after.graph.objects _ ∙ ap (λ (h : Graph). length h.objects) settles.graph;
        free = free_at;
        full = λ runs. let within = r.within last (serves runs) in let room = room_at runs in
            all_full (length core.space.free) (opening graph) status.free (names_run g went.3) refl (omega (arith, within, room));
        sound = λ well. let all_well = well_by ending told.failed (not told.took) told.starved (all_tell g mid new refused r.tidied) well in
            reads_rooted (g.content new.disk) last.graph (sound_now g sized left_sized new last (serves all_well.runs) (all_settled g mid new refused r.tidied all_well.refused));
        crashes = crashes;
        now = λ runs c left. reads_rooted c last.graph (sound_left g sized left_sized new last (serves runs) c left);
      }

    serves_names : ServesNames (λ graph. StandsFor g core (opening graph)) (Rose (g.faults core.disk) (g.faults new.disk)) all sink sink_after lines said told.took counts cause ending
    serves_names = record {
      left = r.answers.left;
      answers_are = r.answers.has.answers_are;
      whole = r.answers.whole;
      counted = (refl, r.answers.has.count, refl);
      last = record { status = status; is = refl; objects = refl; free = refl; stop = (r.stopped, r.damage) };
      refusal = all_tell g mid new refused r.tidied;
      failed = failed;
      undamaged = whole;
      spoiled = spoiled;
    }

    pub core_serves : (report : Report) → report ≡ record { counts = Some counts; faults = []; cause = cause } → CoreServesNames g core all sink sink_after report ending new.disk
    core_serves report is = record {
      lines = lines;
      told = said;
      took = told.took;
      counts = counts;
      cause = cause;
      serves = serves_names;
      report_is = is;
      later = later;
      faults = told_first said refused (g.faults core.disk) (g.faults mid.disk) (g.faults new.disk) r.answers.has.faults (all_counted g mid new refused r.tidied);
      on = runs_names;
    }
