-- Lines of names on the volume of a disk: it is opened, and they are served, or nothing is.
use Rattle.std.proofs.Common.{◌≡◌, ◌⊎◌, inl, inr, ℕ, ◌*◌, ◌≤◌, IsTrue, List, [], ◌∷◌, length, map, set, get_or, Some, None, refl, sym, ap, ◌∙◌, subst, arith}
use Rattle.cfs_serve.proofs.Cited.{Cause, Ending, Ghosts, Graph, HaveScripts, Intake, IsLater, IsSound, IsSoundAs, IsUnservedCause, Kernel, LeavesSinceBarrier, Report, Rose, ServesVolume, StandsFor, Supply, ground_on, not_begun, opening, request_lines, untold}
use Rattle.cfs_serve.proofs.Volumes.{short_of_memory, since_try}
use Rattle.cfs_serve.specs.Named.{CoreServesNames, CoreUnserved, RunsNames, ServesNames}
use Rattle.cfs_serve.specs.Names.{DoesNames, OpensVolume}
use Rattle.cfs_serve.specs.declared.report.Cause.TheVariants as causes
use Rattle.cfs_serve.specs.declared.report.Counts.{Counts}

-- ---- one item

pub the_one : {A : Type 0} (xs : List A) (x : A) → length xs ≡ 1 → x ≡ get_or xs 0 x → xs ≡ x ∷ []
the_one [] x one is = absurd (omega (arith, one))
the_one (y ∷ []) x one is = ap (λ z. z ∷ []) (sym is)
the_one (y ∷ z ∷ xs) x one is = absurd (omega (arith, one))

pub one_set : {A B : Type 0} (f : A → B) (xs : List A) (x y : A) → xs ≡ x ∷ [] → map f (set xs 0 y) ≡ f y ∷ []
one_set f xs x y one = ap (λ l. map f (set l 0 y)) one

-- ---- how it was opened

some_none : {A : Type 0} {x : A} → Some x ≡ None → ⊥
some_none e = cc

opens_by : {D : Type 0} (g : Ghosts D) (seed : ℕ) (told : Report) (ending : Ending) (old new : D) (is : ServesVolume g seed told ending [] [] old new) → OpensVolume g told old is.opened new
opens_by g seed told ending old new is = record {
  later = is.later;
  rises = is.rises;
  opening = is.opening;
  unserved = is.unserved;
  untouched = is.untouched;
  unsound = is.unsound;
  unread = is.unread;
}

-- nothing was served, for this cause
pub does_none : {D : Type 0} (g : Ghosts D) (seed : ℕ) (ending : Ending) (old new : D) (sources sources_after : List Supply) (sinks sinks_after : List Intake) (report : Report) (cause : Cause)
    → IsUnservedCause (ground_on g old) (Rose (g.faults old) (g.faults new)) sources sources_after cause → sinks_after ≡ sinks → report ≡ untold cause → ending ≡ not_begun
    → ServesVolume g seed report ending [] [] old new
    → DoesNames g (ground_on g old) (record { disk = Some (g.faults old); sources = sources; sinks = sinks }) (record { disk = Some (g.faults new); sources = sources_after; sinks = sinks_after }) report ending old new
does_none g seed ending old new sources sources_after sinks sinks_after report cause is same told none volume = record {
  opened = volume.opened;
  opens = opens_by g seed report ending old new volume;
  run = inr (record { cause = cause; is = is; nothing = record { no_event = refl; no_end = none; untouched = same; told = told } });
}

-- ---- it was opened

module _ {D : Type 0} (g : Ghosts D) (seed : ℕ) (old new : D) (core : Kernel D) (sources sources_after : List Supply) (sinks sinks_after : List Intake) (script : List ℕ) (sink sink_after : Intake) (report : Report) (ending : Ending)
    (later : IsLater g old core.disk) (size : g.blocks old ≡ 64 * length core.space.free) (have : HaveScripts sources (script ∷ [])) (sinks_are : (sinks ≡ sink ∷ []) × (sinks_after ≡ sink_after ∷ []))
    (stands : IsTrue (g.honest old) → (graph : Graph) → IsSoundAs (g.content old) graph → StandsFor g core (opening graph))
    (images : IsTrue (g.honest old) → (graph : Graph) → IsSoundAs (g.content old) graph → LeavesSinceBarrier g old core.disk (λ c. IsSoundAs c graph))
    (whole : IsTrue (g.honest old) → IsSound (g.content old)) where
  abbrev DoesSo : Type 0
  DoesSo = DoesNames g (ground_on g old) (record { disk = Some (g.faults old); sources = sources; sinks = sinks }) (record { disk = Some (g.faults new); sources = sources_after; sinks = sinks_after }) report ending old new

  cylinders : length core.space.free ≡ (ground_on g old).cylinders
  cylinders = omega (arith, size)

  -- by what the volume may read as
  serves_on : (lines : List (List ℕ)) (is : CoreServesNames g core (request_lines script) sink sink_after report ending new)
      → ServesNames (ground_on g old).reads (Rose (g.faults old) (g.faults new)) (request_lines script) sink sink_after is.lines is.told is.took is.counts is.cause ending
  serves_on lines is = record {
    left = is.serves.left;
    answers_are = is.serves.answers_are;
    whole = is.serves.whole;
    counted = is.serves.counted;
    last = is.serves.last;
    refusal = is.serves.refusal;
    failed = λ some. let rose = is.serves.failed some in let first = later.0 in omega (arith, rose, first);
    undamaged = λ graph reads. is.serves.undamaged graph (stands reads.0 graph reads.1);
    spoiled = is.serves.spoiled;
  }

  opens : (counts : Counts) → report.counts ≡ Some counts → g.faults core.disk ≤ g.faults new → OpensVolume g report old core.disk new
  opens counts some rises = record {
    later = later;
    rises = rises;
    opening = λ honest graph sound. inr (since_try g old core.disk _ (images honest graph sound));
    unserved = λ none. absurd (some_none (sym some ∙ none));
    untouched = λ honest none. absurd (some_none (sym some ∙ none));
    unsound = λ honest not. absurd (not (whole honest));
    unread = λ none. absurd (some_none (sym some ∙ none));
  }

  does : CoreServesNames g core (request_lines script) sink sink_after report ending new → DoesSo
  does is = record {
    opened = core.disk;
    opens = opens is.counts (ap (λ (r : Report). r.counts) is.report_is) is.later;
    run = inl (record {
      lines = is.lines;
      told = is.told;
      counts = is.counts;
      cause = is.cause;
      served = record {
        script = script;
        have = have;
        sound = λ u. u.1 (whole u.0);
        sink = sink;
        sink_after = sink_after;
        sinks_are = sinks_are;
        took = is.took;
        serves = serves_on is.lines is;
        report_is = is.report_is;
      };
      faults = is.faults;
      on = λ graph reads. subst (λ n. RunsNames g n graph is.lines is.told is.counts is.cause ending core.disk new) cylinders (is.on graph (stands reads.0 graph reads.1));
    });
  }

  -- memory was wanting
  starved : CoreUnserved core sink sink_after report ending new → DoesSo
  starved is = does_none g seed ending old new sources sources_after sinks sinks_after report causes.Memory tt (sinks_are.1 ∙ ap (λ s. s ∷ []) is.untouched ∙ sym sinks_are.0) is.told is.no_end
      (subst (λ d. ServesVolume g seed report ending [] [] old d) (sym is.disk_is) (short_of_memory g old seed core later images whole report ending [] [] is.told is.no_end))

  pub does_lines : CoreServesNames g core (request_lines script) sink sink_after report ending new ⊎ CoreUnserved core sink sink_after report ending new → DoesSo
  does_lines (inl is) = does is
  does_lines (inr is) = starved is
