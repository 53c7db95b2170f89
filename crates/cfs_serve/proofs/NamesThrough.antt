-- What is said of lines of names on a volume that is served through a cache is so of the disk below it.
use Rattle.std.proofs.Common.{inl, inr, ℕ, List, ap}
use Rattle.cfs_serve.proofs.Cited.{Cache, Cause, Ending, Ghosts, Graph, Ground, Intake, IsSoundAs, Places, Report, Supply}
use Rattle.cfs_serve.proofs.Through.{cached, since_try, untouched}
use Rattle.cfs_serve.specs.Named.{HasServedNames, RunsNames}
use Rattle.cfs_serve.specs.Names.{DoesNames, OpensVolume}
use Rattle.cfs_serve.specs.declared.report.Counts.{Counts}
use Rattle.name_lines.specs.declared.answer.Answer.{Answer}

module _ {D : Type 0} (g : Ghosts D) where
  opens : (told : Report) (old opened new : Cache D) → OpensVolume (cached g) told old opened new → OpensVolume g told old.lower opened.lower new.lower
  opens told old opened new is = record {
    later = is.later;
    rises = is.rises;
    opening = λ honest graph sound. elim (is.opening honest graph sound) [
      | inl same ↦ inl (ap (λ (c : Cache D). c.lower) same)
      | inr since ↦ inr (since_try g old opened (λ c. IsSoundAs c graph) since)
    ];
    unserved = λ none. ap (λ (c : Cache D). c.lower) (is.unserved none);
    untouched = λ honest none fault told. untouched g old new (is.untouched honest none fault told);
    unsound = λ honest not. untouched g old new (is.unsound honest not);
    unread = λ none told. ap (λ (c : Cache D). c.lower) (is.unread none told);
  }

  runs : (cylinders : ℕ) (graph : Graph) (lines : List (List ℕ)) (told : List Answer) (counts : Counts) (cause : Cause) (ending : Ending) (opened new : Cache D)
      → RunsNames (cached g) cylinders graph lines told counts cause ending opened new → RunsNames g cylinders graph lines told counts cause ending opened.lower new.lower
  runs cylinders graph lines told counts cause ending opened new is = record {
    last = is.last;
    run = is.run;
    stopped = is.stopped;
    stop = is.stop;
    objects = is.objects;
    free = is.free;
    full = is.full;
    sound = is.sound;
    crashes = is.crashes;
    now = is.now;
  }

  served : (ground : Ground) (rose : Type 0) (sources : List Supply) (sinks sinks_after : List Intake) (report : Report) (ending : Ending) (opened new : Cache D)
      → HasServedNames (cached g) ground rose sources sinks sinks_after report ending opened new → HasServedNames g ground rose sources sinks sinks_after report ending opened.lower new.lower
  served ground rose sources sinks sinks_after report ending opened new is = record {
    lines = is.lines;
    told = is.told;
    counts = is.counts;
    cause = is.cause;
    served = is.served;
    faults = is.faults;
    on = λ graph reads. runs ground.cylinders graph is.lines is.told is.counts is.cause ending opened new (is.on graph reads);
  }

  pub names_through : (ground : Ground) (places places_after : Places) (told : Report) (ending : Ending) (old new : Cache D)
      → DoesNames (cached g) ground places places_after told ending old new → DoesNames g ground places places_after told ending old.lower new.lower
  names_through ground places places_after told ending old new is = record {
    opened = is.opened.lower;
    opens = opens told old is.opened new is.opens;
    run = elim is.run [
      | inl run ↦ inl (served ground _ places.sources places.sinks places_after.sinks told ending is.opened new run)
      | inr none ↦ inr none
    ];
  }
