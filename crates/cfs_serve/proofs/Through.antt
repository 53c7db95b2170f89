-- What is said of a volume that is served through a cache is so of the disk below it.
use Rattle.std.proofs.Common.{inl, inr, ℕ, List, ap}
use Rattle.cfs_serve.proofs.Cited.{Cache, Ending, Event, Ghosts, Image, IsSettled, IsSoundAs, IsUntouched, Leaves, LeavesSinceTry, Report, ServesVolume, content_of, is_honest, is_telling, is_told, left_of, moment_of, tries_of}
use Rattle.cfs_core.specs.Kernel.{Kernel}
use Rattle.map_cache.specs.Cache.{blocks_of, faults_of}

-- the cache as a disk
abbrev pub cached : {D : Type 0} → Ghosts D → Ghosts (Cache D)
cached g = record {
  blocks = blocks_of g;
  honest = is_honest g;
  content = content_of g;
  told = is_told g;
  tells_images = is_telling g;
  left_since = left_of g;
  moment = moment_of g;
  calls = λ c. c.calls;
  tries = tries_of g;
  faults = faults_of g;
}

module _ {D : Type 0} (g : Ghosts D) where
  -- a core over the cache, as one over the disk below
  abbrev on_lower : Kernel (Cache D) → Kernel D
  on_lower k = record {
    disk = k.disk.lower;
    root = k.root;
    directory = k.directory;
    space = k.space;
    words = k.words;
    handles = k.handles;
    collections = k.collections;
    stop = k.stop;
  }

  leaves : (old new : Cache D) (P : Image → Type 0) → Leaves (cached g) old new P → Leaves g old.lower new.lower P
  leaves old new P is = record { later = is.later; since = is.since; now = is.now }

  pub untouched : (old new : Cache D) → IsUntouched (cached g) old new → IsUntouched g old.lower new.lower
  untouched old new is = record { content = is.content; images = leaves old new _ is.images }

  settled : (d : Cache D) → IsSettled (cached g) d → IsSettled g d.lower
  settled d is = record { tells = record { honest = is.tells.honest; told = is.tells.told }; only = is.only }

  pub since_try : (old new : Cache D) (P : Image → Type 0) → LeavesSinceTry (cached g) old new P → LeavesSinceTry g old.lower new.lower P
  since_try old new P (inl f) = inl (f.0, f.1, untouched old new f.2, f.3)
  since_try old new P (inr m) = inr (m.0.lower, settled m.0 m.1, untouched old m.0 m.2, m.3, leaves m.0 new P m.4)

  pub through : (seed : ℕ) (told : Report) (ending : Ending) (trail : List Event) (moments : List ℕ) (old new : Cache D)
      → ServesVolume (cached g) seed told ending trail moments old new → ServesVolume g seed told ending trail moments old.lower new.lower
  through seed told ending trail moments old new is = record {
    opened = is.opened.lower;
    later = is.later;
    rises = is.rises;
    rise = is.rise;
    opening = λ honest graph sound. elim (is.opening honest graph sound) [
      | inl same ↦ inl (ap (λ (c : Cache D). c.lower) same)
      | inr since ↦ inr (since_try old is.opened (λ c. IsSoundAs c graph) since)
    ];
    unserved = λ none. ap (λ (c : Cache D). c.lower) (is.unserved none);
    untouched = λ honest none fault told. untouched old new (is.untouched honest none fault told);
    unsound = λ honest not. untouched old new (is.unsound honest not);
    unread = λ none told. ap (λ (c : Cache D). c.lower) (is.unread none told);
    timed = is.timed;
    core = λ some. let core = is.core some in (
      on_lower core.0,
      ap (λ (c : Cache D). c.lower) core.1,
      record {
        told = λ status told. let so = core.2.told status told in
            record { objects = so.objects; free = so.free; stopped = so.stopped; damage = so.damage; running = so.running; called = so.called; finished = so.finished };
        stop = core.2.stop;
        front = λ graph began s legal. let front = core.2.front graph began s legal in
            record { drawn = front.drawn; directory = front.directory; grants = front.grants; stopped = front.stopped };
      },
    );
    crashes = λ some honest graph sound. let run = is.crashes some honest graph sound in
        record { count = run.count; past = run.past; rising = run.rising; each = run.each; now = run.now };
    sound = is.sound;
    faults = is.faults;
    stops = is.stops;
  }
