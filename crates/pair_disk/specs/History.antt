-- What a history has kept.
use Rattle.std.specs.Prelude.{ℕ, length}
use Rattle.cfs_base.specs.Disk.{Image}
use Rattle.cfs_base.specs.Replay.{Left}
use Rattle.pair_disk.specs.Replay.{TornState, unwritten, replayed_writes, IsTornImage}
use Rattle.pair_disk.specs.declared.history.History.{History}

abbrev pub history_clock : History → ℕ
history_clock h = h.moment

-- the state after the calls before moment t
abbrev pub torn_state_at : History → ℕ → TornState
torn_state_at h t = replayed_writes (unwritten h.first.items) t h.kept.items

abbrev pub torn_now : History → TornState
torn_now h = torn_state_at h h.moment

-- an image that a crash at some moment since t may leave
abbrev pub history_left : History → ℕ → Image → Type 0
history_left h t c = Left IsTornImage (torn_state_at h) h.moment t c

-- how many blocks the disk has
abbrev pub count_of : History → ℕ
count_of h = length h.first.items
