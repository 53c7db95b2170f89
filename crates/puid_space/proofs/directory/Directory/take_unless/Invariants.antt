use Rattle.std.proofs.Common.{◌≡◌, ◌+◌, ◌≤◌, vec_len, vec_capacity}
use Rattle.puid_space.proofs.Words.{Computes}
use Rattle.puid_space.proofs.Taken.{IsTaken}
use Rattle.puid_space.proofs.directory.Directory.take_unless.Given as goal

abbrev pub invariant-loop-block : goal.invariant-loop-block
invariant-loop-block g l =
    IsTaken (Computes (goal.F-post g l.fn.is_kept) l.fn.self.room) l.initial.self-inside.cells.items l.self-inside.cells.items l.self-inside.len l.block l.fn.gone.items l.gone.items
    × (vec_len l.gone + l.self-inside.len ≤ vec_capacity l.gone) × (vec_capacity l.gone ≡ vec_capacity l.fn.gone) × (vec_len l.self-inside.cells ≡ l.fn.self.room)
