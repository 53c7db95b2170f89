use Rattle.std.proofs.Common.{◌≡◌, ℕ, ◌+◌, ◌-◌, ◌*◌, ◌≤◌, length, take, drop, Ok}
use Rattle.special_files.proofs.Words.{Flips}
use Rattle.intentions.specs.Runs.{runs}
use Rattle.special_files.proofs.flips.flip_all.Given as goal

abbrev pub invariant-loop-done : goal.invariant-loop-done
invariant-loop-done g l = record {
  within : l.done ≤ length l.blocks;
  so_far : (k : ℕ) × (k + runs (drop l.done l.blocks) ≡ runs l.blocks) × Flips g.D.Disk (2 * k) k l.how (take l.done l.blocks) l.initial.disk l.disk (Ok tt);
}

abbrev pub decreases-loop-done : goal.decreases-loop-done
decreases-loop-done g l = length l.blocks - l.done
