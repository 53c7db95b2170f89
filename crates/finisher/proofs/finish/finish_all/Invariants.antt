use Rattle.std.proofs.Common.{◌≡◌, ◌*◌, true, false, length, Ok, None}
use Rattle.std.specs.Prelude.{IsSome}
use Rattle.cfs_base.specs.Run.{IsSettled, Tells}
use Rattle.cyl_alloc.specs.Left.{parts_left}
use Rattle.finisher.proofs.Calls.{HasMade}
use Rattle.finisher.specs.Going.{Goes}
use Rattle.finisher.specs.Runs.{Spends}
use Rattle.finisher.proofs.finish.finish_all.Given as goal

abbrev pub invariant-parts : goal.invariant-parts
invariant-parts g l = record {
  goes : Goes g.D.Disk l.fn.disk l.disk l.fn.space l.space (Ok tt);
  size : g.D.Disk.blocks l.disk ≡ 64 * length l.space.free;
  made : HasMade g.D.Disk l.tried l.fn.disk l.disk l.fn.space l.space;
  begun : l.tried ≡ false → (l.disk ≡ l.fn.disk) × (l.space ≡ l.fn.space);
  some : l.tried ≡ true → IsSome l.fn.space.left;
  settled : l.tried ≡ true → l.space.left ≡ None → Tells g.D.Disk l.fn.disk → IsSettled g.D.Disk l.disk;
  spends : Spends g.D.Disk l.fn.disk l.disk l.fn.space.left l.space.left;
}

abbrev pub decreases-parts : goal.decreases-parts
decreases-parts g l = parts_left l.space.left
