use Rattle.std.proofs.Common.{◌≡◌, ℕ, ◌*◌, IsTrue, true, false, take, Ok}
use Rattle.special_files.proofs.Words.{Flips, HasTried, Undo}
use Rattle.special_files.proofs.freed.undo_listed.Given as goal

abbrev pub invariant-loop-block : goal.invariant-loop-block
invariant-loop-block g l = record {
  so_far : Flips g.D.Disk (2 * l.block-index) l.block-index Undo (take l.block-index l.blocks) l.initial.disk l.disk (Ok tt);
  told : (n : ℕ) → IsTrue (g.D.Disk.told l.initial.disk n) → IsTrue (g.D.Disk.told l.disk n);
  later : l.tried ≡ true → HasTried g.D.Disk l.initial.disk l.disk;
  first : l.tried ≡ false → l.disk ≡ l.initial.disk;
  start : l.block-index ≡ 0 → l.disk ≡ l.initial.disk;
}
