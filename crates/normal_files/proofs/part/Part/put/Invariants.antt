use Rattle.normal_files.proofs.Words.{◌≡◌, ℕ, ◌*◌, ◌-◌, Kept, entry_in}
use Rattle.normal_files.specs.Parts.{IsPart}
use Rattle.normal_files.specs.Steps.{HasCome, IsAmid}
use Rattle.normal_files.specs.View.{Way}
use Rattle.normal_files.proofs.part.Part.put.Given as goal

abbrev pub invariant-loop-leaf : goal.invariant-loop-leaf
invariant-loop-leaf g l = record {
  come : HasCome g.D.Disk (2 * (l.leaf - l.self.leaves.from)) (l.leaf - l.self.leaves.from) l.tried l.initial.disk l.disk;
  size : g.D.Disk.blocks l.disk ≡ g.D.Disk.blocks l.initial.disk;
  puts : (r : ℕ) (w : Way g.D.Disk r) (kept : Kept) → IsPart (g.D.Disk.content w.start) w.root l.self → IsAmid w l.offset l.bytes l.self.leaves.from l.initial.disk kept
      → IsAmid w l.offset l.bytes l.leaf l.disk kept × ((m : ℕ) → entry_in (g.D.Disk.content l.disk) m ≡ entry_in (g.D.Disk.content l.initial.disk) m);
}
