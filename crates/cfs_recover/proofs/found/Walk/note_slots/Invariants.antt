use Rattle.std.proofs.Common.{◌<◌, ℕ}
use Rattle.cfs_recover.proofs.Words.{Image, Puid}
use Rattle.cfs_recover.specs.Found as spec
use Rattle.cfs_recover.proofs.found.Walk.note_slots.Given as goal

abbrev pub invariant-loop-slot : goal.invariant-loop-slot
invariant-loop-slot l = record {
  told : (image : Image) (done : ℕ) → spec.IsWalk image l.initial.self done → spec.AreNamed image l.content l.size l.leaf l.by → spec.IsWalk image l.self done;
  noted : (s : ℕ) (id : Puid) → s < l.slot → spec.IsInSlot l.content l.size l.leaf s id → spec.IsNotedIn l.self id;
  grows : spec.Grows l.initial.self l.self;
}
