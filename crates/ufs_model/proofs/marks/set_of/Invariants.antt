use Rattle.std.proofs.Common.{◌≡◌, take}
use Rattle.ufs_model.proofs.Words.{Puid, is_among}
use Rattle.ufs_model.proofs.marks.set_of.Given as goal

abbrev pub invariant-ids : goal.invariant-ids
invariant-ids l = (x : Puid) → is_among x l.set.keys ≡ is_among x (take l.id-index l.ids)
