use Rattle.std.proofs.Common.{◌≡◌, drop}
use Rattle.trail_text.proofs.Words.{rise_from}
use Rattle.trail_text.proofs.shape.rise_from.Given as goal

-- what is left decides
abbrev pub invariant-ids : goal.invariant-ids
invariant-ids l = rise_from l.fn.last l.ids ≡ rise_from l.last (drop l.id-index l.ids)
