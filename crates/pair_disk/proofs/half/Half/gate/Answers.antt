use Rattle.pair_disk.proofs.half.Half.gate.Goals as goal
use Rattle.pair_disk.proofs.half.Half.gate.Goals.{in-First, in-Second}

pub returns : goal.returns
returns c = elim c.match-self.branch [ in-First w ↦ cc | in-Second w ↦ cc ]
