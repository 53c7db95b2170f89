use Rattle.cfs_recover.proofs.NoFault.{sound_no_fault}
use Rattle.cfs_recover.proofs.laws.sound_without_fault.Goals as goal

pub returns : goal.returns
returns c = λ image g code block sound. sound_no_fault image g sound code block
