use Rattle.vol_image.proofs.Counts.{blocks_counted, blocks_are}
use Rattle.vol_image.proofs.Places.{one_path}
use Rattle.vol_image.proofs.laws.blocks_are_those_held.Goals as goal

pub returns-clause-levels : goal.returns-clause-levels
returns-clause-levels c = blocks_counted

pub returns-clause-blocks : goal.returns-clause-blocks
returns-clause-blocks c = blocks_are

pub returns-clause-one_path : goal.returns-clause-one_path
returns-clause-one_path c = one_path
