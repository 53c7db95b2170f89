use Rattle.cyl_map.proofs.Narrow.{narrow_read}
use Rattle.cyl_map.proofs.laws.narrow_entries_are_read.Goals as goal

pub returns : goal.returns
returns c = narrow_read
