use Rattle.vol_image.proofs.Rooted.{rooted_reads}
use Rattle.vol_image.proofs.laws.rooted_part_is_read.Goals as goal

pub returns : goal.returns
returns c = rooted_reads
