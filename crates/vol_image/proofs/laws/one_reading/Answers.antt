use Rattle.vol_image.proofs.Unique.{reading_is_one}
use Rattle.vol_image.proofs.laws.one_reading.Goals as goal

pub returns : goal.returns
returns c = reading_is_one
