use Rattle.vol_image.proofs.Steps.{frames_maps}
use Rattle.vol_image.proofs.laws.maps_change.Goals as goal

pub returns : goal.returns
returns c = frames_maps
