use Rattle.vol_image.proofs.Law.{law_of_frames, frames_hold}
use Rattle.vol_image.proofs.laws.law_of_frames.Goals as goal

pub returns-clause-sound : goal.returns-clause-sound
returns-clause-sound c = law_of_frames

pub returns-clause-holds : goal.returns-clause-holds
returns-clause-holds c = frames_hold
