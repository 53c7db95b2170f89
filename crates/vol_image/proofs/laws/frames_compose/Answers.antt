use Rattle.vol_image.proofs.Steps.{frames_back, frames_fewer, frames_begin, frames_then, frames_write}
use Rattle.vol_image.proofs.laws.frames_compose.Goals as goal

pub returns-clause-begin : goal.returns-clause-begin
returns-clause-begin c = frames_begin

pub returns-clause-then : goal.returns-clause-then
returns-clause-then c = frames_then

pub returns-clause-write : goal.returns-clause-write
returns-clause-write c = frames_write

pub returns-clause-back : goal.returns-clause-back
returns-clause-back c = frames_back

pub returns-clause-fewer : goal.returns-clause-fewer
returns-clause-fewer c = frames_fewer
