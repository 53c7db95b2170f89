use Rattle.vol_image.proofs.Parts.{free_is_loose}
use Rattle.vol_image.proofs.Steps.{frames_content}
use Rattle.vol_image.proofs.Claims.{loose_entry, restated_entry, free_stands_for_none}
use Rattle.vol_image.proofs.laws.loose_blocks_change.Goals as goal

pub returns-clause-free : goal.returns-clause-free
returns-clause-free c = λ a g n e holds is free. free_is_loose a g holds n e is free

pub returns-clause-content : goal.returns-clause-content
returns-clause-content c = frames_content

pub returns-clause-entry : goal.returns-clause-entry
returns-clause-entry c = loose_entry

pub returns-clause-none : goal.returns-clause-none
returns-clause-none c = free_stands_for_none

pub returns-clause-state : goal.returns-clause-state
returns-clause-state c = restated_entry
