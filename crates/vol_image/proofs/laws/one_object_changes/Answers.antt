use Rattle.vol_image.proofs.Changes.{owned_is_loose, object_put}
use Rattle.vol_image.proofs.laws.one_object_changes.Goals as goal

pub returns-clause-loose : goal.returns-clause-loose
returns-clause-loose c = λ a g id was n holds at taken. owned_is_loose a g id was holds at n taken

pub returns-clause-put : goal.returns-clause-put
returns-clause-put c = object_put
