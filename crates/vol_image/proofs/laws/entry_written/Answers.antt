use Rattle.vol_image.proofs.Words.{block_at-with_entry, entry_in-set, entry_in-with_entry_other, entry_in-with_entry_same}
use Rattle.vol_image.proofs.laws.entry_written.Goals as goal

pub returns-clause-here : goal.returns-clause-here
returns-clause-here c = λ image n e old was is. entry_in-with_entry_same image n e old was is

pub returns-clause-others : goal.returns-clause-others
returns-clause-others c = λ image n m e old was other. entry_in-with_entry_other image n e old m was other

pub returns-clause-blocks : goal.returns-clause-blocks
returns-clause-blocks c = λ image n m e other. block_at-with_entry image n e m other

pub returns-clause-content : goal.returns-clause-content
returns-clause-content c = λ image n m block no_map. entry_in-set image n block m no_map
