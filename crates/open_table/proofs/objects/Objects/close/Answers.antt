use Rattle.open_table.proofs.Keys.{same_key-is}
use Rattle.open_table.proofs.objects.Objects.close.Goals as goal

pub returns-clause-modes : goal.returns-clause-modes
returns-clause-modes c = λ q. rw (← same_key-is q c.args.id) (c.remove.ensures.updates.0 (q.block, q.word))
