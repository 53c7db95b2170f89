use Rattle.open_table.proofs.objects.Objects.reserve.Goals as goal

pub returns-clause-modes : goal.returns-clause-modes
returns-clause-modes c = λ q. c.reserve.ensures.entries.2 (q.block, q.word)
