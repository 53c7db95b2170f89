use Rattle.open_table.proofs.Keys.{same_key-is, put-is}
use Rattle.open_table.proofs.objects.Objects.open.Goals as goal

pub returns : goal.returns
returns c = λ q.
    rw (← same_key-is q c.args.id)
    (put-is c.args.self.now.modes c.insert.new.self (c.args.id.block, c.args.id.word) c.args.mode c.insert.result (c.insert.ensures.succeeds c.requires) c.insert.ensures.updates (q.block, q.word))
