use Rattle.name_dirs.proofs.Altering.{empties}
use Rattle.name_dirs.proofs.Heard.{index_is}
use Rattle.name_dirs.proofs.changing.empty.Goals as goal

pub returns-clause-went : goal.returns-clause-went
returns-clause-went g c = λ s i stands runs at within some.
    rw c.done.ensures (empties g.A.Asker c.args.who c.args.asker.now c.ask.new.self s c.args.index runs i c.args.slot (index_is _ i at) within some c.ask.result (c.ask.ensures.asked, c.ask.ensures.event s stands, c.ask.ensures.exact s stands))
