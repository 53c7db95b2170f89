use Rattle.name_dirs.proofs.Altering.{creates_table}
use Rattle.name_dirs.proofs.Heard.{index_is}
use Rattle.name_dirs.proofs.changing.create_table.Goals as goal

pub returns-clause-went : goal.returns-clause-went
returns-clause-went g c = λ s i stands runs at within.
    rw c.id.ensures (creates_table g.A.Asker c.args.who c.args.asker.now c.ask.new.self s c.args.index runs i 0 (index_is _ i at) within c.ask.result (c.ask.ensures.asked, c.ask.ensures.event s stands, c.ask.ensures.exact s stands))
