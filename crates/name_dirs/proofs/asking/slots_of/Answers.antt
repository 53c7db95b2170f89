use Rattle.name_dirs.proofs.Heard.{looks_at_index}
use Rattle.name_dirs.proofs.asking.slots_of.Goals as goal

pub returns-clause-went : goal.returns-clause-went
returns-clause-went g c = λ s stands.
    rw c.number.ensures (looks_at_index g.A.Asker c.args.who c.args.asker.now c.ask.new.self s c.args.index c.ask.result c.ask.ensures.asked (c.ask.ensures.event s stands) (c.ask.ensures.exact s stands))
