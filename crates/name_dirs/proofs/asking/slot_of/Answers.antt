use Rattle.name_dirs.proofs.Heard.{looks_at_slot}
use Rattle.name_dirs.proofs.asking.slot_of.Goals as goal

pub returns-clause-went : goal.returns-clause-went
returns-clause-went g c = λ s i stands has.
    rw c.held.ensures (looks_at_slot g.A.Asker c.args.who c.args.asker.now c.ask.new.self s c.args.index i c.args.slot has c.ask.result c.ask.ensures.asked (c.ask.ensures.event s stands) (c.ask.ensures.exact s stands))
