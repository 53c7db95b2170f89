use Rattle.name_dirs.proofs.Heard.{looks_at_file}
use Rattle.name_dirs.proofs.asking.size_of.Goals as goal

pub returns-clause-went : goal.returns-clause-went
returns-clause-went g c = λ s f stands at.
    rw c.number.ensures (looks_at_file g.A.Asker c.args.who c.args.asker.now c.ask.new.self s c.args.file f at c.ask.result c.ask.ensures.asked (c.ask.ensures.event s stands) (c.ask.ensures.exact s stands))
