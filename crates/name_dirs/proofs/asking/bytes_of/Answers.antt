use Rattle.name_dirs.proofs.Heard.{looks_at_bytes}
use Rattle.name_dirs.proofs.asking.bytes_of.Goals as goal

pub returns-clause-went : goal.returns-clause-went
returns-clause-went g c = λ s f stands at within.
    rw c.content.ensures (looks_at_bytes g.A.Asker c.args.who c.args.asker.now c.ask.new.self s c.args.file f c.args.offset c.args.count at c.requires.few.0 c.requires.few.1 within c.ask.result c.ask.ensures.asked (c.ask.ensures.event s stands) (c.ask.ensures.exact s stands))
