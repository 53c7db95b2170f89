use Rattle.std.proofs.Common.{refl, arith}
use Rattle.name_dirs.specs.Changing.{new_table}
use Rattle.name_dirs.proofs.Altering.{lengthens}
use Rattle.name_dirs.proofs.Heard.{file_is}
use Rattle.name_dirs.proofs.changing.lengthen.Goals as goal

pub returns-clause-went : goal.returns-clause-went
returns-clause-went g c = λ s stands runs at few.
    rw c.done.ensures (lengthens g.A.Asker c.args.who c.args.asker.now c.ask.new.self s c.args.file runs new_table (file_is _ new_table at) refl c.args.size (omega arith) few (omega arith) c.ask.result (c.ask.ensures.asked, c.ask.ensures.event s stands, c.ask.ensures.exact s stands))
