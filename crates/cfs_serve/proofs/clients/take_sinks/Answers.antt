use Rattle.std.proofs.Common.{◌∙◌, ap, map}
use Rattle.cfs_serve.proofs.Cited.{reverse, reverse-reverse}
use Rattle.cfs_serve.proofs.clients.take_sinks.Goals as goal

pub returns : goal.returns
returns g c =
    (rw c.requires.empty at c.unstack.ensures.sinks)
    ∙ ap (λ l. map (λ p. p.sink) (reverse l)) c.reverse.ensures.items ∙ ap (λ l. map (λ p. p.sink) l) (reverse-reverse c.args.ports.items)
