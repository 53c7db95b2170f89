use Rattle.std.proofs.Common.{◌++◌, ◌∙◌, ap, map, sym, arith}
use Rattle.cfs_serve.proofs.Cited.{reverse}
use Rattle.cfs_serve.proofs.Lists.{one_moved}
use Rattle.cfs_serve.proofs.clients.unstack.Goals as goal

pub ports-preserved : goal.ports-preserved
ports-preserved g c =
    let before = c.ports.invariant in
    let sinks = c.ports.sinks.items in
    let rest = c.take_last-port.new.self.items in
    record {
      room = omega (arith, before.room, c.take_last-port.ensures.len, c.push_reserved.ensures.len, c.push_reserved.ensures.capacity);
      capacity = c.push_reserved.ensures.capacity ∙ before.capacity;
      moved = ap (λ l. map g.K.Sink.intake l ++ map (λ p. p.sink) (reverse rest)) c.push_reserved.ensures.items
          ∙ one_moved g.K.Sink.intake (λ p. p.sink) sinks rest c.into_sink.result c.take_last-port.result c.into_sink.ensures
          ∙ ap (λ l. map g.K.Sink.intake sinks ++ map (λ p. p.sink) (reverse l)) (sym c.take_last-port.ensures.items)
          ∙ before.moved;
    }
