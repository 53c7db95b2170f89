use Rattle.std.proofs.Common.{◌++◌, ◌∙◌, ◌≡◌, [], map, ap, refl, sym, length, arith}
use Rattle.cfs_serve.proofs.Cited.{append-nil, request_lines, reverse}
use Rattle.cfs_serve.proofs.Lists.{no_new, one_moved, one_new}
use Rattle.cfs_serve.proofs.clients.stack_ports.Goals as goal

pub clients-init : goal.clients-init
clients-init g c =
    let none : c.in-Ok.ports.items ≡ [] = c.in-Ok.ensures.items in
    record {
      count = c.requires;
      room = omega (arith, c.requires, ap length none, c.in-Ok.ensures.capacity, c.len.ensures);
      fits = omega (arith, ap length none);
      capacity = refl;
      lines = rw none (append-nil (map request_lines c.args.scripts.items));
      sinks = rw none (append-nil (map g.K.Sink.intake c.args.sinks.now.items));
      new = rw none (no_new c.args.root);
    }

pub clients-preserved : goal.clients-preserved
clients-preserved g c =
    let before = c.clients.invariant in
    let scripts = c.take_last-script.new.self.items in
    let sinks = c.take_last.new.self.items in
    let script = c.take_last-script.result in
    let sink = c.take_last.result in
    let ports = c.clients.ports.items in
    let port = c.in-Ok-into_port.port in
    let intake = g.K.Sink.intake in
    let made = c.in-Ok-into_port.ensures in
    record {
      count = omega (arith, before.count, c.take_last-script.ensures.len, c.take_last.ensures.len);
      room = omega (arith, before.room, c.take_last-script.ensures.len, c.push_reserved.ensures.len, c.push_reserved.ensures.capacity);
      fits = omega (arith, before.fits, c.take_last.ensures.len, c.take_last.ensures.capacity, c.push_reserved.ensures.len);
      capacity = c.take_last.ensures.capacity ∙ before.capacity;
      lines = ap (λ l. map request_lines scripts ++ map (λ p. p.lines) (reverse l)) c.push_reserved.ensures.items
          ∙ sym (one_moved request_lines (λ p. p.lines) scripts ports script port (sym made.lines))
          ∙ ap (λ l. map request_lines l ++ map (λ p. p.lines) (reverse ports)) (sym c.take_last-script.ensures.items) ∙ before.lines;
      sinks = ap (λ l. map intake sinks ++ map (λ p. p.sink) (reverse l)) c.push_reserved.ensures.items
          ∙ sym (one_moved intake (λ p. p.sink) sinks ports sink port (sym made.sink))
          ∙ ap (λ l. map intake l ++ map (λ p. p.sink) (reverse ports)) (sym c.take_last.ensures.items) ∙ before.sinks;
      new = rw c.push_reserved.ensures.items (one_new c.args.root ports port before.new made.new);
    }
