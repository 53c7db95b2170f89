use Rattle.std.proofs.Common.{rules, ◌∙◌, inl, subst, sym}
use Rattle.cfs_serve.proofs.Cited.{TakesLine}
use Rattle.ufs_model.specs.declared.asked.Event.TheVariants as events
use Rattle.cfs_serve.proofs.Sessions.{turned_unread}
use Rattle.cfs_serve.proofs.machine.port_turn.Goals as goal

pub returns-in-Some-Not-clause-moves : goal.returns-in-Some-Not-clause-moves
returns-in-Some-Not-clause-moves g c = record {
  event = events.Unread c.args.session c.in-Some-Not.why;
  recorded = c.unread.ensures.events;
  room = c.unread.ensures.room;
  others = λ k apart. apart;
  kind = inl (turned_unread c.args.session c.args.port.now c.next_request.new.self c.tell.new.self c.in-Some-Not.why
      (search rules) (sym c.has_failed.ensures ∙ c.if-has_failed.false)
      (subst (λ heard. TakesLine c.args.port.now c.next_request.new.self heard) c.in-Some-Not.field-0-is c.in-Some-Not.ensures.taken) c.tell.ensures);
}
