use Rattle.std.proofs.Common.{◌≡◌, Some, refl}
use Rattle.ufs_model.specs.declared.asked.Event.TheVariants as events
use Rattle.ufs_model.specs.Next.{next}
use Rattle.ufs_model.proofs.asker.PlainAsker.ask.Goals as goal

pub returns-clause-event : goal.returns-clause-event
returns-clause-event c = λ s stands.
    let asked = events.Ask c.args.who c.args.request.now c.ask.result in
    let step : next c.args.self.now.seed s asked ≡ Some c.ask.new.self.state = rw stands.0 c.ask.ensures.step in
    record {
      after = c.ask.new.self.state;
      step = step;
      standing = (refl, c.next_keeps_graphs.ensures.next c.args.self.now.seed s c.ask.new.self.state asked stands.1 c.requests_store_bytes.ensures step);
    }
