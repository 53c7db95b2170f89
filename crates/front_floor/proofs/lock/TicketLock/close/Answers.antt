use Rattle.std.proofs.Common.{rules, ◌≡◌, ◌∙◌, ◌∷◌, ◌++◌, [], ap, option_to_list}
use Rattle.std.proofs.lemmas.List.Elements.{All-pop}
use Rattle.front_floor.specs.Knows.{HandleKnows}
use Rattle.front_floor.proofs.Deals.{all_heard, took}
use Rattle.front_floor.proofs.lock.TicketLock.close.Goals as goal

pub loop-handle-preserved : goal.loop-handle-preserved
loop-handle-preserved g c =
    let now = c.loop-handle.invariant in
    let seat = c.into_seat.ensures in
    let out = c.pop.new.self.items in
    let items : c.loop-handle.out.items ≡ out ++ c.in-Some.handle ∷ [] = c.pop.ensures.items ∙ ap (λ o. out ++ option_to_list o) c.in-Some.is in
    let next = took c.loop-handle.keeper.me c.take_in.new.keeper.me c.into_seat.result.me c.in-Some.handle.left c.in-Some.handle c.loop-handle.out.items out _ c.take_in.ensures.taken now.idle seat.handle seat.heard items now.parts now.told in
    record {
      table = record { same = c.take_in.ensures.table ∙ now.table.same; words = now.table.words; slots = now.table.slots };
      idle = next.0;
      parts = next.1;
      told = next.2;
      of = (All-pop (λ (p : HandleKnows g.row.M-Entry.Denot). p.table ≡ c.self.inside.rows.shared.table_id) c.loop-handle.out.items out c.pop.result c.pop.ensures.items now.of).0;
    }

pub returns : goal.returns
returns g c =
    let none : c.loop-handle.out.items ≡ [] = (search rules) in
    record { fits = all_heard (g.M.Logged.log c.finish.result) c.loop-handle.keeper.me.0.told c.loop-handle.out.items c.args.handles.handles none c.loop-handle.invariant.told c.finish.ensures.told }
