use Rattle.std.proofs.Common.{rules, ◌≡◌, ◌∷◌, ◌<◌, ◌^◌, [], length, sum, ap, sym, ◌∙◌, arith, Some}
use Rattle.front_floor.specs.Seats.{log_in}
use Rattle.front_floor.proofs.Deals.{opens}
use Rattle.front_floor.proofs.lock.lay.Goals as goal

pub new-requires-2 : goal.new-requires-2
new-requires-2 g c =
    let log = log_in g.M.Logged.log in
    let boxed = c.in-Ok.boxed in
    let plan = c.args.plan.now.items in
    let entries : c.events-entries.result ≡ length (log boxed) = c.events-entries.ensures ∙ ap (λ m. length (g.M.Logged.log m)) (sym c.in-Ok.ensures.ok) in
    let small : length (log boxed) < 2 ^ 64 = (search (rules, entries)) in
    let slots : c.push.new.self.items ≡ Some boxed ∷ [] = (search rules) in
    rw (slots, entries) (opens log (sum plan) plan boxed (omega arith) c.requires.sum small)
