use Rattle.std.proofs.Common.{rules, ◌≡◌, ◌∷◌, ℕ, List, ap, refl, subst, drop, take, length, arith, ◌-◌, ◌∙◌}
use Rattle.std.proofs.lemmas.List.{drop-drop, take_all, length-drop}
use Rattle.ufs_model.specs.Script.{request_lines}
use Rattle.cfs_ports.proofs.port.Port.next_request.Goals as goal

pub returns-clause-taken : goal.returns-clause-taken
returns-clause-taken g c =
    rw (← c.self.view_is) (record {
      line = c.in_ok-next.next.line.now;
      taken =
          let text = c.self.inside.script.items in
          let line = c.in_ok-next.next.line.now in
          let at = c.self.inside.at in
          let items = c.deref.result.now in
          let rest : take (length items - at) (drop at items) ≡ drop at text = take_all (length items - at) (drop at items) (omega (arith, length-drop at items)) ∙ ap (λ xs. drop at xs) c.deref.ensures.value in
          let lines : request_lines (drop at text) ≡ line ∷ request_lines (drop c.in_ok-next.next.taken (drop at text)) =
          subst (λ (w : List ℕ). request_lines w ≡ line ∷ request_lines (drop c.in_ok-next.next.taken w)) rest c.in_ok-next.ensures.line in
          lines ∙ ap (λ xs. c.in_ok-next.next.line.now ∷ request_lines xs) (drop-drop c.in_ok-next.next.taken c.self.inside.at text);
      hears = search rules;
      names = search rules;
      room = search rules;
      sink = refl;
      failed = refl;
      stays = refl;
    })
