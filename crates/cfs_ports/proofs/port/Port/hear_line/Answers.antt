use Rattle.std.proofs.Common.{rules, ◌∷◌, ap, refl, sym, ◌∙◌}
use Rattle.cfs_ports.proofs.LineLemmas.{one_line}
use Rattle.cfs_ports.proofs.port.Port.hear_line.Goals as goal

pub returns-clause-heard : goal.returns-clause-heard
returns-clause-heard g c =
    let line = c.in_ok-next.next.line.now in
    let over = rw (← c.self.view_is) at c.requires.over in
    rw (← c.self.view_is) (record {
      line = line;
      taken = c.in_ok-next.ensures.line ∙ ap (λ xs. line ∷ xs) (one_line c.args.line.now line _ c.requires.within c.in_ok-next.ensures.line ∙ sym over);
      hears = search rules;
      names = search rules;
      room = search rules;
      sink = refl;
      failed = refl;
      stays = refl;
    })
