use Rattle.std.proofs.Common.{◌<◌, sym, subst}
use Rattle.cfs_serve.specs.Talking.{Talking, work_of}
use Rattle.cfs_serve.proofs.Pacing.{kept_turn, made_turn}
use Rattle.cfs_serve.proofs.talk.Talk.turn.Goals as goal

pub invariant_of-self : goal.invariant_of-self
invariant_of-self g c =
    let v = g.A.Server in
    let h = c.self.inside in
    let old : Talking g.row.A.Denot = record { logged = h.logged; port = h.port; pace = h.pace; refused = h.refused; lines = h.lines } in
    let did = c.turn-progress.ensures in
    let some : 0 < work_of v old = subst (λ x. 0 < work_of v x) (sym c.self.view_is) c.requires in
    rw (c.after-self-inside.ensures, c.refusal_of-self-inside.ensures)
    (kept_turn v g.J.Charter.charter old c.turn-progress.new.self c.turn-progress.result c.self.invariant some did.steps did.called did.idle did.spends did.tidied did.settled did.raised did.refusal did.quiet did.wanting did.counts)

pub returns-clause-made : goal.returns-clause-made
returns-clause-made g c =
    let v = g.A.Server in
    let h = c.self.inside in
    let old : Talking g.row.A.Denot = record { logged = h.logged; port = h.port; pace = h.pace; refused = h.refused; lines = h.lines } in
    let did = c.turn-progress.ensures in
    let some : 0 < work_of v old = subst (λ x. 0 < work_of v x) (sym c.self.view_is) c.requires in
    rw (← c.self.view_is, c.after-self-inside.ensures, c.refusal_of-self-inside.ensures)
    (made_turn v g.J.Charter.charter old c.turn-progress.new.self c.turn-progress.result c.self.invariant some did.steps did.called did.idle did.spends did.tidied did.settled)
