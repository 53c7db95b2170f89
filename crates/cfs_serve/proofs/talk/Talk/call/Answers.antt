use Rattle.std.proofs.Common.{◌≡◌, ◌<◌, ◌∙◌, ap, false, None, subst, sym}
use Rattle.cfs_serve.specs.Talk.{most_calls}
use Rattle.cfs_serve.specs.Talking.{Talking, called_in}
use Rattle.cfs_serve.proofs.Pacing.{kept_call}
use Rattle.cfs_serve.proofs.talk.Talk.call.Goals as goal

pub invariant_of-self : goal.invariant_of-self
invariant_of-self g c =
    let v = g.A.Server in
    let h = c.self.inside in
    let old : Talking g.row.A.Denot = record { logged = h.logged; port = h.port; pace = h.pace; refused = h.refused; lines = h.lines } in
    let idle : old.pace.due ≡ false = ap (λ x. x.pace.due) c.self.view_is ∙ c.requires.idle in
    let goes : old.refused ≡ None = ap (λ x. x.refused) c.self.view_is ∙ c.requires.goes in
    let few : called_in v old < most_calls old.pace.every = subst (λ x. called_in v x < most_calls x.pace.every) (sym c.self.view_is) c.requires.few in
    rw (c.begun-self-inside.ensures, c.call.ensures.log)
    (kept_call v g.J.Charter.charter old c.call.new.self.server c.self.invariant c.call.ensures.called idle goes few c.call.ensures.stop c.call.ensures.faults)
