use Rattle.std.proofs.Common.{◌<◌, ◌≤◌, ◌+◌, ◌-◌, arith, cond, inl, subst, sym}
use Rattle.ufs_model.specs.Script.{request_lines}
use Rattle.cfs_serve.specs.Talking.{Talking}
use Rattle.cfs_serve.proofs.Pacing.{kept_event, kept_passed}
use Rattle.cfs_serve.proofs.talk.Talk.answer.Goals as goal

pub invariant_of-self : goal.invariant_of-self
invariant_of-self g c =
    let v = g.A.Server in
    let h = c.self.inside in
    let old : Talking g.row.A.Denot = record { logged = h.logged; port = h.port; pace = h.pace; refused = h.refused; lines = h.lines } in
    let did = c.answer_line-asks.ensures in
    let answers = did.answers c.if-asks.true in
    let q = c.answer_line-asks.new.port in
    let some : 0 < h.lines = subst (λ (x : Talking g.row.A.Denot). 0 < x.lines) (sym c.self.view_is) c.requires.some in
    let fewer : (h.lines - 1) + cond q.has_left 0 1 + 1 ≤ h.lines + cond h.port.has_left 0 1 = rw (answers.turned.stays_on, answers.turned.stays) (omega (arith, some)) in
    rw c.counted-self-inside.ensures
    (kept_event v g.J.Charter.charter old c.answer_line-asks.new.logged (record h.port { lines = request_lines c.args.line.now }) q (h.pace.since + 1) (h.lines - 1) answers.event c.self.invariant
    (inl answers.turned) answers.recorded answers.room fewer did.passes did.called answers.unread answers.others did.stays (did.raised c.if-asks.true))

pub invariant_of-self-else-asks : goal.invariant_of-self-else-asks
invariant_of-self-else-asks g c =
    let v = g.A.Server in
    let h = c.self.inside in
    let old : Talking g.row.A.Denot = record { logged = h.logged; port = h.port; pace = h.pace; refused = h.refused; lines = h.lines } in
    let none = c.answer_line-asks.ensures.none c.if-asks.false in
    let fewer : h.lines - 1 ≤ h.lines = omega arith in
    rw (none.1, none.2) (kept_passed v g.J.Charter.charter old (h.lines - 1) c.self.invariant fewer)
