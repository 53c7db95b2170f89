use Rattle.std.proofs.Common.{sym, ◌∙◌, arith}
use Rattle.cfs_ports.proofs.PieceLemmas.{last_piece, whole_piece}
use Rattle.cfs_ports.proofs.lines.Lines.take_piece.Goals as goal

pub returns-in-Some : goal.returns-in-Some
returns-in-Some g c =
    let here = sym c.line_end.ensures ∙ c.in-Some.is in
    rw (← c.self.view_is, c.put.ensures.items, ← c.as_slice.ensures)
    (whole_piece _ _ c.as_slice.result.now c.self.inside.at c.self.inside.end c.in-Some.end _ (omega arith) here)

pub returns-in-None : goal.returns-in-None
returns-in-None g c =
    let here = sym c.line_end.ensures ∙ c.in-None.is in
    rw (← c.self.view_is, c.put-in-None.ensures.items, ← c.as_slice.ensures)
    (last_piece _ _ c.as_slice.result.now c.self.inside.at c.self.inside.end _ (omega arith) here)
