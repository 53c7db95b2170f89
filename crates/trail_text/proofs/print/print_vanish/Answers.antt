use Rattle.std.proofs.Common.{refl}
use Rattle.trail_text.proofs.Lines.{vanish_line}
use Rattle.trail_text.proofs.print.print_vanish.Goals as goal

pub ids-init : goal.ids-init
ids-init c =
    let first = rw c.in_ok-line.was at c.line_of.ensures.line in
    (rw first (vanish_line c.args.ids.now), refl)
