use Rattle.std.proofs.Common.{append_assoc, arith, length, List, ℕ, ap}
use Rattle.std.proofs.lemmas.List.{take_all}
use Rattle.name_lines.proofs.Lists.{join_names}
use Rattle.name_lines.proofs.print.print_names.Goals as goal

pub returns-clause-line : goal.returns-clause-line
returns-clause-line c =
    let long = ap (λ (l : List (List ℕ)). length l) c.names.invariant.items in
    let all = take_all c.names.name-index c.args.names.now (omega arith) in
    rw (c.in_ok-extend_from_slice-4.ensures.items, c.names.invariant.written, all, join_names) (simp append_assoc)
