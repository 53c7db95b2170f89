use Rattle.std.proofs.Common.{◌≡◌, take}
use Rattle.std.specs.Prelude.{reverse}
use Rattle.collector_marks.specs.Kept.{place_among}
use Rattle.collector_marks.proofs.marks.place_in.Given as goal

-- as far as the entries were gone over
abbrev pub invariant-loop-at : goal.invariant-loop-at
invariant-loop-at l = l.place ≡ place_among (reverse (take l.at l.grey)) l.id
