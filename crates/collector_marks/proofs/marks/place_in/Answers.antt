use Rattle.std.proofs.Common.{◌∙◌, cond, get_or, sym, take, ap, Bool, Some}
use Rattle.std.specs.Prelude.{reverse}
use Rattle.marking.specs.declared.memory.Grey.{Grey}
use Rattle.collector_marks.specs.Kept.{place_among}
use Rattle.collector_marks.proofs.Cursors.{alike, one_on}
use Rattle.collector_marks.proofs.marks.place_in.Goals as goal
use Rattle.collector_marks.proofs.marks.place_in.Goals.{then-eq, else-eq}

pub loop-at-preserved : goal.loop-at-preserved
loop-at-preserved c =
    let id = c.args.id in
    let xs = c.args.grey.now in
    let n = c.loop-at.at in
    let d : Grey = record { id = record { block = 0; word = 0 }; cursor = 0 } in
    let before = place_among (reverse (take n xs)) id in
    let more = one_on id xs n d c.loop-at-test.true in
    let same = c.eq.ensures ∙ alike id (get_or xs n d).id in
    elim c.if-eq.branch [
      | then-eq w ↦ w.place-is ∙ ap (λ (b : Bool). cond b (Some n) before) (sym w.if-eq.true ∙ same) ∙ sym more
      | else-eq w ↦ w.place-is ∙ c.loop-at.invariant ∙ ap (λ (b : Bool). cond b (Some n) before) (sym w.if-eq.false ∙ same)
          ∙ sym more
    ]
