use Rattle.std.proofs.Common.{◌≡◌, ℕ, ◌*◌, ◌+◌, ◌<◌, ◌^◌, List, ◌++◌, take, drop, sym, ap, ◌∙◌, arith}
use Rattle.leaf_changes.proofs.Words.{slot_spelling, to_be_bytes, w64, with_slot}
use Rattle.leaf_changes.proofs.SlotBytes.{halves}
use Rattle.leaf_changes.proofs.slots.put_slot.Goals as goal
use Rattle.leaf_changes.proofs.slots.put_slot.Goals.{in-Some, in-None}

pub returns-clause-put : goal.returns-clause-put
unfolding with_slot
returns-clause-put c =
    let spelled : to_be_bytes w64 c.match-what.number ≡ slot_spelling c.args.what = elim c.match-what.branch [
      | in-Some w ↦
          let number = w.number-is ∙ w.number-number.ensures in
          let small : w.in-Some.id.word < 2 ^ 32 = omega arith in
          let low : w.in-Some.id.block < 2 ^ 32 = omega arith in
          ap (to_be_bytes w64) number ∙ halves w.in-Some.id.block w.in-Some.id.word low small ∙ ap slot_spelling (sym w.in-Some.is)
      | in-None w ↦ ap (to_be_bytes w64) w.number-is ∙ ap slot_spelling (sym w.in-None.is)
    ] in
    c.put_u64.ensures.put ∙ ap (λ (bytes : List ℕ). take (8 * c.args.slot) c.args.block.now ++ bytes ++ drop (8 * c.args.slot + 8) c.args.block.now) spelled
