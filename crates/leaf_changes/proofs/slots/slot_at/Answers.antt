use Rattle.std.proofs.Common.{◌≡◌, ℕ, ◌+◌, ◌*◌, ◌/◌, ◌%◌, ◌^◌, ◌&&◌, ◌==◌, false, not, List, inl, inr, refl, sym, ◌∙◌, arith}
use Rattle.std.specs.Bool.{then_some}
use Rattle.leaf_changes.proofs.Words.{Puid, and_parts, cases_eq, eqb-true, false_from_ne_true, number_at, slot_in}
use Rattle.leaf_changes.proofs.SlotBytes.{slot_halves}
use Rattle.leaf_changes.proofs.slots.slot_at.Goals as goal

slot_is : (bytes : List ℕ) (s n : ℕ) (id : Puid) → number_at bytes (2 * s) ≡ id.block → number_at bytes (2 * s + 1) ≡ id.word
    → id.block ≡ n / 2 ^ 32 → id.word ≡ n % 2 ^ 32 → then_some (not (n == 0)) id ≡ slot_in bytes s
slot_is bytes s n id one two high low = elim (cases_eq n 0) [
  | inl zero ↦
      let no_block : id.block ≡ 0 = omega (arith, high, zero) in
      let no_word : id.word ≡ 0 = omega (arith, low, zero) in
      rw (one, two, no_block, no_word, zero) refl
  | inr other ↦
      let some : (n == 0) ≡ false = false_from_ne_true _ (λ h. other (eqb-true n 0 h)) in
      let no : ((id.block == 0) && (id.word == 0)) ≡ false = false_from_ne_true _ (λ h.
      let both = and_parts (id.block == 0) (id.word == 0) h in
      let b = eqb-true id.block 0 both.0 in
      let w = eqb-true id.word 0 both.1 in
      other (omega (arith, high, low, b, w))) in
      rw (one, two, some, no) refl
]

pub returns : goal.returns
returns c =
    let halves = slot_halves c.args.block.now c.args.slot c.u64_at-number.result (omega arith) c.u64_at-number.ensures.spelled in
    c.then_some.ensures ∙ slot_is c.args.block.now c.args.slot c.u64_at-number.result c.of.result (halves.0 ∙ sym c.of.ensures.block) (halves.1 ∙ sym c.of.ensures.word) c.of.ensures.block c.of.ensures.word
