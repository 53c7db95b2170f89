use Rattle.std.proofs.Common.{◌∙◌, ◌/◌, ◌%◌, ◌^◌, ◌<◌, ◌==◌, List, Bool, ℕ, ap, arith, bit_and, false, get_or, length, sym}
use Rattle.std.proofs.lemmas.List.{get_or_default}
use Rattle.std.proofs.lemmas.Nat.Bits.{shr_and_one}
use Rattle.collector_marks.proofs.Words.{bit_there, length-bits}
use Rattle.collector_marks.proofs.bits.Bits.is_set.Goals as goal

pub index-requires : goal.index-requires
index-requires c = omega (arith, c.requires, ap length c.self.view_is, length-bits c.self.inside.count c.self.inside.words.items, c.self.invariant)

pub returns : goal.returns
returns c =
    let below : c.args.at < c.self.inside.count = omega (arith, c.requires, ap length c.self.view_is, length-bits c.self.inside.count c.self.inside.words.items) in
    ap (λ (word : ℕ). bit_and (word / 2 ^ (c.args.at % 64)) 1 == 1) (c.index.ensures ∙ get_or_default c.self.inside.words.items (c.args.at / 64) _ 0 (omega (arith, below, c.self.invariant)))
    ∙ ap (λ (bit : ℕ). bit == 1) (shr_and_one (get_or c.self.inside.words.items (c.args.at / 64) 0) (c.args.at % 64))
    ∙ sym (bit_there c.self.inside.count c.self.inside.words.items c.args.at below)
    ∙ ap (λ (bits : List Bool). get_or bits c.args.at false) c.self.view_is
