use Rattle.std.proofs.Common.{◌∙◌, ◌/◌, ◌%◌, ◌*◌, ◌^◌, ◌<◌, ℕ, List, Bool, ap, arith, length, set, true}
use Rattle.std.specs.Prelude.{bit_or}
use Rattle.std.proofs.lemmas.List.{get_or_default}
use Rattle.collector_marks.specs.Bits.{bits_of}
use Rattle.collector_marks.proofs.Words.{length-bits, one_set}
use Rattle.collector_marks.proofs.bits.Bits.put.Goals as goal

pub index_mut-requires : goal.index_mut-requires
index_mut-requires c = omega (arith, c.requires, ap length c.self.view_is, length-bits c.self.inside.count c.self.inside.words.items, c.self.invariant)

pub returns-clause-put : goal.returns-clause-put
returns-clause-put c =
    let below : c.args.at < c.self.inside.count = omega (arith, c.requires, ap length c.self.view_is, length-bits c.self.inside.count c.self.inside.words.items) in
    ap (λ (word : ℕ). bits_of c.self.inside.count (set c.self.inside.words.items (c.args.at / 64) (bit_or word (1 * 2 ^ (c.args.at % 64) % 2 ^ 64)))) (c.index_mut.ensures.value ∙ get_or_default c.self.inside.words.items (c.args.at / 64) _ 0 (omega (arith, below, c.self.invariant)))
    ∙ one_set c.self.inside.words.items c.args.at (omega (arith, below, c.self.invariant)) c.self.inside.count below
    ∙ ap (λ (bits : List Bool). set bits c.args.at true) c.self.view_is
