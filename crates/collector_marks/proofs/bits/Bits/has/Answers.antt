use Rattle.std.proofs.Common.{◌∙◌, ◌≤◌, List, Bool, ap, arith, false, get_or, length, sym}
use Rattle.std.proofs.lemmas.Bool.{le-ltb}
use Rattle.collector_marks.proofs.Words.{bit_past, length-bits}
use Rattle.collector_marks.proofs.bits.Bits.has.Goals as goal

pub is_set-requires : goal.is_set-requires
is_set-requires c = omega (arith, c.if-at-self.true, ap length c.self.view_is, length-bits c.self.inside.count c.self.inside.words.items)

pub returns-else-at-self : goal.returns-else-at-self
returns-else-at-self c =
    let past : c.self.inside.count ≤ c.args.at = omega (arith, c.if-at-self.false) in
    le-ltb c.args.at c.self.inside.count past ∙ sym (bit_past c.self.inside.count c.self.inside.words.items c.args.at past)
    ∙ ap (λ (bits : List Bool). get_or bits c.args.at false) c.self.view_is
