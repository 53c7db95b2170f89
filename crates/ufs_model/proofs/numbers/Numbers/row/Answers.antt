use Rattle.std.proofs.Common.{◌≡◌, ◌+◌, ◌-◌, ◌++◌, ◌∷◌, [], ap, suc, ◌∙◌, sym, arith, rules}
use Rattle.ufs_model.proofs.Words.{numbers_rise, range_with_len}
use Rattle.ufs_model.proofs.Rising.{numbers_more, numbers-rise}
use Rattle.ufs_model.proofs.numbers.Numbers.row.Goals as goal

pub loop-number-preserved : goal.loop-number-preserved
loop-number-preserved c =
    let a = c.args.from in
    let n = c.loop-number.number in
    let pushed : c.push.new.self.items ≡ c.loop-number.row.items ++ n ∷ [] = search rules in
    let more = numbers_more a (n - a) n (omega arith) in
    let next : n + 1 - a ≡ suc (n - a) = omega arith in
    pushed ∙ ap (λ row. row ++ n ∷ []) c.loop-number.invariant ∙ sym more ∙ ap (range_with_len a) (sym next)

pub invariant_of-result : goal.invariant_of-result
invariant_of-result c = ap numbers_rise c.loop-number.invariant ∙ numbers-rise c.args.from (c.loop-number.number - c.args.from)
