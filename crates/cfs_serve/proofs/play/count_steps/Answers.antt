use Rattle.std.proofs.Common.{◌≤◌, ◌*◌, arith, le_of_lt, mul-le-mul}
use Rattle.cfs_serve.proofs.play.count_steps.Goals as goal

-- no more than 1,000 times the most
pub overflow_mul-result : goal.overflow_mul-result
overflow_mul-result c =
    let few : c.from.result ≤ 1000 = omega (arith, c.requires.most) in
    let most : c.from.result * c.args.each ≤ 1000 * 140737488355328 = mul-le-mul few (le_of_lt c.requires.small) in
    omega (arith, most)

pub overflow_add-result : goal.overflow_add-result
overflow_add-result c =
    let few : c.from.result ≤ 1000 = omega (arith, c.requires.most) in
    let most : c.from.result * c.args.each ≤ 1000 * 140737488355328 = mul-le-mul few (le_of_lt c.requires.small) in
    omega (arith, most, c.requires.few)

pub overflow_add-result-2 : goal.overflow_add-result-2
overflow_add-result-2 c =
    let few : c.from.result ≤ 1000 = omega (arith, c.requires.most) in
    let most : c.from.result * c.args.each ≤ 1000 * 140737488355328 = mul-le-mul few (le_of_lt c.requires.small) in
    omega (arith, most, c.requires.few)

pub returns-clause-small : goal.returns-clause-small
returns-clause-small c =
    let few : c.from.result ≤ 1000 = omega (arith, c.requires.most) in
    let most : c.from.result * c.args.each ≤ 1000 * 140737488355328 = mul-le-mul few (le_of_lt c.requires.small) in
    omega (arith, most, c.requires.few)
