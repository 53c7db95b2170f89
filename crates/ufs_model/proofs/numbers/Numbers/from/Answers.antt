use Rattle.std.proofs.Common.{◌≡◌, rules}
use Rattle.ufs_model.proofs.Words.{filter, nat_le}
use Rattle.ufs_model.proofs.Rising.{filter-rises}
use Rattle.ufs_model.proofs.numbers.Numbers.from.Goals as goal

pub invariant_of-result : goal.invariant_of-result
invariant_of-result c =
    let is : c.in_ok-collect.field-0.items ≡ filter (λ n. nat_le c.args.limit n) c.self.inside.numbers.items = search rules in
    rw is (filter-rises (λ n. nat_le c.args.limit n) c.self.inside.numbers.items c.self.invariant)
