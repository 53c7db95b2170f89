use Rattle.std.proofs.Common.{◌≡◌, rules, not}
use Rattle.ufs_model.proofs.Words.{filter, has_number}
use Rattle.ufs_model.proofs.Rising.{filter-rises}
use Rattle.ufs_model.proofs.numbers.Numbers.lacking.Goals as goal

pub invariant_of-result : goal.invariant_of-result
invariant_of-result c =
    let is : c.in_ok-collect.field-0.items ≡ filter (λ n. not (has_number n c.args.others.now)) c.self.inside.numbers.items = search rules in
    rw is (filter-rises (λ n. not (has_number n c.args.others.now)) c.self.inside.numbers.items c.self.invariant)
