use Rattle.std.proofs.Common.{◌≡◌, List, ℕ, sym, ◌∙◌, ap, subst, rules}
use Rattle.ufs_model.proofs.Words.{insert, numbers_rise, with_number}
use Rattle.ufs_model.proofs.Rising.{with_number-rises}
use Rattle.ufs_model.proofs.numbers.Numbers.add.Goals as goal

pub invariant_of-self : goal.invariant_of-self
invariant_of-self c =
    let old = c.self.inside.numbers.items in
    let n = c.args.number in
    let place : with_number n old ≡ insert old c.in-Some.at n = subst (λ (ns : List ℕ). with_number n ns ≡ insert ns c.in-Some.at n) (sym c.self.view_is) c.in-Some.ensures.place in
    let is : c.insert.new.self.items ≡ insert old c.in-Some.at n = search rules in
    ap numbers_rise (is ∙ sym place) ∙ with_number-rises n old c.self.invariant
