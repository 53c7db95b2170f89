use Rattle.std.proofs.Common.{◌<◌, set, true, false, length, sym, ◌∙◌, ap, subst, arith, Bool, List, ℕ}
use Rattle.std.proofs.lemmas.List.{get_or_read}
use Rattle.cfs_check.proofs.Listed.{listed_more}
use Rattle.cfs_check.specs.Roots.{AreFoundRoots, Found}
use Rattle.cfs_check.proofs.roots.Roots.add.Goals as goal

pub invariant_of-self-2 : goal.invariant_of-self-2
invariant_of-self-2 c =
    let has = c.self.inside.has.items in
    let below : c.args.block < length has = omega (arith, c.requires, ap (λ (f : Found). f.room) c.self.view_is) in
    let none = sym (get_or_read has c.args.block c.index.result.now below c.index.ensures false) ∙ c.if-index.false in
    subst (λ (found : List ℕ). AreFoundRoots found (set has c.args.block true)) (sym c.in_ok-push.ensures.items) (listed_more c.self.inside.found.items has c.args.block c.self.invariant below none)
