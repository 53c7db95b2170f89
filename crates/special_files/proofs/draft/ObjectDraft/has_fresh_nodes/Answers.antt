use Rattle.std.proofs.Common.{◌≡◌, ℕ, ◌<◌, true, subst, arith}
use Rattle.special_files.proofs.Words.{Drafting, is_fresh_node, nat_lt, nat_tests}
use Rattle.special_files.proofs.Levels.{counted_some}
use Rattle.special_files.proofs.draft.ObjectDraft.has_fresh_nodes.Goals as goal

some_of : (n : ℕ) → nat_lt 0 n ≡ true → 0 < n
some_of n is = grind (arith, nat_tests)

pub returns-clause-some : goal.returns-clause-some
returns-clause-some c = λ some.
    let some_set = some_of c.count.result some in
    subst (λ (w : Drafting). (n : ℕ) × (is_fresh_node w n ≡ true)) c.self.view_is (counted_some c.self.inside.nodes (omega (arith, some_set, c.count.ensures.count)))
