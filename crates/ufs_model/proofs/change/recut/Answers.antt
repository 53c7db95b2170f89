use Rattle.std.proofs.Common.{◌≡◌, ℕ, List, [], ◌∷◌, refl}
use Rattle.ufs_model.proofs.Words.{IfOk-weaker, cut_leaf, filter, first_level, lacking, leaves_in, nat_le, nat_lt, parents, resize_anew, shared, with_numbers}
use Rattle.ufs_model.proofs.change.recut.Goals as goal

two_levels : (size limit : ℕ) (held kept gone anew nodes : List ℕ) (fresh levels : List (List ℕ)) → limit ≡ leaves_in size → kept ≡ filter (λ n. nat_lt n limit) held
    → gone ≡ filter (λ n. nat_le limit n) held → anew ≡ cut_leaf size held → nodes ≡ shared (parents kept) (parents (with_numbers gone (lacking anew (first_level fresh))))
    → levels ≡ anew ∷ nodes ∷ [] → levels ≡ resize_anew 1 size held fresh
two_levels size limit held kept gone anew nodes fresh levels l k g a n both = rw (both, n, a, k, g, l) refl

pub returns : goal.returns
returns c =
    IfOk-weaker c.of_two.result _ _
    (λ levels. two_levels c.args.size _ c.args.held.now _ _ _ _ c.args.fresh.now levels c.leaves_in-limit.ensures c.in_ok-kept.ensures c.in_ok-gone.ensures c.in_ok-anew.ensures c.in_ok-nodes.ensures)
    c.of_two.ensures
