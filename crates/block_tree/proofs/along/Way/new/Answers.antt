use Rattle.std.proofs.Common.{ℕ, zero, suc, ◌<◌, ◌^◌, [], ◌∷◌, get_or, length, sym, ◌∙◌, ap, subst, arith}
use Rattle.std.proofs.lemmas.List.{length-replicate}
use Rattle.block_tree.proofs.Words.{All, All-replicate, IsNode, leaf_pointers, node_levels}
use Rattle.block_tree.specs.Path.{no_node}
use Rattle.block_tree.proofs.along.Way.new.Goals as goal

pub invariant_of-result : goal.invariant_of-result
invariant_of-result c = record {
  good = record {
    places = record { top = omega arith; rest = zero_places };
    each = all_empty;
    most = omega arith;
  };
}
  where
    zero_places : (d : ℕ) → get_or (0 ∷ 0 ∷ []) (suc d) 0 < leaf_pointers.count
    zero_places zero = omega arith
    zero_places (suc d) = omega arith

    empty : IsNode c.empty.result
    empty = record {
      count = ap (length {A = ℕ}) c.empty.ensures ∙ length-replicate {A = ℕ} leaf_pointers.count 0;
      fit = subst (All (λ n. n < 2 ^ 32)) (sym c.empty.ensures) (All-replicate (λ n. n < 2 ^ 32) leaf_pointers.count 0 (omega arith));
    }

    all_empty : (d : ℕ) → d < node_levels → IsNode (get_or (c.empty.result ∷ []) d no_node)
    all_empty zero less = empty
    all_empty (suc d) less = absurd (omega (arith, less))
