use Rattle.std.proofs.Common.{ℕ, List, get_or, sym, ◌∙◌, ap, subst, arith}
use Rattle.cfs_recover.proofs.Words.{IsFaultOf, leaf_pointers, pointers_of}
use Rattle.cfs_recover.proofs.Objects.{block_kept, dead_end}
use Rattle.cfs_recover.proofs.Refused.{told_err}
use Rattle.cfs_recover.proofs.walk_block.walk_node.Goals as goal

pub returns-in_err-check_node-clause-told : goal.returns-in_err-check_node-clause-told
returns-in_err-check_node-clause-told g c image owner done root stored walk has more =
    let leaves = c.decode-node.ensures.pointers ∙ ap (pointers_of leaf_pointers) (c.in_ok-content.ensures.told image stored) in
    let wrong = c.in_err-check_node.ensures in
    told_err _ _ _ _ c.from_residual-in_err-check_node.ensures.1
    (subst (IsFaultOf image) (sym wrong.0) (dead_end image owner root c.args.twig has more (omega (arith, stored.size, c.requires.there)) (λ j. ap (λ (ns : List ℕ). get_or ns j 0) (sym leaves) ∙ wrong.1 j)))

pub returns-clause-told : goal.returns-clause-told
returns-clause-told g c image owner done root stored walk has more =
    let leaves = c.decode-node.ensures.pointers ∙ ap (pointers_of leaf_pointers) (c.in_ok-content.ensures.told image stored) in
    let some = c.in_ok-check_node.ensures in (
      c.hold.ensures.told image done walk (block_kept image owner root c.args.twig has (omega (arith, stored.size, c.requires.there))),
      record { leaves = leaves; leads_on = (some.0, λ none. some.1 (ap (λ (ns : List ℕ). get_or ns some.0 0) leaves ∙ none)) },
    )

pub returns-clause-leaves : goal.returns-clause-leaves
returns-clause-leaves g c image stored = c.decode-node.ensures.pointers ∙ ap (pointers_of leaf_pointers) (c.in_ok-content.ensures.told image stored)
