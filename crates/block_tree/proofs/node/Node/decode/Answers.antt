use Rattle.std.proofs.Common.{◌∙◌, ℕ, List, ap, sym, arith}
use Rattle.block_tree.proofs.Words.{leaf_pointers, numbers_from, pointers_of, take_all}
use Rattle.block_tree.proofs.Spellings.{leaves_of}
use Rattle.block_tree.proofs.node.Node.decode.Goals as goal

pub returns-clause-spelled : goal.returns-clause-spelled
returns-clause-spelled c = sym (c.read_pointers.ensures.spelled ∙ take_all 512 c.bytes.result.now (omega arith) ∙ c.bytes.ensures.bytes)

pub returns-clause-pointers : goal.returns-clause-pointers
unfolding pointers_of
returns-clause-pointers c = c.read_pointers.ensures.read ∙ ap (λ (b : List ℕ). numbers_from b 0 leaf_pointers.count) c.bytes.ensures.bytes

pub returns-clause-only : goal.returns-clause-only
returns-clause-only c node is spelled =
    ap (λ (l : List ℕ). record { leaves = l }) (leaves_of node is ∙ ap (pointers_of leaf_pointers) (sym spelled) ∙ sym (returns-clause-pointers c))
