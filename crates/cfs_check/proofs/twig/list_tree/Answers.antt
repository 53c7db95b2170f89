use Rattle.std.proofs.Common.{◌≡◌, ◌*◌, ◌++◌, ◌∷◌, [], ℕ, List, length, sym, ◌∙◌, ap, arith}
use Rattle.block_tree.proofs.Spellings.{nodes_of}
use Rattle.block_tree.specs.Pointers.{leaf_pointers, node_pointers, pointers_of}
use Rattle.cfs_check.specs.Twigs.{extent_of, rows}
use Rattle.cfs_check.proofs.twig.list_tree.Goals as goal

pub returns : goal.returns
returns c is =
    let nodes = nodes_of c.args.root.now is.good.0 ∙ ap (pointers_of node_pointers) (sym is.spelled) in
    let first : 0 * length c.args.root.now.nodes ≡ 0 = omega arith in
    c.in_ok-list_below.ensures
    ∙ (λ i. c.args.twigs.now.items ++ rows c.args.image.now (record { owner = c.args.owner; extent = extent_of c.args.root.now }) (leaf_pointers ∷ []) c.args.from (first i) (nodes i))
