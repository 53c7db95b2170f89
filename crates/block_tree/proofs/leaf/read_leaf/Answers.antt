use Rattle.std.proofs.Common.{◌∙◌, sym, arith}
use Rattle.block_tree.proofs.Words.{on_ok_weaker, root_spelling}
use Rattle.block_tree.proofs.Trees.{at_leaf, leaf_absent, none_past_on}
use Rattle.block_tree.proofs.leaf.read_leaf.Goals as goal

pub returns-then-pointer-eq0-clause-bytes : goal.returns-then-pointer-eq0-clause-bytes
returns-then-pointer-eq0-clause-bytes g c tells =
    c.of.ensures ∙ sym (leaf_absent (g.D.Disk.content c.args.disk.now) c.args.root.now c.args.leaf (sym (at_leaf _ _ _ _ (c.in_ok-pointer.ensures.pointer tells)) ∙ c.if-pointer-eq0.true))

pub returns-then-pointer-eq0-clause-followed : goal.returns-then-pointer-eq0-clause-followed
returns-then-pointer-eq0-clause-followed g c tells =
    none_past_on (g.D.Disk.content c.args.disk.now) (g.D.Disk.blocks c.args.disk.now) (root_spelling c.args.root.now) c.args.leaf c.in_ok-pointer.pointer.block
    (at_leaf _ _ _ _ (c.in_ok-pointer.ensures.pointer tells)) (c.in_ok-pointer.ensures.followed tells) (λ past. past.0 c.if-pointer-eq0.true)

pub returns-clause-followed : goal.returns-clause-followed
returns-clause-followed g c tells =
    on_ok_weaker c.follow_pointer.result (λ there. none_past_on (g.D.Disk.content c.args.disk.now) (g.D.Disk.blocks c.args.disk.now) (root_spelling c.args.root.now) c.args.leaf c.in_ok-pointer.pointer.block
    (at_leaf _ _ _ _ (c.in_ok-pointer.ensures.pointer tells)) (c.in_ok-pointer.ensures.followed tells) (λ past. omega (arith, there, past.1, c.pointer_to.ensures.reads.same.size))) c.follow_pointer.ensures.there
