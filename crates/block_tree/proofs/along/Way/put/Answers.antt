use Rattle.std.proofs.Common.{◌≡◌, inl, inr, ◌+◌, ◌<◌, ℕ, suc, get_or, get_or-set_other, get_or-set_same, length, set, refl, sym, ◌∙◌, ap, subst, arith}
use Rattle.std.proofs.Math.ListN.{length-set}
use Rattle.block_tree.proofs.Words.{IsNode, Node, Root, cases_eq, leaf_pointers, node_levels}
use Rattle.block_tree.proofs.Descents.{one_more_at, put_leads, put_way}
use Rattle.block_tree.specs.Path.{no_node}
use Rattle.block_tree.specs.Way.{with_leaf}
use Rattle.block_tree.proofs.along.Way.put.Goals as goal

pub with_leaf-requires : goal.with_leaf-requires
with_leaf-requires c = subst (λ (i : ℕ). get_or c.args.self.now.path i 0 < leaf_pointers.count) (let e : suc c.loop-depth.depth ≡ c.loop-depth.depth + 1 = omega arith in e) (c.args.self.now.good.places.rest c.loop-depth.depth)

pub with_node-requires : goal.with_node-requires
with_node-requires c = c.args.self.now.good.places.top

pub loop-depth-init : goal.loop-depth-init
loop-depth-init c = record { long = refl; one = λ d none. absurd (omega (arith, none)); put = λ d none. absurd (omega (arith, none)); after = λ d from. refl; nodes = c.args.self.now.good.each }

pub loop-depth-preserved : goal.loop-depth-preserved
loop-depth-preserved c =
    let k = c.loop-depth.depth in
    let nodes = c.loop-depth.nodes in
    let before = c.loop-depth.invariant in
    let less : k < node_levels = omega (arith, c.loop-depth-test.true) in
    let whole : length c.args.self.now.nodes ≡ node_levels = omega arith in
    let inside : k < length nodes = omega (arith, less, before.long, whole) in
    record {
      long = length-set nodes k c.with_leaf.result ∙ before.long;
      one = one_more_at c.args.self.now.nodes nodes c.args.self.now.path c.args.blocks k c.with_leaf.result inside (before.after k (omega arith)) (c.with_leaf.ensures.one (before.nodes k less)) before.one;
      put = λ d below. elim (cases_eq d k) [
        | inl is ↦
            ap (λ (j : ℕ). get_or (set nodes k c.with_leaf.result) j no_node) is ∙ get_or-set_same nodes k c.with_leaf.result no_node inside ∙ c.with_leaf.ensures.node
            ∙ ap (λ (n : Node). with_leaf n (get_or c.args.self.now.path (k + 1) 0) (get_or c.args.blocks (k + 1) 0)) (before.after k (omega arith))
            ∙ (λ i. with_leaf (get_or c.args.self.now.nodes (sym is i) no_node) (get_or c.args.self.now.path (sym is i + 1) 0) (get_or c.args.blocks (sym is i + 1) 0))
            ∙ (let e : d + 1 ≡ suc d = omega arith in ap (λ (j : ℕ). with_leaf (get_or c.args.self.now.nodes d no_node) (get_or c.args.self.now.path j 0) (get_or c.args.blocks j 0)) e)
        | inr other ↦ get_or-set_other nodes k d c.with_leaf.result no_node other ∙ before.put d (omega (arith, below, other))
      ];
      after = λ d from. get_or-set_other nodes k d c.with_leaf.result no_node (λ same. omega (arith, same, from)) ∙ before.after d (omega (arith, from));
      nodes = λ d below. elim (cases_eq d k) [
        | inl is ↦ subst IsNode (sym (ap (λ (j : ℕ). get_or (set nodes k c.with_leaf.result) j no_node) is ∙ get_or-set_same nodes k c.with_leaf.result no_node inside)) (c.with_leaf.ensures.good (before.nodes k less))
        | inr other ↦ subst IsNode (sym (get_or-set_other nodes k d c.with_leaf.result no_node other)) (before.nodes d below)
      ];
    }

pub invariant_of-self : goal.invariant_of-self
invariant_of-self c = record { good = record { places = c.args.self.now.good.places; each = c.loop-depth.invariant.nodes; most = c.args.self.now.good.most } }

pub returns-clause-root : goal.returns-clause-root
returns-clause-root c = c.with_node.ensures.root

pub returns-clause-nodes : goal.returns-clause-nodes
returns-clause-nodes c d less = c.loop-depth.invariant.put d (omega (arith, less, c.loop-depth-test.false, c.loop-depth.auto.depth-end))

pub returns-clause-leads : goal.returns-clause-leads
returns-clause-leads c a b fits is put =
    let after = c.loop-depth.invariant in
    let all : c.loop-depth.depth ≡ node_levels = omega (arith, c.loop-depth-test.false, c.loop-depth.auto.depth-end) in
    put_leads a b c.args.root.now c.with_node.result c.args.self.now (record { path = c.args.self.now.path; nodes = c.loop-depth.nodes; read = c.args.self.now.read; good = record { places = c.args.self.now.good.places; each = after.nodes; most = c.args.self.now.good.most } }) c.args.blocks
    c.args.self.now.good.each after.nodes (λ d less. after.one d (omega (arith, less, all))) put c.requires fits is (c.with_node.ensures.one fits) (omega arith) (omega arith)

pub returns-clause-way : goal.returns-clause-way
returns-clause-way c b put =
    let after = c.loop-depth.invariant in
    let all : c.loop-depth.depth ≡ node_levels = omega (arith, c.loop-depth-test.false, c.loop-depth.auto.depth-end) in
    let top = get_or c.args.self.now.path 0 0 in
    put_way b b c.args.root.now c.with_node.result c.args.self.now (record { path = c.args.self.now.path; nodes = c.loop-depth.nodes; read = c.args.self.now.read; good = record { places = c.args.self.now.good.places; each = after.nodes; most = c.args.self.now.good.most } }) c.args.blocks
    c.args.self.now.good.each after.nodes (λ d less. after.one d (omega (arith, less, all))) put c.requires
    (ap (λ (r : Root). get_or r.nodes top 0) c.with_node.ensures.root ∙ get_or-set_same c.args.root.now.nodes top (get_or c.args.blocks 0 0) 0 (omega (arith, c.args.self.now.good.places.top))) refl refl
