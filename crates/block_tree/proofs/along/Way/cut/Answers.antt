use Rattle.std.proofs.Common.{◌≡◌, inl, inr, ℕ, suc, ◌<◌, ◌≤◌, get_or, ◌-◌, get_or-set_other, get_or-set_same, length, set, sym, ◌∙◌, ap, subst, arith}
use Rattle.block_tree.proofs.Words.{IsNode, Node, cases_eq, cases_lt, get_or_past, leaf_pointers, node_levels}
use Rattle.block_tree.proofs.Descents.{cut_leads}
use Rattle.block_tree.specs.Path.{no_node}
use Rattle.block_tree.specs.Along.{CutsAlong}
use Rattle.block_tree.specs.Way.{CutsAt, CutsPast}
use Rattle.block_tree.proofs.along.Way.cut.Goals as goal

-- no pointer from a place on, be it past the last
all_cut : (old new : Node) (place : ℕ) → IsNode new → ((k : ℕ) → k < place → get_or new.leaves k 0 ≡ get_or old.leaves k 0) → ((k : ℕ) → place ≤ k → k < leaf_pointers.count → get_or new.leaves k 0 ≡ 0)
    → CutsAt (λ j. get_or old.leaves j 0) place (λ j. get_or new.leaves j 0)
all_cut old new place is before past = (before, λ j from. elim (cases_lt j leaf_pointers.count) [ inl inside ↦ past j from inside | inr over ↦ get_or_past new.leaves j 0 (omega (arith, over, is.count)) ])

-- the depth of the last node
abbrev lowest : ℕ
lowest = node_levels - 1

pub returns-clause-nodes : goal.returns-clause-nodes
returns-clause-nodes c d less =
    let nodes = c.loop-depth.nodes in
    let path = c.args.self.now.path in
    let old : ℕ → Node = λ e. get_or c.args.self.now.nodes e no_node in
    let new : ℕ → Node = λ e. get_or (set nodes lowest c.cut.result) e no_node in
    elim (cases_eq d lowest) as (λ _. CutsAlong path c.args.blocks c.args.place d (old d) (new d)) [
      | inl last ↦
          let inside : lowest < length nodes = omega (arith, c.loop-depth.invariant.long) in
          let good = c.cut.ensures.good (c.loop-depth.invariant.nodes lowest (omega arith)) in
          let cuts = all_cut (get_or nodes lowest no_node) c.cut.result c.args.place good c.cut.ensures.cut.before c.cut.ensures.cut.past in
          subst (λ (e : ℕ). CutsAlong path c.args.blocks c.args.place e (old e) (new e)) (sym last) (record {
            last = λ is. subst (λ (n : Node). CutsAt (λ j. get_or n.leaves j 0) c.args.place (λ j. get_or (new lowest).leaves j 0)) (c.loop-depth.invariant.after lowest (omega (arith, c.loop-depth.auto.depth-end)))
                (subst (λ (n : Node). CutsAt (λ j. get_or (get_or nodes lowest no_node).leaves j 0) c.args.place (λ j. get_or n.leaves j 0)) (sym (get_or-set_same nodes lowest c.cut.result no_node inside)) cuts);
            inner = λ deep. absurd (omega (arith, deep));
          })
      | inr other ↦ record {
        last = λ is. absurd (other (omega (arith, is)));
        inner = λ deep. subst (λ (n : Node). CutsPast (λ j. get_or (old d).leaves j 0) (get_or path (suc d) 0) (get_or c.args.blocks (suc d) 0) (λ j. get_or n.leaves j 0))
            (sym (get_or-set_other nodes lowest d c.cut.result no_node other)) (c.loop-depth.invariant.past d (omega (arith, deep, c.loop-depth-test.false)));
      }
    ]

pub returns-clause-cuts : goal.returns-clause-cuts
returns-clause-cuts c a b fits is put =
    let old = c.args.self.now in
    let nodes = set c.loop-depth.nodes lowest c.cut.result in
    let inside : lowest < length c.loop-depth.nodes = omega (arith, c.loop-depth.invariant.long) in
    let good : (d : ℕ) → d < node_levels → IsNode (get_or nodes d no_node) = λ d less. elim (cases_eq d lowest) [
      | inl last ↦ subst IsNode (sym (ap (λ (i : ℕ). get_or nodes i no_node) last ∙ get_or-set_same c.loop-depth.nodes lowest c.cut.result no_node inside)) (c.cut.ensures.good (c.loop-depth.invariant.nodes lowest (omega arith)))
      | inr other ↦ subst IsNode (sym (get_or-set_other c.loop-depth.nodes lowest d c.cut.result no_node other)) (c.loop-depth.invariant.nodes d less)
    ] in
    cut_leads a b c.args.root.now c.cut_past-2.result old (record { path = old.path; nodes = nodes; read = old.read; good = record { places = old.good.places; each = good; most = old.good.most } }) c.args.place c.args.blocks
    old.good.each good (returns-clause-nodes c) put c.requires fits (c.cut_past-2.ensures.fits fits) is c.cut_past-2.ensures.past (omega arith) (omega arith)
