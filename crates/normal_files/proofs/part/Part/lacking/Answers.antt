use Rattle.normal_files.proofs.Words.{◌≡◌, ℕ, ◌%◌, Bool, cond, ap, sym, ◌∙◌, subst, eq-eqb, arith, get_or, ne_eqb, leaf_pointers}
use Rattle.normal_files.specs.Parts.{absent_in, lacking_to}
use Rattle.block_tree.specs.Along.{way_leaves}
use Rattle.normal_files.proofs.LackingTo.{filter_to}
use Rattle.normal_files.proofs.part.Part.lacking.Goals.{then-block-eq0, else-block-eq0}
use Rattle.normal_files.proofs.part.Part.lacking.Goals as goal

pub returns : goal.returns
returns c =
    let last : c.loop-leaf.leaf ≡ c.args.self.now.leaves.to = omega (arith, c.loop-leaf-test.false, c.loop-leaf.auto.leaf-end, c.requires) in
    record {
      count = subst (λ (m : ℕ). c.loop-leaf.count ≡ lacking_to (way_leaves c.args.self.now.way) c.args.self.now.leaves.from m) last c.loop-leaf.invariant.count;
      most = omega (arith, c.loop-leaf.invariant.most, last);
    }

pub loop-leaf-preserved : goal.loop-leaf-preserved
loop-leaf-preserved c =
    let own = way_leaves c.args.self.now.way in
    let l = c.loop-leaf.leaf in
    let more = filter_to (absent_in own) c.args.self.now.leaves.from l c.loop-leaf.auto.leaf in
    elim c.if-block-eq0.branch [
      | then-block-eq0 w ↦
          let one = ap (λ (b : Bool). cond {A = ℕ} b 1 0) (eq-eqb (get_or own (l % leaf_pointers.count) 0) 0 (sym c.block.ensures.block ∙ w.if-block-eq0.true)) in
          record { count = omega (arith, w.count-is, c.loop-leaf.invariant.count, more, one); most = omega (arith, w.count-is, c.loop-leaf.invariant.most, c.loop-leaf.auto.leaf) }
      | else-block-eq0 w ↦
          let none = ap (λ (b : Bool). cond {A = ℕ} b 1 0) (ne_eqb (get_or own (l % leaf_pointers.count) 0) 0 (λ zero. w.if-block-eq0.false (c.block.ensures.block ∙ zero))) in
          record { count = omega (arith, w.count-is, c.loop-leaf.invariant.count, more, none); most = omega (arith, w.count-is, c.loop-leaf.invariant.most, c.loop-leaf.auto.leaf) }
    ]
