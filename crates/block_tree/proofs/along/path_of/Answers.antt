use Rattle.std.proofs.Common.{inl, inr, ℕ, ◌+◌, ◌-◌, ◌/◌, ◌≤◌, get_or, set, get_or-set_other, get_or-set_same, sym, ◌∙◌, ap, subst, arith}
use Rattle.std.proofs.Math.ListN.{length-set}
use Rattle.block_tree.proofs.Words.{cases_eq, ext_get_or, node_levels}
use Rattle.block_tree.proofs.Descents.{goes_down, length-path, narrower, places}
use Rattle.block_tree.specs.Path.{IsPath, path_of}
use Rattle.block_tree.proofs.along.path_of.Goals as goal

pub loop-depth-preserved : goal.loop-depth-preserved
loop-depth-preserved c =
    let d = c.loop-depth.depth in
    let before = c.loop-depth.invariant in
    let few : d ≤ node_levels = omega (arith, c.loop-depth-test.true) in
    let wide = before.wide few in
    let step = goes_down c.args.leaf d c.loop-depth.rest c.loop-depth.width few before.rest wide in
    record {
      long = length-set c.loop-depth.path d (c.loop-depth.rest / c.loop-depth.width) ∙ before.long;
      done = λ i less. elim (cases_eq i d) [
        | inl is ↦ ap (λ (j : ℕ). get_or (set c.loop-depth.path d (c.loop-depth.rest / c.loop-depth.width)) j 0) is ∙ get_or-set_same c.loop-depth.path d (c.loop-depth.rest / c.loop-depth.width) 0 (omega (arith, before.long, few)) ∙ sym step.place ∙ ap (λ (j : ℕ). get_or (path_of c.args.leaf) j 0) (sym is)
        | inr other ↦ get_or-set_other c.loop-depth.path d i (c.loop-depth.rest / c.loop-depth.width) 0 other ∙ before.done i (omega (arith, less, other))
      ];
      rest = step.rest_is;
      small = step.small;
      wide = λ more. narrower (node_levels - d) (node_levels - (d + 1)) c.loop-depth.width (omega (arith, more)) wide;
    }

pub returns-clause-path : goal.returns-clause-path
returns-clause-path c = ext_get_or 0 c.loop-depth.path (path_of c.args.leaf) (c.loop-depth.invariant.long ∙ sym (length-path c.args.leaf)) (λ i less. c.loop-depth.invariant.done i (omega (arith, less, c.loop-depth.invariant.long, c.loop-depth-test.false)))

pub returns-clause-places : goal.returns-clause-places
returns-clause-places c = subst IsPath (sym (returns-clause-path c)) (places c.args.leaf c.requires)
