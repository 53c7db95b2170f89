use Rattle.std.proofs.Common.{◌≡◌, ◌∙◌, ◌+◌, ◌*◌, ℕ, List, length, get_or, ap, subst, arith, below_more, length-set}
use Rattle.cyl_alloc.proofs.Words.{Image, IsGoodMap, free_in_cylinder, get_or-set_other, get_or-set_same, reads_then, tells_on}
use Rattle.cyl_alloc.proofs.space.Space.counted.Goals as goal

pub loop-cylinder-preserved : goal.loop-cylinder-preserved
loop-cylinder-preserved g c =
    let before = c.loop-cylinder.invariant in
    let at = c.loop-cylinder.cylinder in
    let image = g.D.Disk.content c.args.disk.now in
    let put = c.put.ensures.put in
    record {
      reads = reads_then g.D.Disk c.args.disk.now c.loop-cylinder.disk c.count_free.new.disk at 1 (at + 1) before.reads c.count_free.ensures.reads (omega arith);
      kept = c.put.ensures.kept;
      size = ap length put ∙ length-set c.loop-cylinder.counts at _ ∙ before.size;
      counts = λ tells. below_more (λ (j : ℕ). get_or c.put.new.self j 0 ≡ free_in_cylinder image j) at
          (λ j less. ap (λ (l : List ℕ). get_or l j 0) put ∙ get_or-set_other c.loop-cylinder.counts at j _ 0 (λ (e : j ≡ at). absurd (omega arith)) ∙ before.counts tells j less)
          (ap (λ (l : List ℕ). get_or l at 0) put
          ∙ get_or-set_same c.loop-cylinder.counts at _ 0 (omega (arith, before.size, c.loop-cylinder-test.true))
          ∙ c.in_ok-count_free.ensures.counted (tells_on g.D.Disk c.args.disk.now c.loop-cylinder.disk c.loop-cylinder.disk at before.reads tells)
          ∙ ap (λ (i : Image). free_in_cylinder i at) before.reads.content);
      whole = λ tells. below_more (λ (j : ℕ). IsGoodMap image (64 * j)) at (before.whole tells)
          (subst (λ (i : Image). IsGoodMap i (64 * at)) before.reads.content (c.in_ok-count_free.ensures.whole (tells_on g.D.Disk c.args.disk.now c.loop-cylinder.disk c.loop-cylinder.disk at before.reads tells)));
    }
