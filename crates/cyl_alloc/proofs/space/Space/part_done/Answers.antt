use Rattle.std.proofs.Common.{◌≡◌, ◌∙◌, ◌*◌, true, false, length, Option, sym, subst}
use Rattle.cyl_alloc.specs.Left.{LeftCommit, LiesOnDisk}
use Rattle.cyl_alloc.specs.Counts.{AreFreeCounts}
use Rattle.cyl_alloc.specs.declared.space.Space.TheInside.{Inside}
use Rattle.cyl_alloc.proofs.Lefts.{still_near}
use Rattle.cyl_alloc.proofs.space.Space.part_done.Goals as goal
use Rattle.cyl_alloc.proofs.space.Space.part_done.Goals.{in-Some, in-None}

pub invariant_of-self-else-is_over : goal.invariant_of-self-else-is_over
invariant_of-self-else-is_over c = elim c.match-self.branch [
  | in-Some w ↦
      let size = 64 * length c.self.inside.counts in
      subst (λ (x : Inside). AreFreeCounts x.counts × LiesOnDisk (64 * length x.counts) x.unfinished) (sym w.self-inside-is) (
        c.self.invariant.0,
        subst (λ (l : Option LeftCommit). LiesOnDisk size l) (w.go_on-is_over.ensures.goes (sym w.is_over-is ∙ c.if-is_over.false))
            (still_near size w.in-Some.commit (subst (λ (l : Option LeftCommit). LiesOnDisk size l) w.in-Some.is c.self.invariant.1)),
      )
  | in-None w ↦ (let no : true ≡ false = sym w.is_over-is ∙ c.if-is_over.false in cc)
]
