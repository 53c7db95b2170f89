use Rattle.std.proofs.Common.{◌≡◌, ◌+◌, ◌≤◌, ℕ, List, Some, sym, ◌∙◌, ap, subst, arith}
use Rattle.std.specs.Prelude.{slice_get}
use Rattle.cfs_check.specs.Opened.{OpensBatch}
use Rattle.cfs_check.specs.Roots.{Found}
use Rattle.cfs_check.proofs.Opening.{opens_more}
use Rattle.cfs_check.proofs.walk.open_batch.Goals as goal

pub loop-next-preserved : goal.loop-next-preserved
loop-next-preserved c =
    let image = c.args.image.now in
    let blocks = c.args.survey.now.roots.blocks in
    let n = c.loop-next.next in
    let low : c.args.done ≤ n = omega arith in
    let at : slice_get blocks n ≡ Some c.at-block.result = ap (λ (f : Found). slice_get f.blocks n) (sym c.loop-next.invariant.roots) ∙ c.at-block.ensures.at in
    let done = c.in_ok-open_root.ensures in
    record {
      roots = done.roots ∙ c.loop-next.invariant.roots;
      opens = λ before items knows.
          let were = c.loop-next.invariant.opens before items knows in
          opens_more image before items blocks c.args.done n c.at-block.result c.loop-next.survey c.open_root.new.survey c.loop-next.twigs.items c.open_root.new.twigs.items were low at (done.known before were.its were.knows) done.lists;
      holders = done.holders c.loop-next.invariant.holders;
      first = λ same. absurd (omega (arith, same, low));
    }

pub returns-clause-opens : goal.returns-clause-opens
returns-clause-opens c before items knows =
    let last : c.loop-next.next ≡ c.count-count.result = omega (arith, c.loop-next-test.false, c.loop-next.auto.next-end, c.requires.done, c.count-count.ensures.count) in
    subst (λ (n : ℕ). OpensBatch c.args.image.now before items c.args.survey.now.roots.blocks c.args.done n c.loop-next.survey c.loop-next.twigs.items) last (c.loop-next.invariant.opens before items knows)
