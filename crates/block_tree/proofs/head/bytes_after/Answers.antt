use Rattle.std.proofs.Common.{◌/◌, ◌∙◌, ap, arith}
use Rattle.block_tree.proofs.Bytes.{cut_more, one_fewer}
use Rattle.block_tree.proofs.head.bytes_after.Goals as goal

pub loop-most-preserved : goal.loop-most-preserved
loop-most-preserved c =
    let fewer = one_fewer c.loop-most.front c.loop-most.after c.loop-most.invariant.fits c.loop-most.invariant.within (omega arith) in
    record {
      fits = fewer.0;
      within = fewer.1;
      front_is = ap (λ n. n / 256) c.loop-most.invariant.front_is ∙ cut_more c.args.size c.loop-most.after;
      most_is = ap (λ n. n / 256) c.loop-most.invariant.most_is ∙ cut_more c.args.limit c.loop-most.after;
      above = omega arith;
    }

pub returns-clause-not_yet : goal.returns-clause-not_yet
returns-clause-not_yet c =
    let front = ap (λ n. n / 256) c.loop-most.invariant.front_is ∙ cut_more c.args.size c.loop-most.after in
    let most = ap (λ n. n / 256) c.loop-most.invariant.most_is ∙ cut_more c.args.limit c.loop-most.after in
    omega arith
