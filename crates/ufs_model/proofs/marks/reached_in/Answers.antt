use Rattle.std.proofs.Common.{subst, Bool}
use Rattle.ufs_model.proofs.Words.{IsSpread}
use Rattle.ufs_model.proofs.Spreading.{fewer_outside, reached_among}
use Rattle.ufs_model.proofs.marks.reached_in.Goals as goal

pub rounds-smaller : goal.rounds-smaller
rounds-smaller c =
    fewer_outside c.args.seen.now c.rounds.reached.keys c.spread.new.reached.keys
    (subst (λ (b : Bool). IsSpread c.args.seen.now c.args.seen.now c.rounds.reached.keys c.spread.new.reached.keys b) c.if-branch.true c.in_ok-spread.ensures)

pub returns : goal.returns
returns c = λ x.
    (c.in_ok-spread.ensures.sound c.rounds.invariant x, reached_among c.spread.new.reached.keys c.args.seen.now x (c.in_ok-spread.ensures.closed c.if-branch.false))
