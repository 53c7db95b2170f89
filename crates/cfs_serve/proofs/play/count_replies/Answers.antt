use Rattle.std.proofs.Common.{ℕ, cond, ap, arith}
use Rattle.cfs_serve.proofs.Cited.{is_reply}
use Rattle.cfs_serve.proofs.Counting.{counts}
use Rattle.cfs_serve.proofs.play.count_replies.Goals as goal
use Rattle.cfs_serve.proofs.play.count_replies.Goals.{then-is_reply, else-is_reply}

pub events-preserved : goal.events-preserved
events-preserved c =
    let one = counts is_reply c.args.trail.now.events c.events.at c.event.result.now c.event.ensures in
    let before = c.events.invariant in
    elim c.if-is_reply.branch [
      | then-is_reply w ↦ let is = ap {B = ℕ} (λ b. cond b 1 0) (c.is_reply.ensures) in
          record { counted = omega (arith, one, is, w.count-is, ap {B = ℕ} (λ b. cond b 1 0) w.if-is_reply.true, before.counted); room = omega (arith, w.count-is, before.room) }
      | else-is_reply w ↦ let is = ap {B = ℕ} (λ b. cond b 1 0) (c.is_reply.ensures) in
          record { counted = omega (arith, one, is, w.count-is, ap {B = ℕ} (λ b. cond b 1 0) w.if-is_reply.false, before.counted); room = omega (arith, w.count-is, before.room) }
    ]
