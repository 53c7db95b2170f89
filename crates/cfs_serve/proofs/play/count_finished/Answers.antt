use Rattle.std.proofs.Common.{ℕ, cond, ap, arith}
use Rattle.cfs_serve.proofs.Cited.{is_finish}
use Rattle.cfs_serve.proofs.Counting.{counts}
use Rattle.cfs_serve.proofs.play.count_finished.Goals as goal
use Rattle.cfs_serve.proofs.play.count_finished.Goals.{then-is_finish, else-is_finish}

pub events-preserved : goal.events-preserved
events-preserved c =
    let one = counts is_finish c.args.trail.now.events c.events.at c.event.result.now c.event.ensures in
    let before = c.events.invariant in
    elim c.if-is_finish.branch [
      | then-is_finish w ↦ let is = ap {B = ℕ} (λ b. cond b 1 0) (c.is_finish.ensures) in
          record { counted = omega (arith, one, is, w.count-is, ap {B = ℕ} (λ b. cond b 1 0) w.if-is_finish.true, before.counted); room = omega (arith, w.count-is, before.room) }
      | else-is_finish w ↦ let is = ap {B = ℕ} (λ b. cond b 1 0) (c.is_finish.ensures) in
          record { counted = omega (arith, one, is, w.count-is, ap {B = ℕ} (λ b. cond b 1 0) w.if-is_finish.false, before.counted); room = omega (arith, w.count-is, before.room) }
    ]
