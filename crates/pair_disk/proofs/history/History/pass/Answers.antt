use Rattle.std.proofs.Common.{inl, ◌≤◌, arith}
use Rattle.pair_disk.proofs.Words.{IsTornImage, before_later, left_pass, torn_by, call_moment, replay_later, unwritten}
use Rattle.pair_disk.proofs.history.History.pass.Goals as goal

pub invariant_of-self-clause-past : goal.invariant_of-self-clause-past
invariant_of-self-clause-past c = let h = c.args.self.now in before_later call_moment h.moment c.saturating_add-self.result h.kept.items (omega arith) h.past

pub returns-clause-state : goal.returns-clause-state
returns-clause-state c = let h = c.args.self.now in replay_later call_moment torn_by (unwritten h.first.items) h.moment c.saturating_add-self.result h.kept.items (omega arith) h.past

pub returns-clause-images : goal.returns-clause-images
returns-clause-images c =
    let h = c.args.self.now in
    let le : h.moment ≤ c.saturating_add-self.result = omega arith in
    let pass = left_pass call_moment torn_by IsTornImage (unwritten h.first.items) h.moment h.kept.items h.past c.saturating_add-self.result in
    record {
      later = le;
      since = λ t i early left. inl (pass t t i le (omega arith) early left);
      now = λ i left. inl (pass h.moment c.saturating_add-self.result i le le (omega arith) left);
    }
