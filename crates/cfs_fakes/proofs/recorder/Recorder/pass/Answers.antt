use Rattle.std.proofs.Common.{inl, ◌≤◌, arith}
use Rattle.cfs_base.proofs.Replays.{before_later, replay_later, left_pass}
use Rattle.cfs_fakes.specs.Replay.{zeros, made, made_at, IsImage}
use Rattle.cfs_fakes.proofs.recorder.Recorder.pass.Goals as goal

pub invariant_of-self : goal.invariant_of-self
invariant_of-self c = let r = c.args.self.now in record { past = before_later made_at r.moment c.saturating_add-self.result r.kept.items (omega arith) r.past }

pub returns-clause-state : goal.returns-clause-state
returns-clause-state c = let r = c.args.self.now in replay_later made_at made (zeros r.blocks) r.moment c.saturating_add-self.result r.kept.items (omega arith) r.past

pub returns-clause-images : goal.returns-clause-images
returns-clause-images c =
    let r = c.args.self.now in
    let le : r.moment ≤ c.saturating_add-self.result = omega arith in
    let pass = left_pass made_at made IsImage (zeros r.blocks) r.moment r.kept.items r.past c.saturating_add-self.result in
    record {
      later = le;
      since = λ t i early h. inl (h.0, pass t t i le (omega arith) early h.1);
      now = λ i h. inl (h.0, pass r.moment c.saturating_add-self.result i le le (omega arith) h.1);
    }
