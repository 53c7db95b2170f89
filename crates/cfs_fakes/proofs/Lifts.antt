-- What a recorder's images say of the disk that holds it.
use Rattle.std.proofs.Common.{inl, inr, ⊎_elim, ℕ, IsTrue, Bool, List, refl, sym, subst, arith}
use Rattle.cfs_base.specs.Disk.{Image, LeavesOnly, Nothing, Written}
use Rattle.cfs_base.specs.Replay.{replay_keeps}
use Rattle.cfs_base.proofs.Stretches.{lifted}
use Rattle.cfs_fakes.specs.declared.kept.Call.TheVariants.{Write, Barrier}
use Rattle.cfs_fakes.specs.declared.recorder.Recorder.{Recorder}
use Rattle.cfs_fakes.specs.Replay.{zeros, after, made, made_at, IsImage}
use Rattle.cfs_fakes.specs.Recorder.{clock, left_of, state_now}
use Rattle.cfs_fakes.proofs.Images.{tried, flushed, after_content}

module _ {D : Type 0} (recorder : D → Recorder) where
  -- a call that isn't kept
  pub passes : {old new : D} {Q : Image → Type 0} → LeavesOnly clock left_of (recorder old) (recorder new) Nothing → LeavesOnly (λ d. clock (recorder d)) (λ d. left_of (recorder d)) old new Q
  passes images = lifted clock left_of recorder images (λ c none. absurd none)

  -- a write that was tried
  pub writes : {old new : D} (n : ℕ) (b : List ℕ) (done : Bool) → LeavesOnly clock left_of (recorder old) (recorder new) (λ c. IsTrue (recorder old).keeps × IsImage (after (Write n b done) (state_now (recorder old))) c)
      → LeavesOnly (λ d. clock (recorder d)) (λ d. left_of (recorder d)) old new (Written (left_of (recorder old) (clock (recorder old))) n b)
  writes {old} n b done images =
      let r = recorder old in
      lifted clock left_of recorder images (λ c p. ⊎_elim (λ was. inl (λ t le. (p.0, (clock r, le, omega arith, was)))) (λ w. inr (w.0, (p.0, (clock r, omega arith, omega arith, w.1)), w.2)) (tried (state_now r) n b done c p.1))

  -- a barrier: what it leaves is the content, which is one of the images
  pub flushes : {old new : D} → LeavesOnly clock left_of (recorder old) (recorder new) (λ c. IsTrue (recorder old).keeps × IsImage (after Barrier (state_now (recorder old))) c) → LeavesOnly (λ d. clock (recorder d)) (λ d. left_of (recorder d)) old new Nothing
  flushes {old} images =
      let r = recorder old in
      let whole = replay_keeps made_at made (λ s. IsImage s s.content) (λ kept s h. after_content kept.call s h) (zeros r.blocks) r.moment r.kept.items (λ n. 0, record { size = refl; each = λ n le. refl }) in
      lifted clock left_of recorder images (λ c p. inl (λ t le. (p.0, (clock r, le, omega arith, subst (IsImage (state_now r)) (sym (flushed (state_now r) c p.1)) whole))))
