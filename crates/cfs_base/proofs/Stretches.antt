-- Images that are left over stretches of calls, whatever the clock and the images are.
use Rattle.std.proofs.Common.{◌⊎◌, inl, inr, ⊎_elim, ℕ, ◌≤◌, arith}
use Rattle.cfs_base.specs.Disk.{Image, LeavesOnly}

module _ {D : Type 0} (moment : D → ℕ) (left : D → ℕ → Image → Type 0) where
  -- two stretches
  pub joined : (old mid new : D) (P Q : Image → Type 0) → LeavesOnly moment left old mid P → LeavesOnly moment left mid new Q → ((c : Image) → Q c → P c) → LeavesOnly moment left old new P
  joined old mid new P Q run step has = record {
    later = omega (arith, run.later, step.later);
    since = λ t c le h. ⊎_elim (λ was. run.since t c le was) (λ q. inr (has c q)) (step.since t c (omega (arith, le, run.later)) h);
    now = λ c h. ⊎_elim (λ was. run.now c was) (λ q. inr (has c q)) (step.now c h);
  }

  -- more room for what is left
  pub widened : (old new : D) (P Q : Image → Type 0) → LeavesOnly moment left old new P → ((c : Image) → P c → Q c) → LeavesOnly moment left old new Q
  widened old new P Q run has = record {
    later = run.later;
    since = λ t c le h. ⊎_elim (λ was. inl was) (λ p. inr (has c p)) (run.since t c le h);
    now = λ c h. ⊎_elim (λ was. inl was) (λ p. inr (has c p)) (run.now c h);
  }

  -- what is left of a part is left of the whole, and of what has P, what might have been left before or has Q
  pub lifted : {W : Type 0} (part : W → D) {old new : W} {P Q : Image → Type 0} → LeavesOnly moment left (part old) (part new) P
      → ((c : Image) → P c → ((t : ℕ) → t ≤ moment (part old) → left (part old) t c) ⊎ Q c) → LeavesOnly (λ w. moment (part w)) (λ w. left (part w)) old new Q
  lifted part {old} {new} {P} {Q} images has = record {
    later = images.later;
    since = λ t c le h. was t c le (images.since t c le h);
    now = λ c h. was (moment (part old)) c (omega arith) (images.now c h);
  }
    where
      was : (t : ℕ) (c : Image) → t ≤ moment (part old) → left (part old) t c ⊎ P c → left (part old) t c ⊎ Q c
      was t c le h = ⊎_elim (λ before. inl before) (λ p. ⊎_elim (λ may. inl (may t le)) (λ q. inr q) (has c p)) h
