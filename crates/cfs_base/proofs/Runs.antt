-- How a run of calls on a disk goes on: one lemma for each call. Each takes what the call ensures.
use Rattle.std.proofs.Common.{◌≡◌, ◌⊎◌, inl, inr, ⊎_elim, ℕ, IsTrue, set, List, refl, sym, ◌∙◌, ap, subst, arith}
use Rattle.cfs_base.specs.Disk.{Image, IsSameDisk, Nothing, Written, Only}
use Rattle.cfs_base.specs.Run.{Tells, Leaves, left_now, IsSettled, Crashes, Comes}
use Rattle.cfs_base.specs.declared.disk.Disk.{Ghosts}
use Rattle.cfs_base.proofs.Stretches.{joined, widened}

module _ {D : Type 0} (g : Ghosts D) where
  -- images left in two stretches
  pub then : (start mid new : D) (P Q : Image → Type 0) → Leaves g start mid P → Leaves g mid new Q → ((c : Image) → Q c → P c) → Leaves g start new P
  then start mid new P Q run step has = joined g.moment g.left_since start mid new P Q run step has

  -- a stretch that leaves nothing new
  pub on : (start mid new : D) (P : Image → Type 0) → Leaves g start mid P → Leaves g mid new Nothing → Leaves g start new P
  on start mid new P run step = then start mid new P Nothing run step (λ c none. absurd none)

  -- more room for what is left
  pub wider : (start new : D) (P Q : Image → Type 0) → Leaves g start new P → ((c : Image) → P c → Q c) → Leaves g start new Q
  wider start new P Q run has = widened g.moment g.left_since start new P Q run has

  -- no call was made yet
  pub stands : {d : D} {N P : Image → Type 0} → ((c : Image) → left_now g d c → N c) → Crashes g d d N P
  stands here = record { here = here; leaves = record { later = omega arith; since = λ t c le h. inl h; now = λ c h. inl h } }

  -- a read, done or failed, and a barrier that failed
  pub stays : {start mid new : D} {N P : Image → Type 0} → Crashes g start mid N P → Leaves g mid new Nothing → Crashes g start new N P
  stays {start} {mid} {new} {N} {P} run images = record {
    here = λ c h. ⊎_elim (λ was. run.here c was) (λ none. absurd none) (images.now c h);
    leaves = on start mid new P run.leaves images;
  }

  -- a write, done or failed
  pub tries : {start mid new : D} {N P : Image → Type 0} (at : ℕ) (block : List ℕ) → Crashes g start mid N P → Leaves g mid new (Written (left_now g mid) at block) → ((d : Image) → N d → P (set d at block))
      → Crashes g start new (λ c. N c ⊎ Written N at block c) P
  tries {start} {mid} {new} {N} {P} at block run images has = record {
    here = λ c h. ⊎_elim (λ was. inl (run.here c was)) (λ w. inr (w.0, run.here w.0 w.1, w.2)) (images.now c h);
    leaves = then start mid new P (Written (left_now g mid) at block) run.leaves images (λ c w. subst P (sym w.2) (has w.0 (run.here w.0 w.1)));
  }

  -- a barrier that is done
  pub flushes : {start mid new : D} {N P : Image → Type 0} → Crashes g start mid N P → Leaves g mid new Nothing → Only (g.content new) (left_now g new) → Crashes g start new (λ c. c ≡ g.content new) P
  flushes {start} {mid} {new} {N} {P} run images only = record { here = only; leaves = on start mid new P run.leaves images }

  -- a run begins on a disk that tells its content, whatever waits for a barrier
  pub begins : {d : D} {P : Image → Type 0} → Tells g d → Comes g d d (g.content d) (left_now g d) P
  begins tells = record { tells = tells; content = refl; crashes = stands (λ c h. h) }

  -- it ends where nothing waits
  pub ends_settled : {start now : D} {image : Image} {P : Image → Type 0} → Comes g start now image (λ c. c ≡ image) P → IsSettled g now
  ends_settled run = record { tells = run.tells; only = λ c h. run.crashes.here c h ∙ sym run.content }

  -- what is told stays so
  pub still_tells : {old new : D} → Tells g old → ((n : ℕ) → IsTrue (g.told old n) → IsTrue (g.told new n)) → IsSameDisk g.blocks g.honest g.tells_images old new → Tells g new
  still_tells tells told disk = record { honest = subst IsTrue (sym disk.honesty) tells.honest; told = λ n. told n (tells.told n) }

  -- a read, done or failed, and a barrier that failed
  pub reads : {start mid new : D} {image : Image} {N P : Image → Type 0} → Comes g start mid image N P
      → g.content new ≡ g.content mid → ((n : ℕ) → IsTrue (g.told mid n) → IsTrue (g.told new n)) → Leaves g mid new Nothing → IsSameDisk g.blocks g.honest g.tells_images mid new → Comes g start new image N P
  reads run same told images disk = record {
    tells = still_tells run.tells told disk;
    content = same ∙ run.content;
    crashes = stays run.crashes images;
  }

  -- a write that is done
  pub writes : {start mid new : D} {image : Image} {N P : Image → Type 0} {at : ℕ} {block : List ℕ} → Comes g start mid image N P
      → g.content new ≡ set (g.content mid) at block → ((n : ℕ) → IsTrue (g.told mid n) → IsTrue (g.told new n)) → Leaves g mid new (Written (left_now g mid) at block) → IsSameDisk g.blocks g.honest g.tells_images mid new
      → ((d : Image) → N d → P (set d at block)) → Comes g start new (set image at block) (λ c. N c ⊎ Written N at block c) P
  writes {at = at} {block} run wrote told images disk has = record {
    tells = still_tells run.tells told disk;
    content = wrote ∙ ap (λ (i : Image). set i at block) run.content;
    crashes = tries at block run.crashes images has;
  }

  -- a barrier that is done
  pub flushed : {start mid new : D} {image : Image} {N P : Image → Type 0} → Comes g start mid image N P
      → g.content new ≡ g.content mid → ((n : ℕ) → IsTrue (g.told mid n) → IsTrue (g.told new n)) → Leaves g mid new Nothing → IsSameDisk g.blocks g.honest g.tells_images mid new → Only (g.content new) (left_now g new) → Comes g start new image (λ c. c ≡ image) P
  flushed {start} {mid} {new} {image} {N} {P} run same told images disk only = record {
    tells = still_tells run.tells told disk;
    content = same ∙ run.content;
    crashes = record { here = λ c h. only c h ∙ same ∙ run.content; leaves = on start mid new P run.crashes.leaves images };
  }

  -- two runs, one after the other
  pub joins : {start mid new : D} {image next : Image} {N M P Q : Image → Type 0} → Comes g start mid image N P → Comes g mid new next M Q → ((c : Image) → Q c → P c) → Comes g start new next M P
  joins {start} {mid} {new} {image} {next} {N} {M} {P} {Q} run step has = record {
    tells = step.tells;
    content = step.content;
    crashes = record { here = step.crashes.here; leaves = then start mid new P Q run.crashes.leaves step.crashes.leaves has };
  }
