-- Calls that only read, one after the other.
use Rattle.std.proofs.Common.{ℕ, ◌+◌, ◌≤◌, Bool, true, false, IsTrue, refl, sym, ◌∙◌, subst, arith}
use Rattle.cfs_base.specs.Disk.{Nothing}
use Rattle.cfs_base.specs.Calls.{OnlyReads, HasFailed, HasStopped, HasTried, MakesAtMost}
use Rattle.cfs_base.specs.Run.{Tells}
use Rattle.cfs_base.specs.declared.disk.Disk.{Ghosts}
use Rattle.cfs_base.proofs.Runs.{on}

module _ {D : Type 0} (g : Ghosts D) (old mid new : D) where
  pub tells_on : (n : ℕ) → OnlyReads g n old mid → Tells g old → Tells g mid
  tells_on n reads tells = record { honest = subst IsTrue (sym reads.same.honesty) tells.honest; told = λ k. reads.told k (tells.told k) }

  pub reads_then : (n m k : ℕ) → OnlyReads g n old mid → OnlyReads g m mid new → n + m ≤ k → OnlyReads g k old new
  reads_then n m k first then le = record {
    content = then.content ∙ first.content;
    told = λ b was. then.told b (first.told b was);
    images = on g old mid new Nothing first.images then.images;
    keeps = λ t c before was. then.keeps t c (omega (arith, before, first.images.later)) (first.keeps t c before was);
    same = record { size = then.same.size ∙ first.same.size; honesty = then.same.honesty ∙ first.same.honesty; telling = then.same.telling ∙ first.same.telling };
    tries = then.tries ∙ first.tries;
    faults = omega (arith, first.faults, then.faults);
    calls = omega (arith, first.calls, then.calls, le);
  }

  -- a failure of a later call is one of the whole
  pub failed_since : g.moment old ≤ g.moment mid → g.faults old ≤ g.faults mid → HasFailed g mid new → HasFailed g old new
  failed_since later faults is = record {
    cause = omega (arith, is.cause, faults);
    clock = omega (arith, is.clock, later);
    last = record { mid = is.last.mid; later = omega (arith, later, is.last.later); no_fewer = omega (arith, faults, is.last.no_fewer); one_call = is.last.one_call; clock = is.last.clock; cause = is.last.cause };
  }

  pub failed_after : (n : ℕ) → OnlyReads g n old mid → HasFailed g mid new → HasFailed g old new
  failed_after n reads is = failed_since reads.images.later reads.faults is

pub reads_within : {D : Type 0} (g : Ghosts D) (old new : D) (n m : ℕ) → n ≤ m → OnlyReads g n old new → OnlyReads g m old new
reads_within g old new n m le reads = record {
  content = reads.content;
  told = reads.told;
  images = reads.images;
  keeps = reads.keeps;
  same = reads.same;
  tries = reads.tries;
  faults = reads.faults;
  calls = omega (arith, reads.calls, le);
}

-- ---- calls that may write

pub reads_make : {D : Type 0} (g : Ghosts D) (old new : D) (n : ℕ) → OnlyReads g n old new → MakesAtMost g n 0 old new
reads_make g old new n reads = record {
  later = reads.images.later;
  keeps = reads.keeps;
  same = reads.same;
  faults = reads.faults;
  calls = reads.calls;
  tries = omega (arith, reads.tries);
  no_fewer = omega (arith, reads.tries);
}

module _ {D : Type 0} (g : Ghosts D) (old mid new : D) where
  pub makes_then : (n m k t s r : ℕ) → MakesAtMost g n t old mid → MakesAtMost g m s mid new → n + m ≤ k → t + s ≤ r → MakesAtMost g k r old new
  makes_then n m k t s r first then calls tries = record {
    later = omega (arith, first.later, then.later);
    keeps = λ at c before was. then.keeps at c (omega (arith, before, first.later)) (first.keeps at c before was);
    same = record { size = then.same.size ∙ first.same.size; honesty = then.same.honesty ∙ first.same.honesty; telling = then.same.telling ∙ first.same.telling };
    faults = omega (arith, first.faults, then.faults);
    calls = omega (arith, first.calls, then.calls, calls);
    tries = omega (arith, first.tries, then.tries, tries);
    no_fewer = omega (arith, first.no_fewer, then.no_fewer);
  }

  -- something was tried before, or after
  pub tried_then : (n t : ℕ) → HasTried g old mid → MakesAtMost g n t mid new → HasTried g old new
  tried_then n t tried then = omega (arith, tried, then.no_fewer)

  pub then_tried : (n t : ℕ) → MakesAtMost g n t old mid → HasTried g mid new → HasTried g old new
  then_tried n t first tried = omega (arith, first.no_fewer, tried)

  -- a call that is stopped after some that only read
  pub stopped_after_reads : (n : ℕ) (tried : Bool) → OnlyReads g n old mid → HasStopped g tried mid new → HasStopped g tried old new
  stopped_after_reads n tried reads stop = record {
    failed = failed_after g old mid new n reads stop.failed;
    tries = λ yes. omega (arith, reads.tries, stop.tries yes);
    no_try = λ none. stop.no_try none ∙ reads.tries;
    untouched = λ none. stop.untouched none ∙ reads.content;
  }

  -- or after some that tried a write or a barrier
  pub stopped_after_try : (n t : ℕ) (tried : Bool) → MakesAtMost g n t old mid → HasTried g old mid → HasStopped g tried mid new → HasStopped g true old new
  stopped_after_try n t tried first was stop = record {
    failed = failed_since g old mid new first.later first.faults stop.failed;
    tries = λ yes. elim tried as (λ b. HasStopped g b mid new → HasTried g old new) [
      | true ↦ λ is. omega (arith, first.no_fewer, is.tries refl)
      | false ↦ λ is. omega (arith, was, is.no_try refl)
    ] stop;
    no_try = λ e. cc;
    untouched = λ e. cc;
  }
