-- How many calls are made below, one after the other.
use Rattle.std.proofs.Common.{◌≡◌, inr, ℕ, zero, suc, ◌+◌, Bool, true, Result, Ok, Err, OnErr, refl, ◌∙◌, ap, arith}
use Rattle.cfs_base.specs.Outside.{count_after}
use Rattle.pair_disk.specs.declared.torn_disk.TornDisk.{Ghosts}
use Rattle.pair_disk.specs.Calls.{MakesBelow, MakesTries, StopsWrite, barriers_first, count_below}

-- what is promised of a failure, made into more
pub on_err : {V E P Q : Type 0} (r : Result V E) → OnErr r P → (P → Q) → OnErr r Q
on_err (Ok v) p to = tt
on_err (Err e) p to = to p

-- what holds is promised of a failure
pub of_err : {V E P : Type 0} (r : Result V E) → P → OnErr r P
of_err (Ok v) p = tt
of_err (Err e) p = p

count_below-then : (n m before : ℕ) → count_below n (count_below m before) ≡ count_below (n + m) before
count_below-then zero m before = let e : 0 + m ≡ m = omega arith in rw e refl
count_below-then (suc n) m before =
    let e : suc n + m ≡ suc (n + m) = omega arith in
    rw e (ap count_after (count_below-then n m before))

module _ {T : Type 0} (g : Ghosts T) (old mid new : T) where
  pub makes_then : (n m k l : ℕ) → MakesBelow g n m old mid → MakesBelow g k l mid new → MakesBelow g (k + n) (l + m) old new
  makes_then n m k l first then_it = record {
    calls = then_it.calls ∙ ap (λ (c : ℕ). count_below k c) first.calls ∙ count_below-then k n (g.calls old);
    tries = then_it.tries ∙ ap (λ (c : ℕ). count_below l c) first.tries ∙ count_below-then l m (g.tries old);
  }

  -- after so many writes and barriers
  pub tries_then : (k most : ℕ) → MakesBelow g k k old mid → MakesTries g most mid new → MakesTries g (most + k) old new
  tries_then k most first some = (
    some.0 + k,
    let le = some.1 in omega arith,
    let le = some.2 in omega arith,
    makes_then k k some.0 some.0 first some.3,
  )

  -- after the read of the gate, and a barrier that may have come first
  pub stops_write : (settled : T) (unsure : Bool) → MakesBelow g (barriers_first unsure) (barriers_first unsure) old settled
      → MakesBelow g 1 0 settled mid → MakesTries g 4 mid new → StopsWrite g unsure true old new
  stops_write settled unsure first gate some =
      let b : ℕ = barriers_first unsure in
      let read : MakesBelow g (1 + b) b old mid = record {
        calls = gate.calls ∙ ap count_after first.calls ∙ count_below-then 1 b (g.calls old);
        tries = gate.tries ∙ first.tries;
      } in
      inr (some.0, some.1, some.2, makes_then (1 + b) b some.0 some.0 read some.3)
