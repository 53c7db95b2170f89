-- Calls of a disk whose blocks may tear, made again.
use Rattle.std.proofs.Common.{◌≡◌, ℕ, ◌+◌, ◌<◌, ◌≤◌, true, false, nat_lt, if◌then◌else◌, List, [], ◌∷◌, ◌++◌, length, take, get_or, sym, ap, subst}
use Rattle.pair_disk.proofs.Words.{Barrier, Call, HasSize, IsOfBlocks, KeptCall, TornState, Write, torn_next, after_before, torn_by, call_moment, replayed_writes, replay_more, replay_take, take_all}

-- the number of blocks stays
after_size : (count : ℕ) (call : Call) (s : TornState) → HasSize count call → IsOfBlocks count s → IsOfBlocks count (torn_next call s)
after_size count (Write at) s has is = record { size = is.size; blocks = is.blocks }
after_size count (Barrier blocks) s has is = record { size = has.0; blocks = has.1 }

pub size_more : (count t : ℕ) (s : TornState) (calls : List KeptCall) (e : KeptCall) → HasSize count e.call → IsOfBlocks count (replayed_writes s t calls) → IsOfBlocks count (replayed_writes s t (calls ++ e ∷ []))
size_more count t s calls e has is =
    subst (IsOfBlocks count) (sym (replay_more call_moment torn_by s t calls e)) (elim (nat_lt e.moment t) as (λ b. IsOfBlocks count (if b then torn_next e.call (replayed_writes s t calls) else replayed_writes s t calls)) [ true ↦ after_size count e.call (replayed_writes s t calls) has is | false ↦ is ])

-- A loop goes through the kept calls, which it holds as another list that is the same.
module _ (s : TornState) (t : ℕ) (kept held : List KeptCall) (same : held ≡ kept) (i : ℕ) where
  -- one call more
  pub gone_on : (e : KeptCall) → i < length held → e ≡ get_or held i e → replayed_writes s t (take (i + 1) kept) ≡ after_before call_moment torn_by t e (replayed_writes s t (take i kept))
  gone_on e le is = subst (λ (l : List KeptCall). replayed_writes s t (take (i + 1) l) ≡ after_before call_moment torn_by t e (replayed_writes s t (take i l))) same (replay_take call_moment torn_by s t held i e le is)

  -- all of them
  pub gone_through : length held ≤ i → replayed_writes s t (take i kept) ≡ replayed_writes s t kept
  gone_through le = ap (λ (l : List KeptCall). replayed_writes s t l) (take_all i kept (subst (λ (l : List KeptCall). length l ≤ i) same le))
