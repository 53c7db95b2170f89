-- Calls that are kept with their moments, made again: what one call more changes.
use Rattle.std.proofs.Common.{◌≡◌, ◌⊎◌, inl, inr, ℕ, ◌+◌, ◌<◌, ◌≤◌, IsTrue, List, [], ◌∷◌, ◌++◌, length, take, get_or, refl, sym, ◌∙◌, ap, subst, arith}
use Rattle.std.proofs.lemmas.List.{take_more}
use Rattle.std.proofs.lemmas.Bool.{cases_lt}
use Rattle.std.proofs.lemmas.Bool.Decides.{nat_tests}
use Rattle.cfs_base.specs.Disk.{Image}
use Rattle.cfs_base.specs.Replay.{after_before, all_before, replay, Left}

module _ {K : Type 0} (moment : K → ℕ) where
  pub before_later : (m t : ℕ) (calls : List K) → m ≤ t → IsTrue (all_before moment m calls) → IsTrue (all_before moment t calls)
  before_later m t [] le h = h
  before_later m t (call ∷ calls) le h = grind (arith, nat_tests, before_later m t calls le)

  pub before_more : (m : ℕ) (calls : List K) (e : K) → moment e ≡ m → IsTrue (all_before moment m calls) → IsTrue (all_before moment (m + 1) (calls ++ e ∷ []))
  before_more m [] e is h = grind (arith, nat_tests)
  before_more m (call ∷ calls) e is h = grind (arith, nat_tests, before_more m calls e is)

module _ {K S : Type 0} (moment : K → ℕ) (made : K → S → S) where
  pub replay_more : (s : S) (t : ℕ) (calls : List K) (e : K) → replay moment made s t (calls ++ e ∷ []) ≡ after_before moment made t e (replay moment made s t calls)
  replay_more s t [] e = refl
  replay_more s t (call ∷ calls) e = replay_more (after_before moment made t call s) t calls e

  -- one call more of a list that is gone through
  pub replay_take : (s : S) (t : ℕ) (calls : List K) (i : ℕ) (e : K) → i < length calls → e ≡ get_or calls i e
      → replay moment made s t (take (i + 1) calls) ≡ after_before moment made t e (replay moment made s t (take i calls))
  replay_take s t calls i e le is =
      ap (λ (l : List K). replay moment made s t l) (take_more calls i e le ∙ ap (λ (x : K). take i calls ++ x ∷ []) (sym is)) ∙ replay_more s t (take i calls) e

  -- no call was made since
  pub replay_later : (s : S) (m t : ℕ) (calls : List K) → m ≤ t → IsTrue (all_before moment m calls) → replay moment made s t calls ≡ replay moment made s m calls
  replay_later s m t [] le h = refl
  replay_later s m t (call ∷ calls) le h = grind (arith, nat_tests, replay_later (made call s) m t calls le)

  -- a later call is none yet
  not_yet : (t : ℕ) (e : K) (s : S) → t ≤ moment e → after_before moment made t e s ≡ s
  not_yet t e s le = grind (arith, nat_tests)

  was_made : (t : ℕ) (e : K) (s : S) → moment e < t → after_before moment made t e s ≡ made e s
  was_made t e s lt = grind (arith, nat_tests)

  module _ (s : S) (m : ℕ) (calls : List K) (past : IsTrue (all_before moment m calls)) (e : K) (is : moment e ≡ m) where
    -- the state after a call that is kept
    pub replay_kept : replay moment made s (m + 1) (calls ++ e ∷ []) ≡ made e (replay moment made s m calls)
    replay_kept = replay_more s (m + 1) calls e ∙ was_made (m + 1) e (replay moment made s (m + 1) calls) (omega (arith, is)) ∙ ap (made e) (replay_later s m (m + 1) calls (omega arith) past)

    -- and before it
    pub replay_kept_before : (t : ℕ) → t ≤ m → replay moment made s t (calls ++ e ∷ []) ≡ replay moment made s t calls
    replay_kept_before t le = replay_more s t calls e ∙ not_yet t e (replay moment made s t calls) (omega (arith, is, le))

-- what a crash leaves of it
module _ {K S : Type 0} (moment : K → ℕ) (made : K → S → S) (IsImage : S → Image → Type 0) (s : S) (m : ℕ) (calls : List K) (past : IsTrue (all_before moment m calls)) where
  abbrev state_at : ℕ → S
  state_at t = replay moment made s t calls

  -- after a call that isn't kept
  pub left_pass : (later t t' : ℕ) (c : Image) → m ≤ later → t ≤ t' → t ≤ m → Left IsImage state_at later t' c → Left IsImage state_at m t c
  left_pass later t t' c le since early h = elim (cases_lt m h.0) [
    | inl past_it ↦ (m, early, omega arith, subst (λ (st : S). IsImage st c) (replay_later moment made s m h.0 calls (omega (arith, past_it)) past) h.3)
    | inr in_time ↦ (h.0, omega (arith, since, h.1), in_time, h.3)
  ]

  module _ (e : K) (is : moment e ≡ m) where
    abbrev state_then : ℕ → S
    state_then t = replay moment made s t (calls ++ e ∷ [])

    pub left_now_kept : (c : Image) → Left IsImage state_then (m + 1) (m + 1) c → IsImage (made e (state_at m)) c
    left_now_kept c h = subst (λ (st : S). IsImage st c) (ap state_then (omega (arith, h.1, h.2)) ∙ replay_kept moment made s m calls past e is) h.3

    -- after one that is kept
    pub left_kept : (t t' : ℕ) (c : Image) → t ≤ t' → t ≤ m → Left IsImage state_then (m + 1) t' c → Left IsImage state_at m t c ⊎ IsImage (made e (state_at m)) c
    left_kept t t' c since early h = elim (cases_lt m h.0) [
      | inl past_it ↦ inr (left_now_kept c (h.0, omega (arith, past_it), h.2, h.3))
      | inr in_time ↦ inl (h.0, omega (arith, since, h.1), in_time, subst (λ (st : S). IsImage st c) (replay_kept_before moment made s m calls past e is h.0 in_time) h.3)
    ]

    pub left_earlier : (t : ℕ) (c : Image) → Left IsImage state_at m t c → Left IsImage state_then (m + 1) t c
    left_earlier t c h = (h.0, h.1, omega (arith, h.2), subst (λ (st : S). IsImage st c) (sym (replay_kept_before moment made s m calls past e is h.0 h.2)) h.3)
