-- WorkerHandles whose turns were made in threads.
use Rattle.std.proofs.Common.{◌≡◌, ℕ, ◌<◌, ◌++◌, List, length, take, drop, ap, sym, ◌∙◌, subst, slice_index_or}
use Rattle.std.proofs.Math.Seq.{take-append_seam}
use Rattle.front_floor.specs.Knows.{HandleKnows, Ran}

module _ {E : Type 0} where
  pub ran_along : (a b x y : HandleKnows E) → a ≡ x → b ≡ y → Ran a b → Ran x y
  ran_along a b x y p q r = rw (← p, ← q) r

  -- those of a list that was lent as a slice
  pub ran_each : (n : ℕ) (items slice handles new : List (HandleKnows E)) → n ≡ length items → slice ≡ items → items ≡ handles → length new ≡ length slice
      → ((i : ℕ) (handle : HandleKnows E) → i < length slice → Ran (slice_index_or slice i handle) (slice_index_or new i handle))
      → (i : ℕ) (handle : HandleKnows E) → i < length handles → Ran (slice_index_or handles i handle) (slice_index_or (take n (new ++ drop (length new) items)) i handle)
  ran_each n items slice handles new long lent same count ran i handle less =
      let whole : take n (new ++ drop (length new) items) ≡ new = ap (λ k. take k (new ++ drop (length new) items)) (long ∙ sym (count ∙ ap length lent)) ∙ take-append_seam new (drop (length new) items) in
      let one = subst (λ (ps : List (HandleKnows E)). i < length ps → Ran (slice_index_or ps i handle) (slice_index_or new i handle)) (lent ∙ same) (ran i handle) less in
      subst (λ (ps : List (HandleKnows E)). Ran (slice_index_or handles i handle) (slice_index_or ps i handle)) (sym whole) one
