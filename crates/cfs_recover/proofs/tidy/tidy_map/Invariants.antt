use Rattle.std.proofs.Common.{◌≡◌, ◌⊎◌, ◌+◌, ◌*◌, ◌<◌, ◌≤◌, ℕ, false, get_or, Some}
use Rattle.cfs_recover.proofs.Words.{IsMap, MapEntry, is_fixed, slice_get, tidied}
use Rattle.cfs_recover.proofs.tidy.tidy_map.Given as goal

abbrev pub invariant-loop-entry : goal.invariant-loop-entry
invariant-loop-entry l = record {
  below : (k : ℕ) (e : MapEntry) → k < l.entry → slice_get l.map k ≡ Some e
      → slice_get l.tidy k ≡ Some (tidied (is_fixed (64 * l.cylinder + k)) (get_or l.held (64 * l.cylinder + k) false) e);
  from : (k : ℕ) → l.entry ≤ k → slice_get l.tidy k ≡ slice_get l.map k;
  whole : (l.entry ≡ 0) ⊎ IsMap l.tidy;
}
