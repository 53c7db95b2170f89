use Rattle.std.proofs.Common.{◌≡◌, ◌+◌, ◌*◌, ◌<◌, ℕ, Some}
use Rattle.cfs_recover.proofs.Words.{MapEntry, MayStand, slice_get}
use Rattle.cfs_recover.proofs.maps.check_map.Given as goal

abbrev pub invariant-loop-entry : goal.invariant-loop-entry
invariant-loop-entry l = (k : ℕ) (e : MapEntry) → k < l.entry → slice_get l.map k ≡ Some e → MayStand (64 * l.cylinder + k) e
