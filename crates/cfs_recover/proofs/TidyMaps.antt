-- A map, entry by entry tidied.
use Rattle.std.proofs.Common.{◌≡◌, ◌≢◌, ℕ, zero, suc, ◌+◌, ◌*◌, ◌<◌, Bool, false, List, [], ◌∷◌, length, get_or, set, Some, refl, ◌∙◌, subst, arith}
use Rattle.cfs_recover.proofs.Words.{All, Graph, Image, IsEntry, IsMapIn, IsTidiedMap, IsTidyMap, IsTidying, MapEntry, entries_read, unheld_entry, get_or_from_slice_get, is_fixed, map_spelling, slice_get, slice_get-get_or, slice_get_within, tidied}
use Rattle.cfs_recover.proofs.TidyEntries.{tidied_is_tidy}

pub set_here : {X : Type 0} (xs : List X) (k : ℕ) (x : X) → k < length xs → slice_get (set xs k x) k ≡ Some x
set_here [] k x inside = absurd (omega arith)
set_here (y ∷ xs) zero x inside = refl
set_here (y ∷ xs) (suc k) x inside = set_here xs k x (omega arith)

pub set_there : {X : Type 0} (xs : List X) (k j : ℕ) (x : X) → j ≢ k → slice_get (set xs k x) j ≡ slice_get xs j
set_there [] k j x other = refl
set_there (y ∷ xs) zero zero x other = absurd (other refl)
set_there (y ∷ xs) zero (suc j) x other = refl
set_there (y ∷ xs) (suc k) zero x other = refl
set_there (y ∷ xs) (suc k) (suc j) x other = set_there xs k j x (λ same. other (omega (arith, same)))

pub entry_of_map : (es : List MapEntry) (k : ℕ) (e : MapEntry) → All IsEntry es → slice_get es k ≡ Some e → IsEntry e
entry_of_map es k e all at = subst IsEntry (get_or_from_slice_get es k e e at) (all k e (slice_get_within es k e at))

-- a tidied map may come
pub tidy_map_comes : (a : Image) (g : Graph) (cylinder : ℕ) (map tidy : List MapEntry) (held : List Bool) → IsTidying a g held → IsMapIn a cylinder map → IsTidiedMap cylinder map held tidy → IsTidyMap a g cylinder (map_spelling tidy)
tidy_map_comes a g cylinder map tidy held tidying here is k small =
    let at = slice_get-get_or map k unheld_entry (omega (arith, here.whole.long, small)) in
    let e = get_or map k unheld_entry in (
      tidied (is_fixed (64 * cylinder + k)) (get_or held (64 * cylinder + k) false) e,
      entries_read (map_spelling tidy) tidy is.whole refl k small ∙ is.entries k e small at,
      tidied_is_tidy a g (λ n. get_or held n false) tidying.holds tidying.copied tidying.marked (64 * cylinder + k) e (here.entries k small ∙ at),
    )
