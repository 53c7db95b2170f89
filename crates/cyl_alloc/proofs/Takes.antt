-- How many blocks calls take that are made one after another, and how the call went that enters one.
use Rattle.std.proofs.Common.{◌≡◌, ℕ, zero, suc, ◌+◌, ◌-◌, ◌/◌, ◌≤◌, true, false, Ok, Err, List, [], ◌∷◌, Some, Result, get_or, set, sum, refl, sym, subst, ◌∙◌, ap, arith}
use Rattle.std.proofs.lemmas.List.Sums.{sum_by-cons}
use Rattle.cfs_base.specs.Refusals.{had_tried}
use Rattle.cfs_base.specs.Went.{Went}
use Rattle.cfs_base.specs.declared.disk.Disk.{Ghosts}
use Rattle.cfs_base.specs.declared.identifier.BlockNo.{BlockNo}
use Rattle.cfs_base.specs.declared.refusal.Refused.{Refused}
use Rattle.cyl_alloc.specs.Enters.{Enters}
use Rattle.cyl_alloc.specs.Refusals.{IsFindRefusal}
use Rattle.cyl_alloc.specs.Space.{Kept, TakesAtMost, after_taking}
use Rattle.cyl_map.specs.declared.entry.MapEntry.{MapEntry}

pub takes_none : (kept : Kept) (k : ℕ) → TakesAtMost k kept kept
takes_none kept k = record { cylinders = refl; left = refl; takes = omega arith }

pub takes_then : {j k m : ℕ} {k0 k1 k2 : Kept} → j + k ≤ m → TakesAtMost j k0 k1 → TakesAtMost k k1 k2 → TakesAtMost m k0 k2
takes_then le first then = record { cylinders = then.cylinders ∙ first.cylinders; left = then.left ∙ first.left; takes = omega (arith, first.takes, then.takes, le) }

pub takes_within : {j k : ℕ} {before after : Kept} → j ≤ k → TakesAtMost j before after → TakesAtMost k before after
takes_within le is = record { cylinders = is.cylinders; left = is.left; takes = omega (arith, is.takes, le) }

-- ---- the least Free block entered

abbrev itself : ℕ → ℕ
itself n = n

one_less : (xs : List ℕ) (i : ℕ) → sum xs ≤ sum (set xs i (get_or xs i 0 - 1)) + 1
one_less [] i = omega arith
one_less (x ∷ xs) zero = omega (arith, sum_by-cons itself x xs, sum_by-cons itself (x - 1) xs)
one_less (x ∷ xs) (suc i) = omega (arith, sum_by-cons itself x xs, sum_by-cons itself x (set xs i (get_or xs i 0 - 1)), one_less xs i)

pub sum_taken : (kept : Kept) (n : ℕ) → sum kept.free ≤ sum (after_taking kept n).free + 1
sum_taken kept n = one_less kept.free (n / 64)

pub enters_went : {D : Type 0} {g : Ghosts D} {e : MapEntry} {old new : D} {before after : Kept} {result : Result BlockNo Refused} → Enters g e old new before after result
    → Went g 2 1 1 old new before after (TakesAtMost 1 before after) (IsFindRefusal g old new before) (λ error. had_tried error ≡ false) (λ block. Some true) result
enters_went {before = before} {after} {result = Ok block} is = record {
  told = is.told;
  knows = is.made;
  refused = tt;
  untried = tt;
  moves = record { cylinders = is.cylinders; left = is.left; takes = subst (λ (k : Kept). sum before.free ≤ sum k.free + 1) (sym is.taken) (sum_taken before block.0) };
  calls = is.calls;
}
enters_went {before = before} {after} {result = Err error} is = record {
  told = tt;
  knows = tt;
  refused = is.refused;
  untried = λ none. (is.kept refl, is.unless_tried none);
  moves = record { cylinders = is.cylinders; left = is.left; takes = omega (arith, ap (λ (k : Kept). sum k.free) (is.kept refl)) };
  calls = is.calls;
}
