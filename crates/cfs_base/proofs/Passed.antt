-- What `?` and `map_err` hand on: the error that it was, or what is made of it.
use Rattle.std.proofs.Common.{◌≡◌, Ok, Err, Result, refl, ap, sym, subst}
use Rattle.std.specs.Result.{IfErr, IsErrAnd, MatchResult}
use Rattle.cfs_base.proofs.Went.{told_as}

-- `?` makes a new answer, with an error that equals the old one
pub passed : {A E : Type 0} (P : Result A E → Type 0) (r : Result A E) (e : E) → IsErrAnd r (λ k. k ≡ e) → P (Err e) → P r
passed P (Ok x) e same is = absurd same
passed P (Err k) e same is = subst (λ x. P (Err x)) (sym same) is

pub is_passed : {A E : Type 0} (r : Result A E) (e : E) → IsErrAnd r (λ k. k ≡ e) → r ≡ Err e
is_passed r e same = passed (λ x. x ≡ Err e) r e same refl

-- what a `map_err` was called on, in the two arms of the `?` behind it
pub mapped_ok : {A E : Type 0} (F : Type 0) (r : Result A E) (x : A) → MatchResult r (λ y. ◌≡◌ {A = Result A F} (Ok x) (Ok y)) (λ e. ⊥) → r ≡ Ok x
mapped_ok F (Ok y) x is = cc
mapped_ok F (Err e) x is = absurd is

pub mapped_err : {A E F : Type 0} (f : E → F) (r : Result A E) (k : F) → MatchResult r (λ y. ◌≡◌ {A = Result A F} (Err k) (Ok y)) (λ e. k ≡ f e) → (e : E) × (r ≡ Err e) × (k ≡ f e)
mapped_err f (Ok y) k is = cc
mapped_err f (Err e) k is = (e, refl, is)

-- `map_err` tells an answer as this makes of its error
pub mapped : {A E F : Type 0} {Q : E → F → Type 0} (f : E → F) (r : Result A E) (s : Result A F) → MatchResult r (λ x. s ≡ Ok x) (λ e. IsErrAnd s (Q e)) → ((e : E) (k : F) → Q e k → k ≡ f e) → s ≡ told_as f r
mapped f (Ok x) s is by = is
mapped f (Err e) (Ok x) is by = absurd is
mapped f (Err e) (Err k) is by = ap Err (by e k is)

pub tells_err : {A E F : Type 0} (P : E → Type 0) (R : F → Type 0) (f : E → F) (r : Result A E) (s : Result A F) → s ≡ told_as f r → IfErr r P → ((e : E) → P e → R (f e)) → IfErr s R
tells_err P R f (Ok x) s same is by = rw same tt
tells_err P R f (Err e) s same is by = rw same (by e is)

-- where that was an error, or none
pub handed : {A E F : Type 0} (f : E → F) (r : Result A E) (s : Result A F) (k : F) → s ≡ told_as f r → s ≡ Err k → (e : E) × (r ≡ Err e) × (k ≡ f e)
handed f (Ok x) s k same is = cc
handed f (Err e) s k same is = (e, refl, cc)

pub fine : {A E F : Type 0} (f : E → F) (r : Result A E) (s : Result A F) (x : A) → s ≡ told_as f r → s ≡ Ok x → r ≡ Ok x
fine f (Ok y) s x same is = cc
fine f (Err e) s x same is = cc
