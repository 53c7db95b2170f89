-- Calls that may write and may be refused, one after another.
use Rattle.std.proofs.Common.{◌≡◌, ℕ, ◌+◌, ◌≤◌, Bool, true, false, IfErr, IfOk, Ok, Err, Option, Some, None, Result, inl, refl, subst, ◌∙◌, arith}
use Rattle.cfs_base.specs.Calls.{MakesAtMost, OnlyReads}
use Rattle.cfs_base.specs.Went.{KnowsTries, Went, known_after}
use Rattle.cfs_base.specs.declared.disk.Disk.{Ghosts}
use Rattle.cfs_base.proofs.Calls.{makes_then, reads_then, reads_within, then_tried, tried_then}

-- ---- no call

pub reads_none : {D : Type 0} (g : Ghosts D) (n : ℕ) (d : D) → OnlyReads g n d d
reads_none g n d = record {
  content = refl;
  told = λ b is. is;
  images = record { later = omega arith; since = λ t c le h. inl h; now = λ c h. inl h };
  keeps = λ t c before is. is;
  same = record { size = refl; honesty = refl; telling = refl };
  tries = refl;
  faults = omega arith;
  calls = omega arith;
}

pub makes_none : {D : Type 0} (g : Ghosts D) (d : D) (n t : ℕ) → MakesAtMost g n t d d
makes_none g d n t = record { later = omega arith; keeps = λ at c before was. was; same = record { size = refl; honesty = refl; telling = refl }; faults = omega arith; calls = omega arith; tries = omega arith; no_fewer = omega arith }

pub makes_within : {D : Type 0} (g : Ghosts D) (old new : D) (n t m s : ℕ) → n ≤ m → t ≤ s → MakesAtMost g n t old new → MakesAtMost g m s old new
makes_within g old new n t m s more tries makes = makes_then g old old new 0 n m 0 t s (makes_none g old 0 0) makes (omega (arith, more)) (omega (arith, tries))

-- ---- one call, told otherwise

-- with greater bounds, and as another calls it
module _ {D K A E : Type 0} {g : Ghosts D} {n t r : ℕ} {old new : D} {before after : K} {Moves : Type 0} {Refuses Untried : E → Type 0} {known : A → Option Bool} where
  pub went_as : {MovesSo : Type 0} {RefusesSo UntriedSo : E → Type 0} {known_so : A → Option Bool} {result : Result A E} (m s q : ℕ) → (Moves → MovesSo) → ((e : E) → Refuses e → RefusesSo e) → ((e : E) → UntriedSo e → Untried e)
      → ((x : A) → KnowsTries g r old new before after (known x) → KnowsTries g r old new before after (known_so x))
      → Went g n t r old new before after Moves Refuses Untried known result → n ≤ m → t ≤ s → r ≤ q → Went g m s q old new before after MovesSo RefusesSo UntriedSo known_so result
  went_as {known_so = known_so} {result = Ok x} m s q moves refuses untried knows went calls tries reads = record {
    told = went.told;
    knows = more (known_so x) (knows x went.knows);
    refused = tt;
    untried = tt;
    moves = moves went.moves;
    calls = makes_within g old new n t m s calls tries went.calls;
  }
    where
      more : (o : Option Bool) → KnowsTries g r old new before after o → KnowsTries g q old new before after o
      more None is = tt
      more (Some true) is = is
      more (Some false) is = (is.0, reads_within g old new r q reads is.1)
  went_as {result = Err e} m s q moves refuses untried knows went calls tries reads = record {
    told = tt;
    knows = tt;
    refused = refuses e went.refused;
    untried = λ so. let two = went.untried (untried e so) in (two.0, reads_within g old new r q reads two.1);
    moves = moves went.moves;
    calls = makes_within g old new n t m s calls tries went.calls;
  }

-- ---- one call after another

abbrev pub told_as : {A E F : Type 0} → (E → F) → Result A E → Result A F
told_as since (Ok x) = Ok x
told_as since (Err e) = Err (since e)

knows_then : {D K : Type 0} (g : Ghosts D) (d0 d1 d2 : D) (k0 k1 k2 : K) (n t r m s q : ℕ) (o p : Option Bool) → KnowsTries g r d0 d1 k0 k1 o → KnowsTries g q d1 d2 k1 k2 p → MakesAtMost g n t d0 d1 → MakesAtMost g m s d1 d2
    → KnowsTries g (r + q) d0 d2 k0 k2 (known_after o p)
knows_then g d0 d1 d2 k0 k1 k2 n t r m s q None p first then calls more = tt
knows_then g d0 d1 d2 k0 k1 k2 n t r m s q (Some true) p first then calls more = tried_then g d0 d1 d2 m s first more
knows_then g d0 d1 d2 k0 k1 k2 n t r m s q (Some false) None first then calls more = tt
knows_then g d0 d1 d2 k0 k1 k2 n t r m s q (Some false) (Some true) first then calls more = then_tried g d0 d1 d2 n t calls then
knows_then g d0 d1 d2 k0 k1 k2 n t r m s q (Some false) (Some false) first then calls more = (then.0 ∙ first.0, reads_then g d0 d1 d2 r q (r + q) first.1 then.1 (omega arith))

module _ {D K : Type 0} {g : Ghosts D} {d0 d1 d2 : D} {k0 k1 k2 : K} {n t r m s q : ℕ} where
  -- A call that is done, and one after it, as one call: it is known what is known of both, and a refusal is told as one
  -- of the whole.
  pub went_then : {A B E F : Type 0} {Moves Then Both : Type 0} {Refuses Untried : E → Type 0} {RefusesThen UntriedThen : E → Type 0} {RefusesBoth UntriedBoth : F → Type 0}
      {known : A → Option Bool} {then_known both_known : B → Option Bool} {x : A} {result : Result B E} (since : E → F)
      → (Moves → Then → Both)
      → IfErr result (λ e. RefusesThen e → RefusesBoth (since e))
      → IfErr result (λ e. UntriedBoth (since e) → (known x ≡ Some false) × UntriedThen e)
      → IfOk result (λ y. known_after (known x) (then_known y) ≡ both_known y)
      → Went g n t r d0 d1 k0 k1 Moves Refuses Untried known (Ok x)
      → Went g m s q d1 d2 k1 k2 Then RefusesThen UntriedThen then_known result
      → Went g (n + m) (t + s) (r + q) d0 d2 k0 k2 Both RefusesBoth UntriedBoth both_known (told_as since result)
  went_then {B = B} {E = E} {RefusesThen = RefusesThen} {UntriedThen} {RefusesBoth = RefusesBoth} {UntriedBoth} {known = known} {then_known} {both_known} {x = x} {result = Ok y} since moves refuses untried knows first then = record {
    told = λ b was. then.told b (first.told b was);
    knows = subst (KnowsTries g (r + q) d0 d2 k0 k2) knows (knows_then g d0 d1 d2 k0 k1 k2 n t r m s q (known x) (then_known y) first.knows then.knows first.calls then.calls);
    refused = tt;
    untried = tt;
    moves = moves first.moves then.moves;
    calls = makes_then g d0 d1 d2 n m (n + m) t s (t + s) first.calls then.calls (omega arith) (omega arith);
  }
  went_then {known = known} {x = x} {result = Err e} since moves refuses untried knows first then = record {
    told = tt;
    knows = tt;
    refused = refuses then.refused;
    untried = λ so. let two = untried so in let was = subst (KnowsTries g r d0 d1 k0 k1) two.0 first.knows in let only = then.untried two.1 in (only.0 ∙ was.0, reads_then g d0 d1 d2 r q (r + q) was.1 only.1 (omega arith));
    moves = moves first.moves then.moves;
    calls = makes_then g d0 d1 d2 n m (n + m) t s (t + s) first.calls then.calls (omega arith) (omega arith);
  }
