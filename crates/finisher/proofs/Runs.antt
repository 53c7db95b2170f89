-- What is left of a commit, where each run of blocks of one map costs one read and one write.
use Rattle.std.proofs.Common.{◌≡◌, ℕ, ◌+◌, ◌*◌, ◌/◌, ◌≤◌, Bool, true, false, List, [], ◌∷◌, ◌++◌, length, Option, Some, None, refl, sym, ◌∙◌, ap, arith, cond}
use Rattle.std.specs.Prelude.{◌==◌, IsSome}
use Rattle.std.specs.List.{All}
use Rattle.std.proofs.lemmas.Bool.{eqb-true}
use Rattle.cfs_base.proofs.Calls.{makes_then}
use Rattle.cfs_base.specs.Calls.{MakesAtMost}
use Rattle.cfs_base.specs.declared.disk.Disk.{Ghosts}
use Rattle.cyl_alloc.specs.Left.{LeftCommit, after_in, after_next, after_part, flips_in, next_part_in, next_part_of}
use Rattle.finisher.specs.Going.{calls_left, part_calls, tries_left, part_tries}
use Rattle.finisher.specs.Runs.{Spends, calls_by_map, tries_by_map}
use Rattle.intentions.specs.Runs.{IsFirst, runs}
use Rattle.intentions.proofs.Runs.{one_run, runs_most}

-- ---- what is left costs no more than by blocks

pub by_map_most : (w : Option LeftCommit) → (calls_by_map w ≤ calls_left w) × (tries_by_map w ≤ tries_left w)
by_map_most None = (omega arith, omega arith)
by_map_most (Some l) = (omega (arith, runs_most l.rest), omega (arith, runs_most l.rest))

pub one_map_most : (w : Option LeftCommit) (l : LeftCommit) (c : ℕ) → w ≡ Some l → All (λ n. n / 64 ≡ c) l.rest → (calls_by_map w ≤ 9) × (tries_by_map w ≤ 6)
one_map_most w l c is all = at l.copied refl
  where
    at : (b : Bool) → l.copied ≡ b → (calls_by_map w ≤ 9) × (tries_by_map w ≤ 6)
    at b eb = (
      omega (arith, ap calls_by_map is, ap {B = ℕ} (λ (b : Bool). cond b 0 3) eb, cond_most b 3, one_run c l.rest all),
      omega (arith, ap tries_by_map is, ap {B = ℕ} (λ (b : Bool). cond b 0 2) eb, cond_most b 2, one_run c l.rest all),
    )
      where
        cond_most : (b : Bool) (n : ℕ) → cond b 0 n ≤ n
        cond_most true n = omega arith
        cond_most false n = omega arith

-- ---- what is left costs less after a run, and after any other part

pub makes_more : {D : Type 0} (g : Ghosts D) (old new : D) (n t m s : ℕ) → n ≤ m → t ≤ s → MakesAtMost g n t old new → MakesAtMost g m s old new
makes_more g old new n t m s le lt is = record { later = is.later; keeps = is.keeps; same = is.same; faults = is.faults; calls = omega (arith, is.calls); tries = omega (arith, is.tries); no_fewer = is.no_fewer }

module _ {D : Type 0} (g : Ghosts D) (d0 d1 d2 : D) (w0 w1 : Option LeftCommit) (first : Spends g d0 d1 w0 w1) where
  pub spends_then : (w2 : Option LeftCommit) → Spends g d1 d2 w1 w2 → Spends g d0 d2 w0 w2
  spends_then w2 second = record {
    calls = first.calls + second.calls;
    tries = first.tries + second.tries;
    calls_fall = omega (arith, first.calls_fall, second.calls_fall);
    tries_fall = omega (arith, first.tries_fall, second.tries_fall);
    made = makes_then g d0 d1 d2 first.calls second.calls (first.calls + second.calls) first.tries second.tries (first.tries + second.tries) first.made second.made (omega arith) (omega arith);
  }

  -- a part that is refused costs no more than what is left
  pub spends_last : (l : LeftCommit) → w1 ≡ Some l → MakesAtMost g 4 3 d1 d2 → MakesAtMost g (calls_by_map w0) (tries_by_map w0) d0 d2
  spends_last l is last = makes_then g d0 d1 d2 first.calls 4 (calls_by_map w0) first.tries 3 (tries_by_map w0) first.made last (omega (arith, first.calls_fall, ap calls_by_map is)) (omega (arith, first.tries_fall, ap tries_by_map is))

pub spent : {D : Type 0} (g : Ghosts D) (d0 d1 : D) (w : Option LeftCommit) → Spends g d0 d1 w None → MakesAtMost g (calls_by_map w) (tries_by_map w) d0 d1
spent g d0 d1 w spends = makes_more g d0 d1 spends.calls spends.tries (calls_by_map w) (tries_by_map w) (omega (arith, spends.calls_fall)) (omega (arith, spends.tries_fall)) spends.made

-- the same of whole commits, by blocks and where all lie in one map
module _ {D : Type 0} (g : Ghosts D) (old new : D) (w : Option LeftCommit) (made : MakesAtMost g (calls_by_map w) (tries_by_map w) old new) where
  pub by_blocks : MakesAtMost g (calls_left w) (tries_left w) old new
  by_blocks = (let most = by_map_most w in makes_more g old new (calls_by_map w) (tries_by_map w) (calls_left w) (tries_left w) most.0 most.1 made)

  pub in_one_map : (l : LeftCommit) (c : ℕ) → w ≡ Some l → All (λ n. n / 64 ≡ c) l.rest → MakesAtMost g 9 6 old new
  in_one_map l c is all = (let most = one_map_most w l c is all in makes_more g old new (calls_by_map w) (tries_by_map w) 9 6 most.0 most.1 made)

pub step_spends : (l : LeftCommit) → flips_in (Some l) ≡ [] → (part_calls (next_part_of l) + calls_by_map (after_part l) ≡ calls_by_map (Some l)) × (part_tries (next_part_of l) + tries_by_map (after_part l) ≡ tries_by_map (Some l))
step_spends l none = at l.copied l.rest refl refl
  where
    at : (b : Bool) (rest : List ℕ) → l.copied ≡ b → l.rest ≡ rest → (part_calls (next_part_in l b rest) + calls_by_map (after_in l b rest) ≡ cond b 0 3 + (2 * runs rest + 4)) × (part_tries (next_part_in l b rest) + tries_by_map (after_in l b rest) ≡ cond b 0 2 + (runs rest + 3))
    at false rest eb er = (omega (arith, ap runs er), omega (arith, ap runs er))
    at true [] eb er = (refl, refl)
    at true (n ∷ ns) eb er = absurd (let no : n ∷ ns ≡ [] = sym er ∙ sym (ap (λ (b : Bool). cond b l.rest []) eb) ∙ none in cc)

pub step_pays : {D : Type 0} (g : Ghosts D) (d0 d1 : D) (w now : Option LeftCommit) → IsSome w → flips_in w ≡ [] → now ≡ after_next w
    → ((l : LeftCommit) → w ≡ Some l → MakesAtMost g (part_calls (next_part_of l)) (part_tries (next_part_of l)) d0 d1) → Spends g d0 d1 w now
step_pays g d0 d1 None now some none is made = cc
step_pays g d0 d1 (Some l) now some none is made =
    let costs = step_spends l none in
    record {
      calls = part_calls (next_part_of l);
      tries = part_tries (next_part_of l);
      calls_fall = omega (arith, costs.0, ap calls_by_map is);
      tries_fall = omega (arith, costs.1, ap tries_by_map is);
      made = made l refl;
    }

-- ---- what is left has flips next

pub first_left : (n : ℕ) (w : Option LeftCommit) → IsFirst n (flips_in w) → (l : LeftCommit) × (w ≡ Some l) × (l.copied ≡ true) × (flips_in w ≡ l.rest)
first_left n None is = absurd is
first_left n (Some l) is = at l.copied refl is
  where
    at : (b : Bool) → l.copied ≡ b → IsFirst n (cond b l.rest []) → (x : LeftCommit) × (Some l ≡ Some x) × (x.copied ≡ true) × (cond l.copied l.rest [] ≡ x.rest)
    at true eb is = (l, refl, eb, ap (λ (b : Bool). cond b l.rest []) eb)
    at false eb is = absurd is

pub none_is : (ns : List ℕ) → (length ns == 0) ≡ true → ns ≡ []
none_is [] is = refl
none_is (m ∷ ms) is = absurd (omega (arith, eqb-true (length (m ∷ ms)) 0 is))
