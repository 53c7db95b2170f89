use Rattle.std.proofs.Common.{◌≡◌, ℕ, ◌*◌, ◌<◌, List, Option, refl, sym, ◌∙◌, ap, subst}
use Rattle.special_files.proofs.Words.{All, Flips, Ghosts, Kept, Result, Trouble, Undo, given_all, number_if, option_to_list, undoing}
use Rattle.special_files.proofs.abort.CommitAbort.{abort_ends}
use Rattle.special_files.proofs.abort.give_up.Goals as goal

-- the same of the draft's parts
flips_of : {D : Type 0} {g : Ghosts D} {n t : ℕ} (taken : List ℕ) {shadow was_shadow made was_made : Option ℕ} {d0 d1 : D} {r : Result (Unit {0}) Trouble} → was_shadow ≡ shadow → was_made ≡ made → Flips g n t Undo (undoing taken shadow made) d0 d1 r → Flips g n t Undo (undoing taken was_shadow was_made) d0 d1 r
flips_of taken shadow made f = rw (shadow, made) f

pub give_all-requires : goal.give_all-requires
give_all-requires g c = record { on_disk = subst (λ (k : ℕ). All (λ n. n < k) c.args.taken.now) c.requires.size c.requires.taken_on_disk }

pub give_made-requires : goal.give_made-requires
give_made-requires g c = record { on_disk = λ n is. subst (λ (k : ℕ). n < k) (c.requires.size ∙ ap (λ (k : ℕ). 64 * k) (sym c.give_all.ensures.cylinders)) (c.requires.shadow_on_disk n is) }

pub give_made-requires-in-Ok : goal.give_made-requires-in-Ok
give_made-requires-in-Ok g c = record { on_disk = λ n is. subst (λ (k : ℕ). n < k) (c.requires.size ∙ ap (λ (k : ℕ). 64 * k) (sym (c.give_made.ensures.cylinders ∙ c.give_all.ensures.cylinders))) (c.requires.created_on_disk n is) }

pub returns-in-Ok : goal.returns-in-Ok
returns-in-Ok g c = record {
  ends = λ was v shadow made lists.
      let given = c.give_made-in-Ok.ensures.given ∙ ap (λ (k : Kept). given_all k (option_to_list (number_if c.args.created))) (c.give_made.ensures.given ∙ ap (λ (k : Kept). given_all k (option_to_list (number_if c.args.shadow))) c.give_all.ensures.given) in
      abort_ends v lists (flips_of c.args.taken.now shadow made c.in-Ok.ensures.flips) (given ∙ (λ i. given_all (given_all (given_all c.args.space.now c.args.taken.now) (option_to_list (sym shadow i))) (option_to_list (sym made i))));
  fails = λ at. tt;
  cylinders = c.give_made-in-Ok.ensures.cylinders ∙ c.give_made.ensures.cylinders ∙ c.give_all.ensures.cylinders;
  left = c.give_made-in-Ok.ensures.left ∙ c.give_made.ensures.left ∙ c.give_all.ensures.left;
  calls = c.in-Ok.ensures.flips.calls;
}

pub returns-in-Err : goal.returns-in-Err
returns-in-Err g c = record {
  ends = λ was v shadow made lists. abort_ends v lists (flips_of c.args.taken.now shadow made c.in-Err.ensures.flips) tt;
  fails = λ at. c.in-Err.ensures.flips.fails at c.args.space.now;
  cylinders = refl;
  left = refl;
  calls = c.in-Err.ensures.flips.calls;
}
