-- The table of the shadow roots that stand.
use Rattle.std.proofs.Common.{◌≡◌, ◌≢◌, ℕ, zero, suc, ◌+◌, ◌-◌, ◌<◌, Bool, true, false, cond, List, ◌∷◌, length, set, get_or, replicate, refl, sym, ◌∙◌, ap, arith, map, ◌==◌}
use Rattle.cfs_recover.proofs.Words.{One, Several, Shadow, get_or_default_zero, map-set, nat_tests, ne_eqb, one_more, shadow_of}
use Rattle.std.proofs.Math.ListN as lists
use Rattle.cfs_recover.specs.declared.standing.Shadow.TheVariants.{None}

pub none_stand : (n : ℕ) → map shadow_of (replicate n 0) ≡ replicate n None
none_stand zero = refl
none_stand (suc n) = ap (λ (rest : List Shadow). None ∷ rest) (none_stand n)

pub noted : (of : List ℕ) (r n : ℕ) → map shadow_of (set of r n) ≡ set (map shadow_of of) r (shadow_of n)
noted of r n = map-set shadow_of of r n

-- ---- one more stands for r, for which a number says what stood

says_one : (s : ℕ) → s + 1 < 4294967295 → shadow_of (s + 1) ≡ One s
says_one s few = grind (arith, nat_tests)

several : (n s : ℕ) → n ≢ 0 → one_more (shadow_of n) s ≡ Several
several n s some = rw (ne_eqb n 0 some) (at (n == 4294967295))
  where
    at : (b : Bool) → one_more (cond b Several (One (n - 1))) s ≡ Several
    at true = refl
    at false = refl

module _ (of : List ℕ) (r n s : ℕ) (inside : r < length of) (value : n ≡ get_or of r n) where
  says : get_or (map shadow_of of) r None ≡ shadow_of n
  says = lists.get_or-map shadow_of of r 0 ∙ ap shadow_of (sym (value ∙ get_or_default_zero of r n inside))

  pub the_first : n ≡ 0 → s + 1 < 4294967295 → shadow_of (s + 1) ≡ one_more (get_or (map shadow_of of) r None) s
  the_first none few = says_one s few ∙ sym (ap (λ (t : Shadow). one_more t s) (says ∙ ap shadow_of none))

  pub one_more_stands : n ≢ 0 → shadow_of 4294967295 ≡ one_more (get_or (map shadow_of of) r None) s
  one_more_stands some = sym (ap (λ (t : Shadow). one_more t s) says ∙ several n s some)
