use Rattle.std.proofs.Common.{◌≡◌, ◌⊎◌, inl, inr, ℕ, ◌-◌, ◌<◌, ◌≤◌, ◌++◌, Bool, false, List, refl, get_or, length, replicate, sym, ◌∙◌, ap, arith}
use Rattle.special_files.proofs.Words.{cases_lt, get_or-append_right, get_or-replicate, get_or_past, length-replicate}
use Rattle.special_files.proofs.flags.Flags.clear_from.Goals as goal

-- no flag past those that were put is set
unset : (xs : List Bool) (n k : ℕ) → length xs ≤ k → get_or (xs ++ replicate n false) k false ≡ false
unset xs n k past = get_or-append_right xs (replicate n false) (length xs) k false refl past ∙ by (cases_lt (k - length xs) n)
  where
    by : (k - length xs < n) ⊎ (n ≤ k - length xs) → get_or (replicate n false) (k - length xs) false ≡ false
    by (inl below) = get_or-replicate n (k - length xs) false false below
    by (inr beyond) = get_or_past (replicate n false) (k - length xs) false (omega (arith, beyond, length-replicate n false))

pub returns-clause-after : goal.returns-clause-after
returns-clause-after c k from = by (cases_lt k c.loop-at.at)
  where
    by : (k < c.loop-at.at) ⊎ (c.loop-at.at ≤ k) → get_or c.loop-at.self k false ≡ false
    by (inl below) = c.loop-at.invariant.past k from below
    by (inr beyond) = c.loop-at.invariant.later k beyond ∙ ap (λ fs. get_or fs k false) (sym c.self.view_is)
        ∙ unset c.self.inside.items.items _ k (omega (arith, beyond, c.loop-at-test.false, c.len-reached.ensures, c.self.invariant))
