use Rattle.std.proofs.Common.{◌≡◌, ◌+◌, ◌-◌, length, List, ℕ, ◌∷◌, ◌++◌, replicate, drop, refl, ap, arith, ◌∙◌}
use Rattle.std.proofs.lemmas.List.{drop-replicate}
use Rattle.name_dirs.specs.Text.{longest_name, spelled}
use Rattle.name_dirs.proofs.row.row_of.Goals as goal

-- the name, and the zeros that it leaves
by_parts : (w ys zs : List ℕ) → ys ≡ w → zs ≡ drop (1 + length w - 1) (replicate 63 0) → length w ∷ (ys ++ zs) ≡ spelled w
by_parts w ys zs same rest =
    let few : 63 - (1 + length w - 1) ≡ longest_name - length w = omega arith in
    let zeros : zs ≡ replicate (longest_name - length w) 0 = rest ∙ drop-replicate (1 + length w - 1) 63 0 ∙ ap (λ (n : ℕ). replicate n 0) few in
    rw (same, zeros)

pub returns : goal.returns
returns c = by_parts c.args.name.now c.copy_from_slice.new.self _ c.copy_from_slice.ensures.after refl
