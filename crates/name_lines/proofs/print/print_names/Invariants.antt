use Rattle.std.proofs.Common.{◌≡◌, ◌≤◌, ◌++◌, ◌∷◌, List, ℕ, take, vec_capacity}
use Rattle.std.specs.Prelude.{codes}
use Rattle.std.specs.List.{flat_map}
use Rattle.name_lines.proofs.print.print_names.Given as goal

abbrev pub invariant-names : goal.invariant-names
invariant-names l = record {
  items : l.name-items ≡ l.names;
  written : l.into.items ≡ (l.fn.into.items ++ codes "ok") ++ flat_map (λ (w : List ℕ). 32 ∷ w) (take l.name-index l.names);
  capacity : vec_capacity l.fn.into ≤ vec_capacity l.into;
}
