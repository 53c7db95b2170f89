use Rattle.std.proofs.Common.{◌≡◌, ◌++◌, drop, map}
use Rattle.ufs_model.proofs.vanish.ids_opened.Given as goal

-- what is left is still to be told
abbrev pub invariant-grants : goal.invariant-grants
invariant-grants l = l.ids.items ++ map (λ g. g.id) (drop l.grant-index l.grants) ≡ map (λ g. g.id) l.grants
