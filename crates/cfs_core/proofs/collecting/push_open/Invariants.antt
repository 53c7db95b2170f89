use Rattle.std.proofs.Common.{◌≡◌, ◌++◌, map, take}
use Rattle.open_table.specs.declared.grant.OpenGrant.{OpenGrant}
use Rattle.cfs_core.proofs.collecting.push_open.Given as goal

abbrev pub invariant-loop-place : goal.invariant-loop-place
invariant-loop-place l = l.roots.items ≡ l.initial.roots.items ++ map (λ (x : OpenGrant). x.id) (take l.place l.grants.grants)
