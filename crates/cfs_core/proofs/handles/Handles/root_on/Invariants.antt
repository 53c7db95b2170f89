use Rattle.std.proofs.Common.{◌≡◌, drop, nat_eq}
use Rattle.cfs_core.proofs.Words.{get}
use Rattle.cfs_core.specs.Handles.{handled, root_at}
use Rattle.cfs_core.proofs.handles.Handles.root_on.Given as goal

-- the grants before this place have no draft of it
abbrev pub invariant-loop-place : goal.invariant-loop-place
invariant-loop-place l = root_at l.fn.self.handles l.fn.id ≡ root_at (handled (get nat_eq l.self-inside.drafts) (drop l.place l.self-inside.grants.grants)) l.fn.id
