use Rattle.std.proofs.Common.{◌≡◌, ◌++◌}
use Rattle.ufs_model.proofs.Words.{edges_from, flat_map}
use Rattle.ufs_model.proofs.server.Server.entries_seen.Given as goal

-- what is left is still to be seen
abbrev pub invariant-loop-id : goal.invariant-loop-id
invariant-loop-id l = l.seen.items ++ flat_map (λ e. edges_from e.0 e.1) l.id-iterator ≡ flat_map (λ e. edges_from e.0 e.1) l.self.state.graph.objects
