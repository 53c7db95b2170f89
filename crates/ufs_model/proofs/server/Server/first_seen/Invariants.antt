use Rattle.std.proofs.Common.{drop}
use Rattle.ufs_model.proofs.Words.{open_ids, pairs_of}
use Rattle.ufs_model.proofs.Remembered.{IsSeeing}
use Rattle.ufs_model.proofs.server.Server.first_seen.Given as goal

abbrev pub invariant-ids : goal.invariant-ids
invariant-ids l = IsSeeing (pairs_of l.self.state) (open_ids l.self.state) (drop l.id-index l.id-items) l.self.state.graph.root l.seen.items l.«open».keys
