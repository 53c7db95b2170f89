use Rattle.std.proofs.Common.{◌≡◌, length, true}
use Rattle.open_table.proofs.Words.{grants_of, without_session}
use Rattle.open_table.proofs.grants.Grants.drop_session.Given as goal

abbrev pub invariant-loop-grant : goal.invariant-loop-grant
invariant-loop-grant l =
    (without_session l.self.grants l.who ≡ without_session l.fn.self.grants l.who) × (l.fn.self.has_room ≡ true → l.self.has_room ≡ true)

abbrev pub decreases-loop-grant : goal.decreases-loop-grant
decreases-loop-grant l = length (grants_of l.self.grants l.who)
