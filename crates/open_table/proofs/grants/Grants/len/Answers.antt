use Rattle.std.proofs.Common.{◌∙◌, sym, ap}
use Rattle.open_table.proofs.Words.{Table, is_grant_table}
use Rattle.open_table.proofs.Tied.{is_grant_table-all}
use Rattle.open_table.proofs.grants.Grants.len.Goals as goal

pub returns-clause-held : goal.returns-clause-held
returns-clause-held c = sym (ap (λ (t : Table). is_grant_table t.grants) c.self.view_is) ∙ is_grant_table-all c.self.invariant
