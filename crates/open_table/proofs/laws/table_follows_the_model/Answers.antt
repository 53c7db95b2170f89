use Rattle.std.proofs.Common.{◌≡◌, ◌∙◌, ℕ, ◌&&◌, ap, sym, not, length, eqb, leb}
use Rattle.open_table.proofs.Words.{MOST_GRANTS, Mode, Puid, Reading, State, Writing, collides, conflicts, is_session_grant, is_locked, list_any, same_puid}
use Rattle.ufs_model.specs.declared.asked.Request.TheVariants as asks
use Rattle.open_table.proofs.Models.{find-table, filter-table, length-table, found-any, met-reading, met-writing, open_for_writing}
use Rattle.open_table.proofs.laws.table_follows_the_model.Goals as goal

pub returns-clause-found : goal.returns-clause-found
returns-clause-found c = λ s who t. find-table (is_session_grant who t) s.grants

pub returns-clause-open : goal.returns-clause-open
returns-clause-open c = λ s id. found-any (λ g. same_puid id g.id) s.grants

pub returns-clause-written : goal.returns-clause-written
returns-clause-written c = λ s id apart. open_for_writing s.grants id apart

met : (s : State) (who : ℕ) (id : Puid) (mode : Mode) → list_any (λ g. same_puid id g.id && conflicts mode g.mode) s.grants ≡ is_locked s who (asks.OpenFor id mode)
met s who id Reading = met-reading s.grants id
met s who id Writing = met-writing s.grants id

pub returns-clause-locked : goal.returns-clause-locked
returns-clause-locked c = λ s who g. found-any (collides g) s.grants ∙ met s who g.id g.mode

pub returns-clause-full : goal.returns-clause-full
returns-clause-full c = λ s who id mode. ap (λ count. leb MOST_GRANTS count) (ap length (filter-table (λ g. eqb g.session who) s.grants) ∙ length-table _)

pub returns-clause-closed : goal.returns-clause-closed
returns-clause-closed c = λ seed s who t commit b. sym (filter-table (λ g. not (is_session_grant who t g)) s.grants)

pub returns-clause-left : goal.returns-clause-left
returns-clause-left c = λ s who. sym (filter-table (λ g. not (eqb g.session who)) s.grants)
