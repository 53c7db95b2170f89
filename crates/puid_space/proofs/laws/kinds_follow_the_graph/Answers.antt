use Rattle.std.proofs.Common.{◌∙◌, ap, not}
use Rattle.puid_space.proofs.Words.{is_among, object_kind, list_any, rises, ◌==◌}
use Rattle.puid_space.proofs.Graphs.{keys_of-kinds_in, directory_kind-kinds_in, kinds_in-insert_entry, insert_entry-same, kinds_in-filter}
use Rattle.puid_space.proofs.laws.kinds_follow_the_graph.Goals as goal

pub returns-clause-ids : goal.returns-clause-ids
returns-clause-ids c = λ g. keys_of-kinds_in g.objects

pub returns-clause-kind : goal.returns-clause-kind
returns-clause-kind c = λ g id. directory_kind-kinds_in g.objects id

pub returns-clause-root : goal.returns-clause-root
returns-clause-root c = λ g block. ap (λ ids. list_any (λ id. id.block == block) ids) (keys_of-kinds_in g.objects)

pub returns-clause-added : goal.returns-clause-added
returns-clause-added c = λ g id o. kinds_in-insert_entry g.objects id o

pub returns-clause-replaced : goal.returns-clause-replaced
returns-clause-replaced c = λ g id o sorted kind.
    kinds_in-insert_entry g.objects id o ∙ insert_entry-same _ id (object_kind o) (ap rises (keys_of-kinds_in g.objects) ∙ sorted) kind

pub returns-clause-gone : goal.returns-clause-gone
returns-clause-gone c = λ g ids. kinds_in-filter (λ id. not (is_among id ids)) g.objects
