use Rattle.std.proofs.Common.{◌∙◌, ap, subst}
use Rattle.cyl_map.specs.Map as spec
use Rattle.cyl_map.proofs.Maps.{entries_read}
use Rattle.cyl_map.proofs.map.Map.encode.Goals as goal

pub returns-clause-entries : goal.returns-clause-entries
returns-clause-entries c =
    entries_read c.of.result c.args.self.now (subst spec.IsMap c.self.view_is c.self.invariant.entries) (c.of.ensures ∙ c.self.invariant.spelled ∙ ap spec.map_spelling c.self.view_is)
