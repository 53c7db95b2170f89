use Rattle.collector_steps.proofs.Shaded.{if_below}
use Rattle.collector_steps.proofs.shading.kind_of.Goals as goal

pub returns-clause-inside : goal.returns-clause-inside
returns-clause-inside c = if_below c.args.directory.now c.args.id c.kind.result c.directories_are_listings.ensures c.kind.ensures
