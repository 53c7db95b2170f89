use Rattle.std.proofs.Common.{rules}
use Rattle.front_floor.proofs.steps.give.Goals as goal

pub returns-clause-step : goal.returns-clause-step
returns-clause-step g c = (c.args.machine, c.requires.empty, (search rules))
