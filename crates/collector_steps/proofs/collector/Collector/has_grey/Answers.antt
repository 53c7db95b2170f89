use Rattle.std.proofs.Common.{sym}
use Rattle.collector_steps.proofs.Firsts.{some_first}
use Rattle.collector_steps.proofs.collector.Collector.has_grey.Goals as goal

pub returns : goal.returns
returns c = rw (c.is_some.ensures, c.next_grey.ensures.first, sym c.self.view_is) (some_first c.self.inside.marks.grey)
