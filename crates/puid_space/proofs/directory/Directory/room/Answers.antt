use Rattle.puid_space.proofs.Opened.{in_order}
use Rattle.puid_space.proofs.directory.Directory.room.Goals as goal

pub returns-clause-listing : goal.returns-clause-listing
returns-clause-listing c = in_order c.self.inside c.args.self.now c.self.view_is c.self.invariant
