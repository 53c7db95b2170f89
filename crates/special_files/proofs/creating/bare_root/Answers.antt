use Rattle.special_files.proofs.creating.NewRoots.{bare_made}
use Rattle.special_files.proofs.creating.bare_root.Goals as goal

pub returns-clause-object : goal.returns-clause-object
returns-clause-object c = bare_made c.args.kind c.args.fill c.args.size c.args.word c.requires
