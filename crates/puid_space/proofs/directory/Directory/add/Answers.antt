use Rattle.std.proofs.Common.{arith}
use Rattle.puid_space.proofs.Opened.{added}
use Rattle.puid_space.proofs.directory.Directory.add.Goals as goal

pub overflow_add-self : goal.overflow_add-self
overflow_add-self c = omega (arith, (added c.self.inside c.args.self.now c.self.view_is c.self.invariant c.args.id c.args.kind c.requires.room c.requires.free (omega arith)).2)

pub invariant_of-self : goal.invariant_of-self
invariant_of-self c = (added c.self.inside c.args.self.now c.self.view_is c.self.invariant c.args.id c.args.kind c.requires.room c.requires.free (omega arith)).0

pub returns-clause-named : goal.returns-clause-named
returns-clause-named c = (added c.self.inside c.args.self.now c.self.view_is c.self.invariant c.args.id c.args.kind c.requires.room c.requires.free (omega arith)).1
