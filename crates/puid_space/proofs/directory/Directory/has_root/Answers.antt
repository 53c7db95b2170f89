use Rattle.std.proofs.Common.{arith}
use Rattle.puid_space.proofs.Listed.{root-listed}
use Rattle.puid_space.proofs.directory.Directory.has_root.Goals as goal

pub returns : goal.returns
returns c = rw (← c.self.view_is) (let found = root-listed 0 c.self.inside.cells.items c.args.block c.args.block (omega arith) in cc)
