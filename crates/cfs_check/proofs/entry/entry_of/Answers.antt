use Rattle.std.proofs.Common.{◌≡◌, ◌%◌, ◌∙◌, ap}
use Rattle.cyl_map.specs.Volume.{entry_in}
use Rattle.cyl_map.specs.Map as spec
use Rattle.cfs_check.proofs.entry.entry_of.Goals as goal

pub returns : goal.returns
unfolding entry_in
returns c = c.read_in.ensures ∙ ap (λ b. spec.entry_at b (c.args.block % 64)) c.block.ensures
