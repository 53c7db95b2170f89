use Rattle.std.proofs.Common.{ap}
use Rattle.special_files.proofs.Words.{number_if}
use Rattle.special_files.proofs.abort.give_made.Goals as goal

pub gave-requires : goal.gave-requires
gave-requires c = record { on_disk = c.requires.on_disk _ (ap number_if c.in-Some.is) }
