use Rattle.std.proofs.Common.{Some, rules}
use Rattle.cfs_serve.specs.Commands.{asked_of}
use Rattle.cfs_serve.proofs.Fitting.{fits}
use Rattle.floor_trials.proofs.service.expect_form.Goals as goal

pub returns-clause-disk : goal.returns-clause-disk
returns-clause-disk g c = fits c.in-Ok.named.volume c.args.blocks (asked_of (Some c.in-Some.command)) c.in-Ok.ensures.volume (c.is_for-fits.ensures (search rules))
