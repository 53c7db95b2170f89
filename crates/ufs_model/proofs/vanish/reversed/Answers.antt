use Rattle.std.proofs.Common.{◌∙◌, reverse, ap}
use Rattle.ufs_model.proofs.Remembered.{cut_back}
use Rattle.ufs_model.proofs.vanish.reversed.Goals as goal

pub returns : goal.returns
returns c = cut_back c.args.seen.items c.reverse.new.self c.args.seen.len (c.reverse.ensures.after ∙ ap reverse c.as_mut_slice.ensures.value) c.args.seen.ok.0
