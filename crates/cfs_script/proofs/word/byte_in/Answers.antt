use Rattle.std.proofs.Common.{sym, ◌∙◌}
use Rattle.cfs_script.proofs.WordLemmas.{byte_in-decoded}
use Rattle.cfs_script.proofs.word.byte_in.Goals as goal

pub returns : goal.returns
returns c = byte_in-decoded c.args.word.now c.in-Ok.bytes (sym c.from_hex.ensures ∙ c.in-Ok.is)
