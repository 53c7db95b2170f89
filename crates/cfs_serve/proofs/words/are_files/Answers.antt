use Rattle.std.proofs.Common.{map, arith}
use Rattle.cfs_serve.proofs.Cited.{length-map, string_bytes}
use Rattle.cfs_serve.proofs.Wording.{two_words}
use Rattle.cfs_serve.proofs.words.are_files.Goals as goal

pub returns-then-inputs-le1-clause-few : goal.returns-then-inputs-le1-clause-few
returns-then-inputs-le1-clause-few c = λ both. omega (arith, two_words (map string_bytes c.args.words.now), length-map c.args.words.now string_bytes, c.if-words.false)
