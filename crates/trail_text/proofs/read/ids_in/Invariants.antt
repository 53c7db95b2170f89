use Rattle.std.proofs.Common.{◌≡◌, ◌++◌, drop, map}
use Rattle.trail_text.proofs.Words.{id_read, texts}
use Rattle.trail_text.proofs.read.ids_in.Given as goal

-- what is left is still to be read
abbrev pub invariant-words : goal.invariant-words
invariant-words l = l.ids.items ++ map id_read (texts (drop l.word-index l.words)) ≡ map id_read (texts l.words)
