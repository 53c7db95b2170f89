use Rattle.std.proofs.Common.{◌≡◌, ◌++◌, drop, map}
use Rattle.trail_text.proofs.Words.{letters, list_all, spaced, string_bytes, word_within}
use Rattle.trail_text.proofs.word.put.Given as goal

-- what is left is still to be put, and decides
abbrev pub invariant-words : goal.invariant-words
invariant-words l =
    (string_bytes l.fn.line ++ spaced (map letters l.words) ≡ string_bytes l.line ++ spaced (map letters (drop l.word-index l.words)))
    × (list_all word_within l.words ≡ list_all word_within (drop l.word-index l.words))
