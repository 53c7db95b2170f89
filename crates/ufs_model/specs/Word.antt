-- The random words.
use Rattle.std.specs.Prelude.{ℕ, ◌++◌, replicate}
use Rattle.std.specs.Int.{w64, to_le_bytes}
use Rattle.rand_chacha.specs.ChaCha.{ChaCha, word_at, key_of}

-- The word at place k of the ChaCha20 stream of a seed. The key is the seed's 8 little-endian bytes and 24 zero
-- bytes, and the stream number is 0. The root identifier has word 0.
unfoldable pub word : ℕ → ℕ → ℕ
word seed k = word_at 10 (key_of (to_le_bytes w64 seed ++ replicate 24 0)) 0 k

-- the generator that gives the words from place k on
unfoldable pub words_from : ℕ → ℕ → ChaCha
words_from seed k = record { key = key_of (to_le_bytes w64 seed ++ replicate 24 0); stream = 0; word_pos = k }

-- a seed, and how many of its words were drawn
pub record Drawing : Type 0 where
  pub seed : ℕ
  pub drawn : ℕ
