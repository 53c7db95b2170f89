-- The words of a seed, drawn in turn.
use Rattle.std.specs.Prelude.{ℕ, ◌++◌, replicate}
use Rattle.std.specs.Int.{w64, to_le_bytes}
use Rattle.rand_chacha.specs.ChaCha.{ChaCha, key_of}

-- the seed, and how many of its words were drawn
pub record Draws : Type 0 where
  pub seed : ℕ
  pub drawn : ℕ

-- the generator of a seed's words, at this place
abbrev pub stream_at : ℕ → ℕ → ChaCha
stream_at seed k = record { key = key_of (to_le_bytes w64 seed ++ replicate 24 0); stream = 0; word_pos = k }
